use native.Mathlib.Omega.{arith}
use Rattle.told.proofs.Puts.{written_more}
use Rattle.told.proofs.answers.put_numbers.Goals as goal

pub loop-number-preserved : goal.loop-number-preserved
loop-number-preserved c = written_more c.loop-number.invariant (omega arith) c.put_text-place.ensures c.put_decimal-next.ensures.put c.put_decimal-next.ensures.upper_bound (omega (arith, c.loop-number.invariant.long))
