use Rattle.std.proofs.Common.{refl}
use Rattle.clones.proofs.Rows.{rowing_start, rowing_next}
use native.Mathlib.Omega.{arith}
use Rattle.clones.proofs.clear_row.Goals as goal

pub loop-field-init : goal.loop-field-init
loop-field-init c = rowing_start _ _ _ _

pub loop-field-preserved : goal.loop-field-preserved
loop-field-preserved c = rowing_next _ _ _ c.requires _ _ _ c.loop-field.invariant c.loop-field-test.true _ _ refl c.put.ensures

pub returns : goal.returns
returns c = let R = c.loop-field.invariant in record { long = R.long; none = λ f h. R.there f (omega arith); still = R.still }
