use native.Mathlib.Omega.{arith}
use Rattle.file_checks.proofs.Summing.{total_more, total_none}
use Rattle.file_checks.proofs.sizes.Goals as goal

pub loop-i-init : goal.loop-i-init
loop-i-init c = (total_none c.args.b.now c.args.at, omega arith)

pub loop-i-preserved : goal.loop-i-preserved
loop-i-preserved c =
    (omega (arith, c.loop-i.invariant.0, c.get4-sum.ensures.0, total_more c.args.b.now c.args.at c.loop-i.i), omega (arith, c.loop-i.invariant.1, c.get4-sum.ensures.1))
