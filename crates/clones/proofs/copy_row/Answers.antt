use Rattle.clones.proofs.Rows.{rowing_start, rowing_next}
use native.Mathlib.Omega.{arith}
use Rattle.clones.proofs.copy_row.Goals as goal

pub loop-field-init : goal.loop-field-init
loop-field-init c = rowing_start _ _ _ _

pub loop-field-preserved : goal.loop-field-preserved
loop-field-preserved c = rowing_next _ _ _ c.requires.0 _ _ _ c.loop-field.invariant c.loop-field-test.true _ _ c.get-value.ensures c.put.ensures

pub returns : goal.returns
returns c = let R = c.loop-field.invariant in record { long = R.long; there = λ f h. R.there f (omega arith); still = R.still }
