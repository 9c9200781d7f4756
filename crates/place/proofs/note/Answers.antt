use native.Mathlib.Omega.{arith}
use Rattle.place.proofs.Passes.{noting_start, noting_small, noting_next}
use Rattle.place.proofs.note.Goals as goal

pub loop-k-init : goal.loop-k-init
loop-k-init c = noting_start _ _

pub overflow_add-at : goal.overflow_add-at
overflow_add-at c = rw (c.get-count.ensures, c.get-class.ensures) (omega (arith, noting_small _ _ _ _ _ _ c.requires c.loop-k.invariant c.loop-k-test.true))

pub loop-k-preserved : goal.loop-k-preserved
loop-k-preserved c = noting_next _ _ _ _ _ _ c.requires c.loop-k.invariant c.loop-k-test.true _ _ _ c.get-class.ensures c.get-count.ensures c.put.ensures
