use native.Mathlib.Omega.{arith}
use Rattle.place.proofs.Passes.{recovering_start, recovering_room, recovering_next}
use Rattle.place.proofs.recover.Goals as goal

pub loop-k-init : goal.loop-k-init
loop-k-init c = recovering_start _ _

pub fill-requires : goal.fill-requires
fill-requires c = rw c.get-count.ensures (c.loop-k.invariant.low, recovering_room _ _ _ _ _ _ c.requires c.loop-k.invariant c.loop-k-test.true)

pub overflow_add-at : goal.overflow_add-at
overflow_add-at c = rw c.get-count.ensures (omega (arith, recovering_room _ _ _ _ _ _ c.requires c.loop-k.invariant c.loop-k-test.true))

pub loop-k-preserved : goal.loop-k-preserved
loop-k-preserved c = recovering_next _ _ _ _ _ _ c.requires c.loop-k.invariant c.loop-k-test.true _ _ c.get-count.ensures c.fill.ensures
