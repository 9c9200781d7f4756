use native.Mathlib.Omega.{arith}
use Rattle.place.proofs.Passes.{filling_next}
use Rattle.place.proofs.fill.Goals as goal

pub loop-slot-preserved : goal.loop-slot-preserved
loop-slot-preserved c = let F = c.loop-slot.invariant in filling_next _ _ _ _ _ F (omega arith) (record { some = omega arith; inside = rw F.beside.long (omega (arith, c.requires.1, c.loop-slot-test.true)) }) _ c.put.ensures
