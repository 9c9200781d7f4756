use Rattle.copies.proofs.Ring.{Copying}
use Rattle.copies.proofs.copy_ring.Given as goal

abbrev pub invariant-loop-i : goal.invariant-loop-i
invariant-loop-i l = Copying l.initial.elems l.initial.scratch l.x l.a l.n l.generation l.elems l.scratch l.i l.at
