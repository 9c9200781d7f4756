use Rattle.rings.proofs.Freeing.{Freeing}
use Rattle.rings.proofs.frees.free_ring.Given as goal

abbrev pub invariant-loop : goal.invariant-loop
invariant-loop l = Freeing l.initial.next l.initial.elems l.n l.x l.next l.elems l.counter l.at
