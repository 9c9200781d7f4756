use Rattle.place.proofs.Passes.{Noting}
use Rattle.place.proofs.note.Given as goal

abbrev pub invariant-loop-k : goal.invariant-loop-k
invariant-loop-k l = Noting l.initial.elems l.shared l.elems l.k l.at
