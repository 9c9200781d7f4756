use Rattle.place.proofs.Passes.{Recovering}
use Rattle.place.proofs.recover.Given as goal

abbrev pub invariant-loop-k : goal.invariant-loop-k
invariant-loop-k l = Recovering l.initial.elems l.shared l.elems l.k l.at
