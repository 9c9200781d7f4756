use Rattle.moves.proofs.Laying.{Laying}
use Rattle.moves.proofs.lay.Given as goal

abbrev pub invariant-loop-k : goal.invariant-loop-k
invariant-loop-k l = Laying l.initial.elems l.initial.shared l.headers l.elems l.shared l.k l.at
