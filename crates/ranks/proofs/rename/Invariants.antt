use Rattle.ranks.specs.Passes.{Renamed}
use Rattle.ranks.proofs.rename.Given as goal

abbrev pub invariant-loop-k : goal.invariant-loop-k
invariant-loop-k l = Renamed l.initial.elems l.shared l.k l.elems
