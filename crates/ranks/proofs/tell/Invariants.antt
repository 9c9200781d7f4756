use Rattle.ranks.proofs.Telling.{Telling}
use Rattle.ranks.proofs.tell.Given as goal

abbrev pub invariant-loop-k : goal.invariant-loop-k
invariant-loop-k l = Telling l.elems l.initial.out l.generation l.out l.k l.told
