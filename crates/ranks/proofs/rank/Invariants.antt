use Rattle.ranks.proofs.Ranking.{Ranking}
use Rattle.ranks.proofs.rank.Given as goal

abbrev pub invariant-loop-k : goal.invariant-loop-k
invariant-loop-k l = Ranking l.layout.width l.initial.t l.layout.used l.layout.into l.t l.k l.ranked
