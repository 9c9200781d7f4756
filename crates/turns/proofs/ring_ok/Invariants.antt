use Rattle.rules.proofs.Laws.Chains.{Both}
use Rattle.rules.proofs.Laws.Rounds.{Within, Round}
use Rattle.turns.proofs.ring_ok.Given as goal

abbrev pub invariant-loop-left : goal.invariant-loop-left
invariant-loop-left l = Within l.extent l.y × Both (Round l.e l.extent l.class l.x l.left l.rest l.y) (Round l.e l.extent l.class l.x l.count l.total l.x)
