use Rattle.swaps.proofs.Exchanges.{Sorts}
use Rattle.swaps.proofs.sort.Given as goal

abbrev pub invariant-loop-i : goal.invariant-loop-i
invariant-loop-i l = Sorts l.runs l.initial.elems l.initial.shared l.elems l.shared l.i
