-- The numbers passed are written, each after a space.
use Rattle.told.proofs.Puts.{Written}
use Rattle.told.proofs.answers.put_numbers.Given as goal

abbrev pub invariant-loop-number : goal.invariant-loop-number
invariant-loop-number l = Written l.initial.out l.at l.numbers l.out l.next l.number-index
