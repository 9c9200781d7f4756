use Rattle.rules.specs.Tables.{state_of}
use Rattle.sweeps.proofs.Emptying.{Scanning}
use Rattle.sweeps.proofs.drain_slots.Given as goal

abbrev pub invariant-loop-slot : goal.invariant-loop-slot
invariant-loop-slot l = Scanning (state_of l.initial.next l.initial.elems l.initial.shared) l.initial.out (state_of l.next l.elems l.shared) l.out l.slot
