use Rattle.rules.specs.Tables.{state_of}
use Rattle.drains.proofs.Draining.{Draining}
use Rattle.drains.proofs.drain_run.Given as goal

abbrev pub invariant-loop-written : goal.invariant-loop-written
invariant-loop-written l =
    Draining (state_of l.initial.next l.initial.elems l.initial.shared) l.n l.x l.initial.out l.from (state_of l.next l.elems l.shared) l.at l.out l.written
