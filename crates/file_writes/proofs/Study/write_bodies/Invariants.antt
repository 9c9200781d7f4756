use Rattle.file_writes.specs.Writes.{state}
use Rattle.file_writes.proofs.Loops.{Laying}
use Rattle.file_writes.proofs.Study.write_bodies.Given as goal

abbrev pub invariant-loop-i : goal.invariant-loop-i
invariant-loop-i l = Laying (state l.self) l.initial.seen l.initial.out l.first l.seen l.out l.i l.at
