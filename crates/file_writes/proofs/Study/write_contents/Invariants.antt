use Rattle.file_writes.specs.Writes.{state}
use Rattle.file_writes.proofs.Loops.{Listing}
use Rattle.file_writes.proofs.Study.write_contents.Given as goal

abbrev pub invariant-loop-i : goal.invariant-loop-i
invariant-loop-i l = Listing (state l.self) l.initial.seen l.initial.out l.first l.seen l.out l.i l.entry l.at
