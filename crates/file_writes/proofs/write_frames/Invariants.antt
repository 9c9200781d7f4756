use Rattle.file_writes.proofs.Frames.{Storing}
use Rattle.file_writes.proofs.write_frames.Given as goal

abbrev pub invariant-loop : goal.invariant-loop
invariant-loop l = Storing l.elems l.n l.x l.initial.out l.place l.out l.counter l.slot l.at
