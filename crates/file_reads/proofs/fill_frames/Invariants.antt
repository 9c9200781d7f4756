use Prim.Native.Nat.{◌+◌, ◌*◌}
use Rattle.file_reads.proofs.Filling.{Filling}
use Rattle.file_reads.proofs.fill_frames.Given as goal

abbrev pub invariant-loop-i : goal.invariant-loop-i
invariant-loop-i l = Filling l.b l.at l.n l.class l.a l.initial.elems l.elems l.i (l.at + l.i * 12)
