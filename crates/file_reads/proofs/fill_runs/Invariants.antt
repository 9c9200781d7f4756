use Rattle.file_reads.proofs.Reading.{Left}
use Rattle.file_reads.specs.Fills.{held}
use Rattle.file_reads.proofs.fill_runs.Given as goal

abbrev pub invariant-loop-k : goal.invariant-loop-k
invariant-loop-k l = Left l.b l.initial.elems l.initial.shared l.elems l.shared (held l.b) l.at l.k l.a
