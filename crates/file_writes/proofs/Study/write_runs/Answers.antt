use Rattle.file_writes.proofs.Whole.{classes-small}
use native.Mathlib.Omega.{arith}
use Rattle.file_writes.proofs.Study.write_runs.Goals as goal

pub write_with-requires-else-self-le1024 : goal.write_with-requires-else-self-le1024
write_with-requires-else-self-le1024 c = (c.requires.0, c.requires.1, classes-small _ c.requires.0, omega arith)
