use Rattle.file_checks.proofs.Loop.{Passed}
use Rattle.file_checks.proofs.check_runs.Given as goal

abbrev pub invariant-loop-i : goal.invariant-loop-i
invariant-loop-i l = Passed l.b 1 l.n l.i l.at l.frames
