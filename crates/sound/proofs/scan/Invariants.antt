use Rattle.sound.specs.Scans.{Scan}
use Rattle.rules.specs.Tables.{state_of}
use Rattle.sound.proofs.scan.Given as goal

abbrev pub invariant-loop-i : goal.invariant-loop-i
invariant-loop-i l = Scan (state_of l.head l.e l.s) l.i l.met l.rings l.seen
