use Prim.Native.Nat.{◌*◌, ◌≤◌}
use mathlib.Core.Path.{◌≡◌}
use lib.ListN.{drop}
use Rattle.rules.specs.RunFile.{total}
use Rattle.rules.proofs.Laws.Fixed.{frames_here}
use Rattle.file_checks.proofs.sizes.Given as goal

abbrev pub invariant-loop-i : goal.invariant-loop-i
invariant-loop-i l = (l.sum ≡ total (frames_here 1 l.i (drop l.at l.b))) × (l.sum ≤ l.i * 4294967295)
