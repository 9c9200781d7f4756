use Rattle.marks.proofs.Digits.{none}
use lib.ListN.{length-replicate}
use Prim.Native.Nat.{ℕ}
use native.Mathlib.Omega.{arith}
use Rattle.sound.proofs.scan_with.Goals as goal

pub scan-requires : goal.scan-requires
scan-requires g c = (c.requires.0, record { room = omega (arith, c.requires.1, length-replicate {A = ℕ} g.row.WORDS 0); none = none g.row.WORDS })
