-- Ticket 9 at the largest numbers that the call takes, by their powers of two.
use Prim.Native.Nat.{ℕ, ◌*◌, ◌≤◌}
use mathlib.Core.Path.{◌≡◌, sym, ap, ◌∙◌}
use mathlib.Core.Bool.{false}
use mathlib.Core.List.{[], ◌∷◌}
use native.Mathlib.Omega.{arith}
use Rattle.rules.specs.Tables.{most_slots}
use Rattle.rules.specs.Refusals.{said_accepted}
use Rattle.rules.specs.Ceiling.{HighestBit, union_ceiling}
use Rattle.rules.proofs.Laws.HighestBit.{only}
use Rattle.rules.proofs.Laws.UnionCeiling.{answered}

abbrev figure : (n place : ℕ) → HighestBit n place → 1 ≤ n → n ≤ most_slots → union_ceiling n ≡ said_accepted (n * place ∷ []) false
figure n place t p h = answered n p h ∙ ap (λ (i : ℕ). said_accepted (n * i ∷ []) false) (sym (only n place t))

pub below-most : union_ceiling 65535 ≡ said_accepted (983025 ∷ []) false
below-most = figure 65535 15 (record { reached = omega arith; below = omega arith }) (omega arith) (omega arith)

pub most : union_ceiling 65536 ≡ said_accepted (1048576 ∷ []) false
most = figure 65536 16 (record { reached = omega arith; below = omega arith }) (omega arith) (omega arith)
