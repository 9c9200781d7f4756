-- Ticket 9: what the call that answers the figure says.
use mathlib.Core.Path.{◌≡◌, refl}
use mathlib.Core.Bool.{false}
use mathlib.Core.List.{[], ◌∷◌}
use Prim.Native.Nat.{ℕ, ◌≤◌, ◌<◌}
use native.Mathlib.Omega.{arith}
use Rattle.rules.specs.declared.Refusal.TheVariants.{OutOfRange}
use Rattle.rules.specs.Notation.{◌≤?◌}
use Rattle.rules.specs.Tables.{most_slots}
use Rattle.rules.specs.Refusals.{said_refused, said_accepted}
use Rattle.rules.specs.Ceiling.{ceiling, union_ceiling}
use Rattle.rules.proofs.Laws.Tests.{le_is, is_true, is_false}

pub answered : (n : ℕ) → 1 ≤ n → n ≤ most_slots → union_ceiling n ≡ said_accepted (ceiling n ∷ []) false
unfolding union_ceiling
answered n p h = rw (is_true (1 ≤? n) (le_is 1 n) p, is_true (n ≤? most_slots) (le_is n most_slots) h) refl

pub refused_none : (n : ℕ) → n < 1 → union_ceiling n ≡ said_refused OutOfRange
unfolding union_ceiling
refused_none n h = rw (is_false (1 ≤? n) (le_is 1 n) (λ p. omega arith)) refl

pub refused-many : (n : ℕ) → 1 ≤ n → most_slots < n → union_ceiling n ≡ said_refused OutOfRange
unfolding union_ceiling
refused-many n p h = rw (is_true (1 ≤? n) (le_is 1 n) p, is_false (n ≤? most_slots) (le_is n most_slots) (λ q. omega arith)) refl
