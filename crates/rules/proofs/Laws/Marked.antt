-- Ticket 1: the column of marks beside that of counts. A mark is 0 or 1, and 0 where the count is.
use mathlib.Core.Path.{◌≡◌}
use mathlib.Core.Logic.{◌≢◌}
use Prim.Native.Nat.{ℕ, ◌≤◌}
use native.Mathlib.Omega.{arith}
use native.Mathlib.Decide.{ℕ_discrete}
use Rattle.rules.proofs.Laws.Columns.{upd, upd_same, upd_other}

abbrev pub Marked : (mark count : ℕ → ℕ) → Type 0
Marked m k = (c : ℕ) → (m c ≤ 1) × (m c ≤ k c)

module _ (m k : ℕ → ℕ) (M : Marked m k) where
  -- another count of a live header
  pub marked-count : (a n : ℕ) → 1 ≤ n → Marked m (upd k a n)
  marked-count a n l c = go (ℕ_discrete c a)
    where
      go : Dec (c ≡ a) → (m c ≤ 1) × (m c ≤ upd k a n c)
      go (yes e) = ((M c).0, rw (e, upd_same) (omega (arith, (M a).0)))
      go (no e) = ((M c).0, rw (upd_other k a n c e) (M c).1)

  -- a header written anew, or freed
  pub marked-zero : (a n : ℕ) → Marked (upd m a 0) (upd k a n)
  marked-zero a n c = go (ℕ_discrete c a)
    where
      go : Dec (c ≡ a) → (upd m a 0 c ≤ 1) × (upd m a 0 c ≤ upd k a n c)
      go (yes e) = rw (e, upd_same m a 0) (omega arith, omega arith)
      go (no e) = rw (upd_other m a 0 c e, upd_other k a n c e) (M c)

  -- a live header's mark is set
  pub marked-set : (a : ℕ) → k a ≢ 0 → Marked (upd m a 1) k
  marked-set a h c = go (ℕ_discrete c a)
    where
      go : Dec (c ≡ a) → (upd m a 1 c ≤ 1) × (upd m a 1 c ≤ k c)
      go (yes e) = rw (e, upd_same m a 1) (omega arith, omega (arith, h))
      go (no e) = rw (upd_other m a 1 c e) (M c)
