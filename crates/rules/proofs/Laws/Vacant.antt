-- Ticket 4: of a sound state, a table is full (Refusals 5 and 6) exactly when no slot of it up to the capacity is free.
use mathlib.Core.Path.{◌≡◌}
use mathlib.Core.Logic.{◌↔◌, inl, inr}
use Prim.Native.Nat.{ℕ, zero, suc, ◌+◌, ◌≤◌, ◌<◌}
use native.Mathlib.Omega.{arith}
use native.Mathlib.Decide.{dec_lt}
use lib.Dec.{T}
use Rattle.rules.specs.Tables.{State, Side, elem_side, shared_side, is_free}
use Rattle.rules.specs.Sound.{chain_at, Chain, Sound, Each}
use Rattle.rules.specs.Exact.{Full, NoneFree}
use Rattle.rules.proofs.Laws.Sides.{free_of}

module _ (t : Side) (c : Chain t) where
  -- a chain from 0 has no slots, so nothing is free
  root_none : t.pool.root ≡ 0 → (s : ℕ) → T (is_free t s) → ⊥
  root_none z s f = go c.size c.free (c.meets s f)
    where
      go : (n : ℕ) → ((k : ℕ) → k < n → T (is_free t (chain_at t k))) → (k : ℕ) × (k < n) × (chain_at t k ≡ s) → ⊥
      go zero free m = omega (arith, m.1)
      go (suc n) free m = omega (arith, z, (free_of t t.pool.root (free 0 (omega arith))).low)

  -- and one that is not from 0 begins at a free slot
  none-root : ((s : ℕ) → T (is_free t s) → ⊥) → t.pool.root ≡ 0
  none-root n = go c.size c.free c.ends
    where
      go : (k : ℕ) → ((j : ℕ) → j < k → T (is_free t (chain_at t j))) → chain_at t k ≡ 0 → t.pool.root ≡ 0
      go zero free ends = ends
      go (suc k) free ends = absurd (n t.pool.root (free 0 (omega arith)))

  pub full_none_free : t.pool.extent ≤ t.pool.capacity → Full t.pool ↔ NoneFree t
  full_none_free l = ((λ f. full f), λ n. (none-root (λ s f. n s (inl f)), reached n (dec_lt t.pool.extent t.pool.capacity)))
    where
      full : Full t.pool → NoneFree t
      full f s (inl h) = root_none f.0 s h
      full f s (inr h) = omega (arith, h.0, h.1, f.1)

      reached : NoneFree t → Dec (t.pool.extent < t.pool.capacity) → t.pool.extent ≡ t.pool.capacity
      reached n (yes h) = absurd (n (t.pool.extent + 1) (inr (omega arith, omega arith)))
      reached n (no h) = omega arith

-- of both tables
pub full_exactly : (st : State) → Sound st → Each (λ t. Full t.pool ↔ NoneFree t) st
full_exactly st S = (full_none_free (elem_side st) S.chains.0 S.extents.0, full_none_free (shared_side st) S.chains.1 S.extents.1)
