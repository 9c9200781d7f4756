-- The slot that a pool with room gives.
use Prim.Native.Nat.{ℕ, ◌+◌, ◌≤◌}
use mathlib.Core.Path.{◌≡◌}
use mathlib.Core.Logic.{◌≢◌}
use native.Mathlib.Omega.{arith}
use native.Mathlib.Decide.{ℕ_discrete}
use borrow.Author.Tests.{eq-eqb, ne_eqb, eqb-false}
use Rattle.rules.specs.declared.Pool.{Pool}
use Rattle.rules.specs.Slots.{slot_of, is_full}
use Rattle.rules.proofs.Laws.Safe.{Pooled}
use Rattle.inserts.specs.Asked.{HasRoom}

-- the slot that a pool with room gives stands within its capacity
pub record Given (p : Pool) (s : ℕ) : Type 0 where
  pub some : 1 ≤ s
  pub within : s ≤ p.capacity

module _ (p : Pool) where
  slot-past : p.root ≡ 0 → slot_of p ≡ p.extent + 1
  unfolding slot_of
  slot-past z = simp (eq-eqb _ _ z)

  slot-root : p.root ≢ 0 → slot_of p ≡ p.root
  unfolding slot_of
  slot-root n = simp (ne_eqb _ _ n)

  room : HasRoom p → p.root ≡ 0 → p.extent ≢ p.capacity
  unfolding is_full
  room f z = eqb-false _ _ (simp (eq-eqb _ _ z) at f)

  pub given : Pooled p → HasRoom p → Given p (slot_of p)
  given q f = go (ℕ_discrete p.root 0)
    where
      go : Dec (p.root ≡ 0) → Given p (slot_of p)
      go (yes z) = rw (slot-past z) (record { some = omega arith; within = omega (arith, room f z) })
      go (no n) = rw (slot-root n) (record { some = omega arith; within = omega arith })
