-- A slot that lies in its table, so that a store to it is found again; and a table that keeps its length fits as before.
use Rattle.std.specs.Prelude.{if◌then◌else◌, ◌==◌}
use mathlib.Core.Path.{◌≡◌, refl, sym, ◌∙◌}
use mathlib.Core.Logic.{◌≢◌}
use mathlib.Core.Bool.{Bool, true, false, true≢false}
use mathlib.Core.List.{List}
use Prim.Native.Nat.{ℕ, ◌*◌, ◌≤◌, ◌<◌}
use native.Mathlib.Nat.{mul-le-mul_right, le_trans}
use native.Mathlib.Omega.{arith}
use native.Mathlib.Decide.{ℕ_discrete}
use lib.ListN.{length}
use Rattle.rules.specs.declared.Pool.{Pool}
use Rattle.rules.specs.Tables.{State, Side}
use Rattle.rules.specs.Slots.{taken, is_full}
use Rattle.rules.specs.Calls.{Ready}
use Rattle.rules.proofs.Laws.Pools.{Pooled, Room, Taken, live_in, eqb-true}
use Rattle.rules.proofs.Laws.Working.{view, Working}
use Rattle.rules.proofs.Laws.Soundness.{Fits, Shaped, shaped_of}
use Rattle.rules.proofs.Laws.Safe.{ready}

pub record Stored (w : ℕ) (t : List ℕ) (s : ℕ) : Type 0 where
  pub low : 0 < s
  pub high : s * w ≤ length t

-- capacities and lengths are as before
pub record Still (st st' : State) : Type 0 where
  pub elems : st'.head.elems.capacity ≡ st.head.elems.capacity
  pub shared : st'.head.shared.capacity ≡ st.head.shared.capacity
  pub elems-long : length st'.elems ≡ length st.elems
  pub shared_long : length st'.shared ≡ length st.shared

pub still_then : {a b c : State} → Still a b → Still b c → Still a c
still_then p q = record { elems = q.elems ∙ p.elems; shared = q.shared ∙ p.shared; elems-long = q.elems-long ∙ p.elems-long; shared_long = q.shared_long ∙ p.shared_long }

fits-still : {c w : ℕ} {t : List ℕ} (c' : ℕ) (t' : List ℕ) → c' ≡ c → length t' ≡ length t → Fits c w t → Fits c' w t'
fits-still c' t' e l F = record { some = rw e F.some; small = rw e F.small; long = rw e (l ∙ F.long) }

pub shaped-still : {st st' : State} → Still st st' → Shaped st → Shaped st'
shaped-still {st} {st'} s H = record {
  elems = fits-still st'.head.elems.capacity st'.elems s.elems s.elems-long H.elems;
  shared = fits-still st'.head.shared.capacity st'.shared s.shared s.shared_long H.shared;
}

-- so a call is left with the working form to show
pub ready-still : {st st' : State} → Ready st → Still st st' → Working (view st') → Ready st'
ready-still {st} {st'} R s W = ready st' (shaped-still s (shaped_of st R.shape)) W

either_capacity : (b : Bool) (p q : Pool) → p.capacity ≡ q.capacity → (if◌then◌else◌ {A = Pool} b p q).capacity ≡ q.capacity
either_capacity true p q e = e
either_capacity false p q e = refl

pub taken-capacity : (t : Side) → (taken t).capacity ≡ t.pool.capacity
unfolding taken
taken-capacity t = either_capacity (t.pool.root == 0) _ _ refl

-- Refusals 5 and 6: a pool that is not full has room
pub room : {p : Pool} {g n : ℕ → ℕ} → Pooled p g n → is_full p ≡ false → Room p
unfolding is_full
room {p} P e z = go (ℕ_discrete p.extent p.capacity)
  where
    go : Dec (p.extent ≡ p.capacity) → p.extent < p.capacity
    go (yes q) = absurd (true≢false (sym (rw (eqb-true p.root 0 z, eqb-true p.extent p.capacity q)) ∙ e))
    go (no q) = omega (arith, P.fits)

-- of either table
module _ {w : ℕ} {p : Pool} {t : List ℕ} {g n : ℕ → ℕ} (F : Fits p.capacity w t) (P : Pooled p g n) where
  pub live_stored : (s : ℕ) → g s ≢ 0 → Stored w t s
  live_stored s h =
      let l = live_in P s h in
      record { low = l.0; high = rw F.long (mul-le-mul_right w (le_trans l.1 P.fits)) }

  pub taken_stored : {i : ℕ} {q : Pool} → Taken p g n i q → Stored w t i
  taken_stored T = record { low = T.low; high = rw F.long (mul-le-mul_right w T.fits) }
