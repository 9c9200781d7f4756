-- The check of what the head remembers: the walk, and each of its answers.
use Rattle.std.specs.Prelude.{◌==◌}
use Prim.Native.Nat.{ℕ, zero, suc, ◌+◌, ◌≤◌, ◌<◌}
use mathlib.Core.Path.{◌≡◌, sym, ap, ◌∙◌}
use mathlib.Core.Logic.{◌≢◌, inl, inr}
use mathlib.Core.Bool.{Bool, true, false}
use mathlib.Core.List.{List}
use native.Mathlib.Omega.{arith}
use lib.Dec.{eqb→eq, eqb_refl}
use Rattle.rules.specs.Notation.{steps}
use Rattle.rules.specs.Tables.{generation_of, class_of, next_of, bytes_of, count_of, mark_of, State, blank, elem_side, size_at}
use Rattle.rules.specs.Sound.{bytes_along}
use Rattle.rules.specs.Undo.{Remembers}
use Rattle.rules.specs.Calls.{Ready, Is}
use Rattle.rules.proofs.Laws.Sides.{live_of, live_to}
use Rattle.rules.proofs.Laws.Tests.{is_of}
use Rattle.rules.proofs.Laws.Safe.{LiveSlot}
use Rattle.rules.proofs.Laws.Traced.{Traced}
use Rattle.rules.proofs.Laws.Described.{described}

-- ---- the bytes of a walk: one more frame, and no more than the whole

pub bytes_more : (e : List ℕ) (k x : ℕ) → bytes_along e (suc k) x ≡ bytes_along e k x + bytes_of e (steps (next_of e) k x)
bytes_more e zero x = omega arith
bytes_more e (suc k) x = omega (arith, bytes_more e k (next_of e x))

pub bytes_within : (e : List ℕ) (k n x : ℕ) → k ≤ n → bytes_along e k x ≤ bytes_along e n x
bytes_within e zero n x h = omega arith
bytes_within e (suc k) zero x h = absurd (omega arith)
bytes_within e (suc k) (suc n) x h = omega (arith, bytes_within e k n (next_of e x) (omega arith))

-- ---- the tests

module _ (st : State) where
  abbrev x : ℕ
  x = st.head.undo.kept

  abbrev n : ℕ
  n = st.head.undo.moved

  pub not_none : x ≡ 0 → Traced st → ⊥
  not_none e t = let l = live_of (elem_side st) x t.kept in omega (arith, l.low)

  pub not-past : st.head.elems.extent < x → Traced st → ⊥
  not-past h t = let l = live_of (elem_side st) x t.kept in omega (arith, l.high)

  pub not_free : generation_of st.elems x ≡ 0 → Traced st → ⊥
  not_free e t = (live_of (elem_side st) x t.kept).used e

  pub not-sealed : (class : ℕ) → class ≡ class_of st.elems x → mark_of st.shared class ≢ 0 → Traced st → ⊥
  not-sealed class e n t = n (ap (mark_of st.shared) e ∙ t.unsealed)

  -- the slot is live
  pub kept-live : x ≢ 0 → x ≤ st.head.elems.extent → generation_of st.elems x ≢ 0 → LiveSlot st x
  kept-live a b c = record { some = omega arith; within = b; used = omega arith }

  -- its class and size
  module _ (class size : ℕ) (at : class ≡ class_of st.elems x) (of : size ≡ count_of st.shared class) where
    size_is : size ≡ size_at st x
    size_is = of ∙ ap (count_of st.shared) at

    pub not_more : size < n + n → Traced st → ⊥
    not_more h t = omega (arith, t.half, size_is)

    -- so the walk decides
    pub walked : LiveSlot st x → n ≢ 0 → n + n ≤ size → st.head.shared.root ≢ 0 → mark_of st.shared class ≡ 0 → Is (Traced st) (steps (next_of st.elems) n x == st.head.undo.gone)
    walked l a b r m = is_of (steps (next_of st.elems) n x == st.head.undo.gone)
        (λ t. record { kept = live_to (elem_side st) x (record { low = l.some; high = l.within; used = omega (arith, l.used) }); some = omega arith; half = rw size_is at b; leads = eqb→eq (steps (next_of st.elems) n x) st.head.undo.gone t; root = r; unsealed = ap (mark_of st.shared) (sym at) ∙ m })
        (λ t. rw t.leads (eqb_refl st.head.undo.gone))

-- ---- the whole

module _ (st : State) (R : Ready st) where
  -- where they are no zeros, the walk tells
  pub walk_tells : st.head.undo ≢ blank → (b : Bool) → Is (Traced st) b → Is (Remembers st) b
  walk_tells n true t = inr ((described st R).1 t)
  walk_tells n false q = go
    where
      go : Remembers st → ⊥
      go (inl e) = n e
      go (inr d) = q ((described st R).0 d)
