-- What undo leaves to the frames: none comes in or goes, none comes into a sealed run, and the same union can be made again.
use mathlib.Core.Path.{◌≡◌, refl, sym, ap, ◌∙◌}
use mathlib.Core.Logic.{◌≢◌, inl, inr}
use mathlib.Core.List.{List, ◌∷◌, ◌++◌}
use Prim.Native.Nat.{ℕ}
use native.Mathlib.Omega.{arith}
use native.Mathlib.Decide.{ℕ_discrete}
use Rattle.rules.specs.declared.Memory.{Memory}
use Rattle.rules.specs.Tables.{State}
use Rattle.rules.specs.Undo.{taken_back, Remembers}
use Rattle.rules.specs.Calls.{Ready}
use Rattle.rules.proofs.Laws.Lists.{In, in_dec, out_of}
use Rattle.rules.proofs.Laws.Columns.{upd_same, upd_other}
use Rattle.rules.proofs.Laws.Working.{View, view, Working}
use Rattle.rules.proofs.Laws.Soundness.{ring-at}
use Rattle.rules.proofs.Laws.Safe.{working}
use Rattle.rules.proofs.Laws.Steady.{mark_at, Steady}
use Rattle.rules.proofs.Laws.Cut.{split_v, off, unused, class_off, class-stays}
use Rattle.rules.proofs.Laws.Traced.{Traced, hx, cuts, back_view}
use Rattle.rules.proofs.Laws.Described.{traced}

-- a memory that is part of soundness, and is one
pub traced_memory : (st : State) → Ready st → Remembers st → st.head.undo.kept ≢ 0 → Traced st
traced_memory st R (inl e) n = absurd (n (ap (λ (m : Memory). m.kept) e))
traced_memory st R (inr d) n = traced st R d

-- Ticket 1: no frame comes into a sealed run, as the run that is cut is not sealed
module _ (v : View) (S : Working v) (x y : ℕ) (hx : v.gen x ≢ 0) (ys xs : List ℕ) (cut : (ring-at v S x hx).rest ≡ ys ++ y ∷ xs) (full : v.head.shared.root ≢ 0) (w : ℕ) (unsealed : mark_at v x ≡ 0) where
  abbrev u : View
  u = split_v v x y ys w

  abbrev d : ℕ
  d = v.head.shared.root

  open_off : (s : ℕ) → In s (y ∷ ys) → mark_at v s ≡ 0
  open_off s m = ap v.mark (off v S x y hx ys xs cut full w s m).mine ∙ unsealed

  stays : (s : ℕ) → (In s (y ∷ ys) → ⊥) → u.class s ≡ v.class s
  stays s n = class-stays v S x y hx ys xs cut full w s (out_of s (y ∷ ys) n)

  pub split_steady : Steady v u
  unfolding split_v
  split_steady = record { stays = λ s h. refl; mark = λ s h. mark s h (in_dec ℕ_discrete s (y ∷ ys)); new = λ s z h. absurd (h z); joins = λ s t h m l e. (l, joins s t h m (in_dec ℕ_discrete s (y ∷ ys)) (in_dec ℕ_discrete t (y ∷ ys)) e) }
    where
      mark : (s : ℕ) → v.gen s ≢ 0 → Dec (In s (y ∷ ys)) → mark_at u s ≡ mark_at v s
      mark s h (yes m) = rw (class_off v S x y hx ys xs cut full w s m) (upd_same v.mark d 0 ∙ sym (open_off s m))
      mark s h (no m) = rw (stays s m) (upd_other v.mark d 0 (v.class s) (unused v S x y hx ys xs cut full w s h))

      joins : (s t : ℕ) → v.gen s ≢ 0 → mark_at v s ≡ 1 → Dec (In s (y ∷ ys)) → Dec (In t (y ∷ ys)) → u.class t ≡ u.class s → v.class t ≡ v.class s
      joins s t h m (yes i) k e = absurd (omega (arith, m, open_off s i))
      joins s t h m (no i) (yes k) e = absurd (unused v S x y hx ys xs cut full w s h (sym (stays s i) ∙ sym e ∙ class_off v S x y hx ys xs cut full w t k))
      joins s t h m (no i) (no k) e = sym (stays t k) ∙ e ∙ stays s i

pub back_steady : (st : State) (R : Ready st) → Traced st → Steady (view st) (view (taken_back st))
back_steady st R t =
    let k = cuts st R t in
    rw (back_view st R t) (split_steady (view st) (working st R) st.head.undo.kept st.head.undo.gone (hx st R t) k.0 k.1 k.2 t.root st.head.undo.value t.unsealed)
