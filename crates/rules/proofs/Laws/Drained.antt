-- Drain a run, drain all: removals one after another, so a sound state is kept.
use Rattle.std.specs.Prelude.{if◌then◌else◌}
use mathlib.Core.Path.{◌≡◌, refl, sym, ap, ◌∙◌}
use mathlib.Core.Logic.{◌≢◌, ◌⊎◌, inl, inr}
use mathlib.Core.Bool.{Bool, true, false}
use mathlib.Core.List.{List, [], ◌∷◌}
use Prim.Native.Nat.{ℕ, zero, suc, ◌-◌, ◌≤◌}
use native.Mathlib.Omega.{arith}
use lib.Dec.{T}
use lib.ListN.{length, get_or}
use Rattle.rules.specs.Notation.{up_to, keep}
use Rattle.rules.specs.Tables.{frame_width, header_width, frame_at, header_at, State, elem_side, is_live, size_at}
use Rattle.rules.specs.Runs.{removed}
use Rattle.rules.specs.Drains.{drained, lowest, all_drained}
use Rattle.rules.specs.Calls.{Ready}
use Rattle.rules.proofs.Laws.Columns.{cell-none, upd, upd_at, upd_other}
use Rattle.rules.proofs.Laws.Lists.{NoDup, Walk}
use Rattle.rules.proofs.Laws.Sides.{live_of}
use Rattle.rules.proofs.Laws.Working.{View, view, Working, next-class}
use Rattle.rules.proofs.Laws.Soundness.{ring-at}
use Rattle.rules.proofs.Laws.Safe.{working}
use Rattle.rules.proofs.Laws.Remove.{remove_v, removed-on, remove_keeps}

-- in a ring of more than one, next leads to another
next-apart : (v : View) (W : Working v) (x : ℕ) → v.gen x ≢ 0 → v.count (v.class x) ≢ 1 → v.next x ≢ x
next-apart v W x h many = let r = ring-at v W x h in go r.rest r.round r.once r.sized
  where
    go : (xs : List ℕ) → Walk v.next (v.next x) x xs → NoDup (x ∷ xs) → suc (length xs) ≡ v.count (v.class x) → v.next x ≢ x
    go [] w u l e = many (sym l)
    go (y ∷ ys) w u l e = u.0.0 (sym e ∙ w.0)

-- a run that goes on: from next, its ring is one smaller
pub record Onward (st : State) (x : ℕ) : Type 0 where
  pub live : (view (removed st x)).gen ((view st).next x) ≢ 0
  pub size : size_at (removed st x) ((view st).next x) ≡ size_at st x - 1

pub onward : (st : State) (R : Ready st) (x : ℕ) → (view st).gen x ≢ 0 → size_at st x ≢ 1 → Onward st x
unfolding remove_v
onward st R x h many =
    let v = view st in
    let W = working st R in
    let c = v.class x in
    let y = v.next x in
    let n : y ≢ x = next-apart v W x h many in
    let e = removed-on st R x h many in
    let gen : (view (removed st x)).gen y ≡ v.gen y = ap (λ (u : View). u.gen y) e ∙ upd_other v.gen x 0 y n in
    let same : upd v.class x 0 y ≡ c = upd_other v.class x 0 y n ∙ next-class v W x h in
    record {
      live = λ z. W.links.next-live x h (sym gen ∙ z);
      size = ap (λ (u : View). u.count (u.class y)) e ∙ upd_at v.count c (v.count c - 1) (upd v.class x 0 y) same;
    }

-- Rules 10: as many frames as the ring has, or fewer
pub drain_keeps : (n : ℕ) (st : State) → Ready st → (x : ℕ) → (view st).gen x ≢ 0 → n ≤ size_at st x → Ready (drained n st x)
unfolding drained
drain_keeps zero st R x h l = R
drain_keeps (suc zero) st R x h l = remove_keeps st R x h
drain_keeps (suc (suc n)) st R x h l =
    let o = onward st R x h (omega arith) in
    drain_keeps (suc n) (removed st x) (remove_keeps st R x h) ((view st).next x) o.live (omega (arith, o.size))

-- Rules 11: the lowest live slot, or 0 where there is none
first-kept : (test : ℕ → Bool) (xs : List ℕ) → (get_or (keep test xs) 0 0 ≡ 0) ⊎ T (test (get_or (keep test xs) 0 0))
first-kept test [] = inl refl
first-kept test (x ∷ xs) = go (test x) (λ t. t) (first-kept test xs)
  where
    go : (b : Bool) → (T b → T (test x)) → (get_or (keep test xs) 0 0 ≡ 0) ⊎ T (test (get_or (keep test xs) 0 0))
        → (get_or (if b then x ∷ keep test xs else keep test xs) 0 0 ≡ 0) ⊎ T (test (get_or (if b then x ∷ keep test xs else keep test xs) 0 0))
    go true f r = inr (f tt)
    go false f r = r

pub lowest-live : (st : State) → (lowest st ≡ 0) ⊎ ((view st).gen (lowest st) ≢ 0)
unfolding lowest
lowest-live st = go (first-kept (is_live (elem_side st)) (up_to st.head.elems.extent))
  where
    go : (lowest st ≡ 0) ⊎ T (is_live (elem_side st) (lowest st)) → (lowest st ≡ 0) ⊎ ((view st).gen (lowest st) ≢ 0)
    go (inl e) = inl e
    go (inr t) = inr (live_of (elem_side st) (lowest st) t).used

pub drain_lowest-keeps : (st : State) → Ready st → Ready (drained (size_at st (lowest st)) st (lowest st))
unfolding drained
drain_lowest-keeps st R = go (lowest-live st)
  where
    none : (x : ℕ) → x ≡ 0 → size_at st x ≡ 0
    none x e = rw (e, cell-none frame_width st.elems frame_at.class, cell-none header_width st.shared header_at.count)

    go : (lowest st ≡ 0) ⊎ ((view st).gen (lowest st) ≢ 0) → Ready (drained (size_at st (lowest st)) st (lowest st))
    go (inl e) = rw (none (lowest st) e) R
    go (inr h) = drain_keeps (size_at st (lowest st)) st R (lowest st) h (omega arith)

pub drain_all-keeps : (n : ℕ) (st : State) → Ready st → Ready (all_drained n st)
unfolding all_drained
drain_all-keeps zero st R = R
drain_all-keeps (suc n) st R = drain_all-keeps n (drained (size_at st (lowest st)) st (lowest st)) (drain_lowest-keeps st R)
