-- What the head remembers, as a walk finds it: an accepted union leaves it so, undo then keeps a sound state, and brings back the one before.
use mathlib.Core.Path.{◌≡◌, sym, ap, ◌∙◌, subst}
use mathlib.Core.Logic.{◌≢◌}
use mathlib.Core.List.{List, ◌∷◌, ◌++◌}
use Prim.Native.Nat.{ℕ, suc, ◌+◌, ◌≤◌, ◌<◌}
use native.Mathlib.Omega.{arith}
use lib.ListN.{length}
use Rattle.rules.specs.Notation.{steps}
use Rattle.rules.specs.Tables.{frame_width, blank, State, with_undo, forgetting, elem_side, class_of, next_of, mark_of, total_of, size_at}
use Rattle.rules.specs.Sound.{bytes_along, Frame}
use Rattle.rules.specs.Slots.{freed}
use Rattle.rules.specs.Runs.{exchanged, joined, remembered}
use Rattle.rules.specs.Undo.{taken_back}
use Rattle.rules.specs.Calls.{Ready}
use Rattle.rules.proofs.Laws.Columns.{upd_same, upd_other}
use Rattle.rules.proofs.Laws.Pools.{live_in}
use Rattle.rules.proofs.Laws.Sides.{live_of, live_to}
use Rattle.rules.proofs.Laws.Working.{View, view, Working}
use Rattle.rules.proofs.Laws.Soundness.{ring-at}
use Rattle.rules.proofs.Laws.Safe.{working, safe}
use Rattle.rules.proofs.Laws.Stored.{Stored, still_then, ready-still}
use Rattle.rules.proofs.Laws.Rewritten.{recolour}
use Rattle.rules.proofs.Laws.Union.{joined_v, joined_view, joined-still, joined_keeps}
use Rattle.rules.proofs.Laws.Remembering.{with_memory, still-undo, ready-undo, state-same}
use Rattle.rules.proofs.Laws.Cut.{split_v, live-y, lighter, split-sound}
use Rattle.rules.proofs.Laws.Undo.{pieces, back-bytes, taken_back-still, taken_back-view, back-along, joined_leads, joined_off, joined_back}

-- the kept slot is live, so many steps along next lead from it to the gone one, and they are at most half the ring; a shared slot is free; the run is not sealed
pub record Traced (st : State) : Type 0 where
  pub kept : Frame st st.head.undo.kept
  pub some : 1 ≤ st.head.undo.moved
  pub half : st.head.undo.moved + st.head.undo.moved ≤ size_at st st.head.undo.kept
  pub leads : steps (next_of st.elems) st.head.undo.moved st.head.undo.kept ≡ st.head.undo.gone
  pub root : st.head.shared.root ≢ 0
  pub unsealed : mark_of st.shared (class_of st.elems st.head.undo.kept) ≡ 0

-- ---- an accepted union leaves it so

-- the columns: the kept slot's size is both sizes together
module _ (v : View) (S : Working v) (a b : ℕ) (ha : v.gen a ≢ 0) (hb : v.gen b ≢ 0) (apart : v.class a ≢ v.class b) where
  joined-class : (joined_v v a b).class a ≡ v.class a
  unfolding joined_v recolour
  joined-class = upd_other (λ k. k) (v.class b) (v.class a) (v.class a) apart

  joined-size : (joined_v v a b).count ((joined_v v a b).class a) ≡ v.count (v.class a) + v.count (v.class b)
  unfolding joined_v
  joined-size = rw joined-class (simp (upd_other, upd_same))

  joined-mark : (joined_v v a b).mark ((joined_v v a b).class a) ≡ v.mark (v.class a)
  unfolding joined_v
  joined-mark = rw joined-class (simp upd_other)

module _ (st : State) (R : Ready st) (a b : ℕ) (ha : (view st).gen a ≢ 0) (hb : (view st).gen b ≢ 0) (apart : (view st).class a ≢ (view st).class b) where
  abbrev after : State
  after = with_undo (joined st a b) (remembered st a b)

  seen : {A : Type 0} (f : View → A) → f (view (joined st a b)) ≡ f (joined_v (view st) a b)
  seen f = ap f (joined_view st R a b ha hb)

  pub after-ready : Ready after
  after-ready = ready-undo (joined st a b) (remembered st a b) (joined_keeps st R a b ha hb apart)

  pub union_traced : size_at st b ≤ size_at st a → (view st).mark ((view st).class a) ≡ 0 → Traced after
  unfolding joined_v freed
  union_traced l unsealed =
      let W = working st R in
      let g : (view after).gen a ≢ 0 = rw (seen (λ v. v.gen a)) ha in
      let i = live_in (working after after-ready).elems a g in
      record {
        kept = live_to (elem_side after) a (record { low = i.0; high = i.1; used = g });
        some = omega (arith, W.class-live b hb);
        half = rw (seen (λ v. v.count (v.class a)) ∙ joined-size (view st) W a b ha hb apart) (omega arith);
        leads = rw (seen (λ v. v.next)) (joined_leads (view st) W a b ha hb apart);
        root = rw (seen (λ v. v.head.shared.root)) (let j = live_in W.shared ((view st).class b) (W.class-live b hb) in omega (arith, j.0));
        unsealed = rw (seen (λ v. v.mark (v.class a)) ∙ joined-mark (view st) W a b ha hb apart) unsealed;
      }

-- ---- taken back

module _ (st : State) (R : Ready st) (t : Traced st) where
  abbrev x : ℕ
  x = st.head.undo.kept

  abbrev y : ℕ
  y = st.head.undo.gone

  abbrev W : Working (view st)
  W = working st R

  pub hx : (view st).gen x ≢ 0
  hx = (live_of (elem_side st) x t.kept).used

  pub cuts : (ys : List ℕ) × (xs : List ℕ) × ((ring-at (view st) W x hx).rest ≡ ys ++ y ∷ xs) × (suc (length ys) ≡ st.head.undo.moved)
  cuts = pieces (view st) W x y st.head.undo.moved hx t.some (omega (arith, t.some, t.half)) t.leads

  abbrev ys : List ℕ
  ys = cuts.0

  abbrev xs : List ℕ
  xs = cuts.1

  abbrev u : View
  u = split_v (view st) x y ys st.head.undo.value

  pub back_view : view (taken_back st) ≡ u
  back_view = taken_back-view st R hx ys xs cuts.2 t.root cuts.3

  pub gone-live : (view st).gen y ≢ 0
  gone-live = live-y (view st) W x y hx ys xs cuts.2 t.root st.head.undo.value

  pub traced_along : (k : ℕ) → k < st.head.undo.moved → Stored frame_width (exchanged st.elems x y) (steps (next_of (exchanged st.elems x y)) k y)
  traced_along = back-along st R hx ys xs cuts.2 t.root cuts.3

  -- and have no more bytes than the run
  pub traced_light : bytes_along (exchanged st.elems x y) st.head.undo.moved y ≤ total_of st.shared (class_of st.elems x)
  traced_light = rw (back-bytes st R hx ys xs cuts.2 t.root cuts.3) (omega (arith, lighter (view st) W x y hx ys xs cuts.2 t.root st.head.undo.value))

  -- so undo keeps a sound state
  pub back-ready : Ready (taken_back st)
  back-ready = ready-still R (taken_back-still st) (rw back_view (split-sound (view st) W x y hx ys xs cuts.2 t.root st.head.undo.value))

-- THE LAW of undo: it gives back the state before the union, exactly, with nothing further to undo
module _ (st : State) (R : Ready st) (a b : ℕ) (ha : (view st).gen a ≢ 0) (hb : (view st).gen b ≢ 0) (apart : (view st).class a ≢ (view st).class b) (unsealed_a : (view st).mark ((view st).class a) ≡ 0) (unsealed_b : (view st).mark ((view st).class b) ≡ 0) where
  brought-back : (v' : View) → v' ≡ with_memory (joined_v (view st) a b) (remembered st a b) → (S' : Working v') (ha' : v'.gen a ≢ 0) (ys xs : List ℕ)
      → (ring-at v' S' a ha').rest ≡ ys ++ b ∷ xs → split_v v' a b ys (remembered st a b).value ≡ view (forgetting st)
  unfolding joined_v
  brought-back v' e = subst (λ (v : View). (S' : Working v) (ha' : v.gen a ≢ 0) (ys xs : List ℕ) → (ring-at v S' a ha').rest ≡ ys ++ b ∷ xs → split_v v a b ys (remembered st a b).value ≡ view (forgetting st)) (sym e)
      (λ S' ha' ys xs cut. rw (joined_off (view st) (working st R) a b ha hb apart (remembered st a b) S' ha' ys xs cut) (joined_back (view st) (working st R) a b ha hb apart (remembered st a b) some unsealed_b))
    where
      some : 1 ≤ st.head.shared.live
      some = let l = live_in (working st R).elems a ha in ((safe st R).frames a (record { some = l.0; within = l.1; used = omega (arith, ha) })).shared-live

  pub undo-union : size_at st b ≤ size_at st a → taken_back (with_undo (joined st a b) (remembered st a b)) ≡ forgetting st
  undo-union l =
      let m = remembered st a b in
      let next = with_undo (joined st a b) m in
      let S = after-ready st R a b ha hb apart in
      let t = union_traced st R a b ha hb apart l unsealed_a in
      let k = cuts next S t in
      let s = still_then (still-undo m (joined-still st a b)) (taken_back-still next) in
      state-same (forgetting st) (taken_back next) (ready-undo st blank R) (record { elems = s.elems; shared = s.shared; elems-long = s.elems-long; shared_long = s.shared_long })
      (back_view next S t ∙ brought-back (view next) (ap (λ (v : View). with_memory v m) (joined_view st R a b ha hb)) (working next S) (hx next S t) k.0 k.1 k.2)
