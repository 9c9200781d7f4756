-- Remove: the columns after it, and that it keeps a sound state.
use mathlib.Core.Path.{◌≡◌, refl, sym, ap, ◌∙◌}
use mathlib.Core.Logic.{◌≢◌, inl, inr}
use mathlib.Core.List.{List, [], ◌∷◌}
use Prim.Native.Nat.{ℕ, suc, ◌+◌, ◌-◌, ◌≤◌}
use native.Mathlib.Omega.{arith}
use native.Mathlib.Decide.{ℕ_discrete}
use lib.ListN.{length}
use Rattle.rules.specs.declared.Pool.{Pool}
use Rattle.rules.specs.Tables.{last_generation, frame_width, header_width, State, blank, with_elems}
use Rattle.rules.specs.Slots.{freed, free_slot, free_element, free_shared, raised, raise}
use Rattle.rules.specs.Runs.{linked, unlinked, left, removed}
use Rattle.rules.specs.Calls.{Ready}
use Rattle.rules.proofs.Laws.Lists.{In}
use Rattle.rules.proofs.Laws.Columns.{upd, upd_same, upd_other, cols}
use Rattle.rules.proofs.Laws.Pools.{free, eqb-true, eqb-false}
use Rattle.rules.proofs.Laws.Totals.{sizes-take}
use Rattle.rules.proofs.Laws.Working.{View, view, view_path, Ring, Working, turn, total-ring, live_inside, prev_class}
use Rattle.rules.proofs.Laws.Soundness.{shaped_of}
use Rattle.rules.proofs.Laws.Safe.{working}
use Rattle.rules.proofs.Laws.Stored.{Stored, Still, still_then, ready-still, live_stored}
use Rattle.rules.proofs.Laws.Rewritten.{length-linked}
use Rattle.rules.proofs.Laws.Leaving.{Counted, goes_on, last_one}
use Rattle.rules.proofs.Laws.Freed.{raised_least, raised-most, free_element-still, left-still, raise-still}
use Rattle.rules.proofs.Laws.Links.{live_ne, ring-frame, Excised, links-remove, ring-remove}

-- the frame `x` goes; its class then has the count `k`, the next free slot `z` and the mark `m`, and the pool of classes is `r`
unfoldable pub remove_v : View → ℕ → (count value chain mark : ℕ → ℕ) → Pool → View
remove_v v x k w z m r = record {
  head = record { elems = freed v.head.elems x; shared = r; generation = raised v.head.generation; undo = blank };
  gen = upd v.gen x 0;
  pay = upd v.pay x 0;
  class = upd v.class x 0;
  prev = upd (upd v.prev (v.next x) (v.prev x)) x 0;
  next = upd (upd v.next (v.prev x) (v.next x)) x v.head.elems.root;
  bytes = upd v.bytes x 0;
  count = k;
  value = w;
  chain = z;
  mark = m;
  total = upd v.total (v.class x) (v.total (v.class x) - v.bytes x);
}

module _ (v : View) (x : ℕ) (k w z m : ℕ → ℕ) (r : Pool) (S : Working v) (hx : v.gen x ≢ 0) (C : Counted v x k w z m r) where
  pub excised : Excised v.gen v.prev v.next (remove_v v x k w z m r).gen (remove_v v x k w z m r).prev (remove_v v x k w z m r).next x
  unfolding remove_v
  excised = record {
    target = hx;
    g_x = upd_same v.gen x 0;
    g_o = λ s e. upd_other v.gen x 0 s e;
    n_p = λ e. simp (upd_other, upd_same);
    n_o = λ s e f. simp upd_other;
    p_n = λ e. simp (upd_other, upd_same);
    p_o = λ s e f. simp upd_other;
  }

  mine_ring : Ring v.gen v.class v.next (v.class x) x (v.count (v.class x))
  mine_ring =
      let l = S.ring (v.class x) (S.class-live x hx) in
      turn l.1 (record { live = hx; mine = refl })

  -- another frame of the class: then it was not the last
  pub not_last : (s : ℕ) → v.gen s ≢ 0 → s ≢ x → v.class s ≡ v.class x → v.count (v.class x) ≢ 1
  not_last s h e q = go mine_ring.rest mine_ring.sized (mine_ring.whole s (record { live = h; mine = q }))
    where
      go : (l : List ℕ) → suc (length l) ≡ v.count (v.class x) → In s (x ∷ l) → v.count (v.class x) ≢ 1
      go [] q (inl d) = absurd (e d)
      go [] q (inr d) = absurd d
      go (y ∷ ys) q i = omega arith

  pub remove-sound : Working (remove_v v x k w z m r)
  unfolding remove_v freed
  remove-sound = record {
    least = raised_least v.head.generation;
    most = raised-most v.head.generation S.most;
    elems = free S.elems x hx (remove_v v x k w z m r).next (upd_same (upd v.next (v.prev x) (v.next x)) x v.head.elems.root)
        (λ s e. excised.n_o s (λ q. live_ne v.gen hx e (sym q)) (λ q. live_ne v.gen (S.links.prev_live x hx) e (sym q)));
    shared = C.shared;
    gens = λ s. gens s (ℕ_discrete s x);
    zeros = λ s. zeros s (ℕ_discrete s x);
    value-zero = C.value-zero;
    chain-zero = C.chain-zero;
    marks = C.marks;
    sizes = let i = live_inside v S x hx in sizes-take S.sizes x i.0 i.1;
    links = links-remove excised S.links;
    class-live = λ s h. class-live s h (ℕ_discrete (v.class s) (v.class x));
    ring = λ c. ring c (ℕ_discrete c (v.class x));
  }
    where
      gens : (s : ℕ) → Dec (s ≡ x) → (remove_v v x k w z m r).gen s ≤ last_generation
      gens s (yes e) = rw (e, upd_same) (omega arith)
      gens s (no e) = rw upd_other (S.gens s)

      zeros : (s : ℕ) → Dec (s ≡ x) → (remove_v v x k w z m r).gen s ≡ 0 → ((remove_v v x k w z m r).pay s ≡ 0) × ((remove_v v x k w z m r).class s ≡ 0) × ((remove_v v x k w z m r).prev s ≡ 0)
      zeros s (yes e) h = rw e (simp upd_same (refl, refl, refl))
      zeros s (no e) h =
          let h' : v.gen s ≡ 0 = rw upd_other at h in
          let a : s ≢ v.next x = λ q. live_ne v.gen (S.links.next-live x hx) h' (sym q) in
          simp upd_other (S.zeros s h')

      gone : (s : ℕ) → (remove_v v x k w z m r).gen s ≢ 0 → s ≢ x
      gone s h e = h (rw (e, upd_same))

      was : (s : ℕ) → (remove_v v x k w z m r).gen s ≢ 0 → v.gen s ≢ 0
      was s h = let e : s ≢ x = gone s h in rw upd_other at h

      class-live : (s : ℕ) → (remove_v v x k w z m r).gen s ≢ 0 → Dec (v.class s ≡ v.class x) → k ((remove_v v x k w z m r).class s) ≢ 0
      class-live s h (yes e) = let d : s ≢ x = gone s h in rw (upd_other, e, C.mine) (omega (arith, not_last s (was s h) d e, S.class-live x hx))
      class-live s h (no e) = let d : s ≢ x = gone s h in rw (upd_other, C.other (v.class s) e) (S.class-live s (was s h))

      ring : (c : ℕ) → Dec (c ≡ v.class x) → k c ≢ 0
          → (y : ℕ) × Ring (remove_v v x k w z m r).gen (remove_v v x k w z m r).class (remove_v v x k w z m r).next c y (k c)
      ring c (yes e) h = rw (e, C.mine) (ring-remove excised S.links (λ s o. upd_other v.class x 0 s o) (omega (arith, rw (e, C.mine) at h)) mine_ring)
      ring c (no e) h =
          let l = S.ring c (rw (C.other c e) at h) in (
            l.0,
            rw (C.other c e) (ring-frame l.1
                (λ s f. let o : s ≢ x = λ q. e (sym f.mine ∙ ap v.class q) in record { live = rw upd_other f.live; mine = rw upd_other f.mine })
                (λ s f. let o : s ≢ x = gone s f.live in record { live = rw upd_other at f.live; mine = rw upd_other at f.mine })
                (λ s f. excised.n_o s (λ q. e (sym f.mine ∙ ap v.class q)) (λ q. e (sym f.mine ∙ ap v.class q ∙ prev_class v S x hx)))),
          )

-- ---- the book's rule
pub removed-still : (st : State) (x : ℕ) → Still st (removed st x)
unfolding removed unlinked
removed-still st x =
    let e = linked st.elems ((view st).prev x) ((view st).next x) in
    let out : Still st (with_elems st e) = record { elems = refl; shared = refl; elems-long = length-linked st.elems ((view st).prev x) ((view st).next x); shared_long = refl } in
    let free = still_then out (free_element-still (with_elems st e) x) in
    let gone = still_then free (left-still (free_element (with_elems st e) x) ((view st).class x) ((view st).bytes x)) in
    still_then gone (raise-still (left (free_element (with_elems st e) x) ((view st).class x) ((view st).bytes x)))

module _ (st : State) (R : Ready st) (x : ℕ) (hx : (view st).gen x ≢ 0) where
  abbrev class : ℕ
  class = (view st).class x

  -- all slots that are written lie in their tables
  near : record { frame : Stored frame_width st.elems x; next : Stored frame_width st.elems ((view st).next x); prev : Stored frame_width st.elems ((view st).prev x); header : Stored header_width st.shared class }
  near =
      let H = shaped_of st R.shape in
      let W = working st R in
      record {
        frame = live_stored H.elems W.elems x hx;
        next = live_stored H.elems W.elems ((view st).next x) (W.links.next-live x hx);
        prev = live_stored H.elems W.elems ((view st).prev x) (W.links.prev_live x hx);
        header = live_stored H.shared W.shared class (W.class-live x hx);
      }

  pub removed-on : (view st).count class ≢ 1 → view (removed st x) ≡ remove_v (view st) x (upd (view st).count class ((view st).count class - 1)) (view st).value (view st).chain (view st).mark st.head.shared
  unfolding removed raise left free_element unlinked linked free_slot remove_v
  removed-on many =
      let stored = near in
      rw (eqb-false ((view st).count class) 1 many)
      (view_path _ _ refl (search cols) (search cols) (search cols) (search cols) (search cols) (search cols) (search cols) (search cols) (search cols) (search cols) (search cols))

  -- the last frame has all of its run's bytes
  last-total : (view st).count class ≡ 1 → (view st).total class - (view st).bytes x ≡ 0
  last-total one =
      let W = working st R in
      let q = total-ring (view st) W class x (turn (W.ring class (W.class-live x hx)).1 (record { live = hx; mine = refl })) in
      let z : (view st).total class ≡ (view st).bytes x + 0 = rw one at q in
      omega (arith, z)

  pub removed-last : (view st).count class ≡ 1
      → view (removed st x) ≡ remove_v (view st) x (upd (view st).count class 0) (upd (view st).value class 0) (upd (view st).chain class st.head.shared.root) (upd (view st).mark class 0) (freed st.head.shared class)
  unfolding removed raise left free_element free_shared unlinked linked free_slot remove_v
  removed-last one =
      let stored = near in
      let none : upd (view st).total class ((view st).total class - (view st).bytes x) ≡ upd (view st).total class 0 = ap (λ (z : ℕ). upd (view st).total class z) (last-total one) in
      rw (eqb-true ((view st).count class) 1 one, none)
      (view_path _ _ refl (search cols) (search cols) (search cols) (search cols) (search cols) (search cols) (search cols) (search cols) (search cols) (search cols) (search cols))

  pub remove_keeps : Ready (removed st x)
  remove_keeps = ready-still R (removed-still st x) (go (ℕ_discrete ((view st).count class) 1))
    where
      go : Dec ((view st).count class ≡ 1) → Working (view (removed st x))
      go (yes e) = rw (removed-last e) (remove-sound (view st) x _ _ _ _ _ (working st R) hx (last_one (view st) x (working st R) hx e))
      go (no e) = rw (removed-on e) (remove-sound (view st) x _ _ _ _ _ (working st R) hx (goes_on (view st) x (working st R) hx e))
