-- New run: the columns after it, and that it keeps a sound state.
use mathlib.Core.Path.{◌≡◌, refl, sym, ◌∙◌, subst}
use mathlib.Core.Logic.{◌≢◌, inl}
use mathlib.Core.List.{[], ◌∷◌}
use Prim.Native.Nat.{ℕ, ◌+◌, ◌≤◌}
use native.Mathlib.Omega.{arith}
use native.Mathlib.Decide.{ℕ_discrete}
use Rattle.rules.specs.declared.Pool.{Pool}
use Rattle.rules.specs.Tables.{last_generation, most_bytes, State, elem_side, shared_side, blank}
use Rattle.rules.specs.Slots.{slot_of, taken}
use Rattle.rules.specs.Runs.{begun}
use Rattle.rules.specs.Calls.{Ready}
use Rattle.rules.proofs.Laws.Lists.{In}
use Rattle.rules.proofs.Laws.Columns.{upd, upd_same, upd_other, cols, length-row}
use Rattle.rules.proofs.Laws.Pools.{Room, Taken, take}
use Rattle.rules.proofs.Laws.Marked.{marked-zero}
use Rattle.rules.proofs.Laws.Totals.{Sizes, sizes-put}
use Rattle.rules.proofs.Laws.Working.{View, view, view_path, Frame, Ring, Working, total-none}
use Rattle.rules.proofs.Laws.Soundness.{shaped_of}
use Rattle.rules.proofs.Laws.Safe.{working}
use Rattle.rules.proofs.Laws.Stored.{Still, ready-still, taken-capacity, taken_stored}
use Rattle.rules.proofs.Laws.Links.{live_ne, ring-frame}

-- the frame has the slot `i`, the pool of elements is then `q`; the class has the slot `c`, the pool of classes is then `r`
unfoldable pub new_run_v : View → (payload value size i : ℕ) → Pool → ℕ → Pool → View
new_run_v v t w z i q c r = record {
  head = record { elems = q; shared = r; generation = v.head.generation; undo = blank };
  gen = upd v.gen i v.head.generation;
  pay = upd v.pay i t;
  class = upd v.class i c;
  prev = upd v.prev i i;
  next = upd v.next i i;
  bytes = upd v.bytes i z;
  count = upd v.count c 1;
  value = upd v.value c w;
  chain = upd v.chain c 0;
  mark = upd v.mark c 0;
  total = upd v.total c z;
}

module _ (v : View) (t w z i : ℕ) (q : Pool) (c : ℕ) (r : Pool) (S : Working v)
    (T : Taken v.head.elems v.gen v.next i q) (U : Taken v.head.shared v.count v.chain c r) (small : z ≤ most_bytes) where
  pub new_run-sound : Working (new_run_v v t w z i q c r)
  unfolding new_run_v
  new_run-sound = record {
    least = S.least;
    most = S.most;
    elems = T.after v.head.generation (new_run_v v t w z i q c r).next (omega (arith, S.least)) (λ s e f. upd_other v.next i i s f);
    shared = U.after 1 (new_run_v v t w z i q c r).chain (omega arith) (λ s e f. upd_other v.chain c 0 s f);
    gens = λ s. gens s (ℕ_discrete s i);
    zeros = λ s. zeros s (ℕ_discrete s i);
    value-zero = λ d. value-zero d (ℕ_discrete d c);
    chain-zero = λ d. chain-zero d (ℕ_discrete d c);
    marks = marked-zero v.mark v.count S.marks c 1;
    sizes = sizes;
    links = record {
      next-live = λ s h. next-live s h (ℕ_discrete s i);
      prev_live = λ s h. prev_live s h (ℕ_discrete s i);
      prev_next = λ s h. prev_next s h (ℕ_discrete s i);
      next_prev = λ s h. next_prev s h (ℕ_discrete s i);
    };
    class-live = λ s. class-live s (ℕ_discrete s i);
    ring = λ d. ring d (ℕ_discrete d c);
  }
    where
      sizes : Sizes q.capacity (upd v.gen i v.head.generation) (upd v.class i c) (upd v.bytes i z) (upd v.total c z)
      sizes =
          let none : v.total c + z ≡ z = omega (arith, total-none v S c U.unused) in
          rw T.still (subst (λ (k : ℕ). Sizes v.head.elems.capacity (upd v.gen i v.head.generation) (upd v.class i c) (upd v.bytes i z) (upd v.total c k)) none
          (sizes-put S.sizes i v.head.generation c z T.low T.fits T.unused (omega (arith, S.least)) small))

      new : (new_run_v v t w z i q c r).gen i ≢ 0
      new = rw upd_same (omega (arith, S.least))

      was : (s : ℕ) → s ≢ i → (new_run_v v t w z i q c r).gen s ≢ 0 → v.gen s ≢ 0
      was s e h = rw upd_other at h

      stays : (s : ℕ) → v.gen s ≢ 0 → (new_run_v v t w z i q c r).gen s ≢ 0
      stays s h = let e : s ≢ i = live_ne v.gen h T.unused in rw upd_other h

      gens : (s : ℕ) → Dec (s ≡ i) → (new_run_v v t w z i q c r).gen s ≤ last_generation
      gens s (yes e) = rw (e, upd_same) S.most
      gens s (no e) = rw upd_other (S.gens s)

      zeros : (s : ℕ) → Dec (s ≡ i) → (new_run_v v t w z i q c r).gen s ≡ 0 → ((new_run_v v t w z i q c r).pay s ≡ 0) × ((new_run_v v t w z i q c r).class s ≡ 0) × ((new_run_v v t w z i q c r).prev s ≡ 0)
      zeros s (yes e) h = absurd (new (rw e at h))
      zeros s (no e) h = simp upd_other (S.zeros s (rw upd_other at h))

      value-zero : (d : ℕ) → Dec (d ≡ c) → (new_run_v v t w z i q c r).count d ≡ 0 → (new_run_v v t w z i q c r).value d ≡ 0
      value-zero d (yes e) h = absurd (omega (arith, rw (e, upd_same) at h))
      value-zero d (no e) h = rw upd_other (S.value-zero d (rw upd_other at h))

      chain-zero : (d : ℕ) → Dec (d ≡ c) → (new_run_v v t w z i q c r).count d ≢ 0 → (new_run_v v t w z i q c r).chain d ≡ 0
      chain-zero d (yes e) h = rw (e, upd_same)
      chain-zero d (no e) h = rw upd_other (S.chain-zero d (rw upd_other at h))

      next-live : (s : ℕ) → (new_run_v v t w z i q c r).gen s ≢ 0 → Dec (s ≡ i) → (new_run_v v t w z i q c r).gen ((new_run_v v t w z i q c r).next s) ≢ 0
      next-live s h (yes e) = rw (e, upd_same v.next i i) new
      next-live s h (no e) = rw (upd_other v.next i i s e) (stays (v.next s) (S.links.next-live s (was s e h)))

      prev_live : (s : ℕ) → (new_run_v v t w z i q c r).gen s ≢ 0 → Dec (s ≡ i) → (new_run_v v t w z i q c r).gen ((new_run_v v t w z i q c r).prev s) ≢ 0
      prev_live s h (yes e) = rw (e, upd_same v.prev i i) new
      prev_live s h (no e) = rw (upd_other v.prev i i s e) (stays (v.prev s) (S.links.prev_live s (was s e h)))

      prev_next : (s : ℕ) → (new_run_v v t w z i q c r).gen s ≢ 0 → Dec (s ≡ i) → (new_run_v v t w z i q c r).prev ((new_run_v v t w z i q c r).next s) ≡ s
      prev_next s h (yes e) = rw e (simp upd_same)
      prev_next s h (no e) =
          let l = was s e h in
          let o : v.next s ≢ i = live_ne v.gen (S.links.next-live s l) T.unused in
          simp upd_other (S.links.prev_next s l)

      next_prev : (s : ℕ) → (new_run_v v t w z i q c r).gen s ≢ 0 → Dec (s ≡ i) → (new_run_v v t w z i q c r).next ((new_run_v v t w z i q c r).prev s) ≡ s
      next_prev s h (yes e) = rw e (simp upd_same)
      next_prev s h (no e) =
          let l = was s e h in
          let o : v.prev s ≢ i = live_ne v.gen (S.links.prev_live s l) T.unused in
          simp upd_other (S.links.next_prev s l)

      class-live : (s : ℕ) → Dec (s ≡ i) → (new_run_v v t w z i q c r).gen s ≢ 0 → (new_run_v v t w z i q c r).count ((new_run_v v t w z i q c r).class s) ≢ 0
      class-live s (yes e) h = rw (e, upd_same, upd_same) (omega arith)
      class-live s (no e) h =
          let k = S.class-live s (was s e h) in
          let o : v.class s ≢ c = live_ne v.count k U.unused in
          simp upd_other k

      ring : (d : ℕ) → Dec (d ≡ c) → (new_run_v v t w z i q c r).count d ≢ 0
          → (y : ℕ) × Ring (new_run_v v t w z i q c r).gen (new_run_v v t w z i q c r).class (new_run_v v t w z i q c r).next d y ((new_run_v v t w z i q c r).count d)
      ring d (yes e) h = rw (e, upd_same v.count c 1) (
        i,
        record {
          rest = [];
          round = upd_same v.next i i;
          once = (tt, tt);
          frames = (record { live = new; mine = upd_same v.class i c }, tt);
          whole = λ s f. whole s f (ℕ_discrete s i);
          sized = refl;
        },
      )
        where
          whole : (s : ℕ) → Frame (new_run_v v t w z i q c r).gen (new_run_v v t w z i q c r).class c s → Dec (s ≡ i) → In s (i ∷ [])
          whole s f (yes e) = inl e
          whole s f (no e) = absurd (live_ne v.count (S.class-live s (was s e f.live)) U.unused (rw upd_other at f.mine))
      ring d (no e) h =
          let k = S.ring d (rw upd_other at h) in (
            k.0,
            rw (upd_other v.count c 1 d e) (ring-frame k.1
                (λ s f. let o : s ≢ i = live_ne v.gen f.live T.unused in record { live = rw upd_other f.live; mine = rw upd_other f.mine })
                (λ s f. back s f (ℕ_discrete s i))
                (λ s f. upd_other v.next i i s (live_ne v.gen f.live T.unused))),
          )
        where
          back : (s : ℕ) → Frame (new_run_v v t w z i q c r).gen (new_run_v v t w z i q c r).class d s → Dec (s ≡ i) → Frame v.gen v.class d s
          back s f (yes o) = absurd (e (sym f.mine ∙ rw (o, upd_same)))
          back s f (no o) = record { live = rw upd_other at f.live; mine = rw upd_other at f.mine }

-- ---- the book's rule
pub begun-still : (st : State) (payload value size : ℕ) → Still st (begun st payload value size)
unfolding begun
begun-still st payload value size = record { elems = taken-capacity (elem_side st); shared = taken-capacity (shared_side st); elems-long = simp length-row; shared_long = simp length-row }

module _ (st : State) (R : Ready st) (payload value size : ℕ) (room : Room st.head.elems) (room' : Room st.head.shared) where
  pub begun_view : view (begun st payload value size) ≡ new_run_v (view st) payload value size (slot_of st.head.elems) (taken (elem_side st)) (slot_of st.head.shared) (taken (shared_side st))
  unfolding begun new_run_v
  begun_view =
      let H = shaped_of st R.shape in
      let W = working st R in
      let si = taken_stored H.elems W.elems (take (elem_side st) W.elems room) in
      let sc = taken_stored H.shared W.shared (take (shared_side st) W.shared room') in
      view_path _ _ refl (search cols) (search cols) (search cols) (search cols) (search cols) (search cols) (search cols) (search cols) (search cols) (search cols) (search cols)

  pub new_run-keeps : size ≤ most_bytes → Ready (begun st payload value size)
  new_run-keeps small =
      ready-still R (begun-still st payload value size)
      (rw begun_view (new_run-sound (view st) payload value size (slot_of st.head.elems) (taken (elem_side st)) (slot_of st.head.shared) (taken (shared_side st)) (working st R)
      (take (elem_side st) (working st R).elems room) (take (shared_side st) (working st R).shared room') small))
