-- Remove shared: a whole ring is freed, along next, then its class slot. The columns after it, and that it keeps a sound state.
use mathlib.Core.Path.{◌≡◌, refl, sym, ap, ◌∙◌}
use mathlib.Core.Logic.{◌≢◌}
use mathlib.Core.List.{List, ◌∷◌}
use Prim.Native.Nat.{ℕ, ◌≤◌}
use native.Mathlib.Omega.{arith}
use native.Mathlib.Decide.{ℕ_discrete}
use Rattle.rules.specs.Tables.{last_generation, class_of, State, blank, size_at}
use Rattle.rules.specs.Slots.{freed, free_shared, raised, raise}
use Rattle.rules.specs.Drains.{free_ring}
use Rattle.rules.specs.Calls.{Ready}
use Rattle.rules.proofs.Laws.Lists.{In, Out, all_map, all-at, out-by, in_dec, out_of}
use Rattle.rules.proofs.Laws.Columns.{upd, upd_same, upd_other}
use Rattle.rules.proofs.Laws.Pools.{free}
use Rattle.rules.proofs.Laws.Marked.{marked-zero}
use Rattle.rules.proofs.Laws.Totals.{Dropped, gone, sizes-drop}
use Rattle.rules.proofs.Laws.Totals
use Rattle.rules.proofs.Laws.Working.{View, view, Frame, Ring, Working, next-class, prev_class}
use Rattle.rules.proofs.Laws.Soundness.{shaped_of, ring-at}
use Rattle.rules.proofs.Laws.Safe.{working}
use Rattle.rules.proofs.Laws.Stored.{Still, still_then, ready-still, live_stored}
use Rattle.rules.proofs.Laws.Links.{live_ne, ring-frame}
use Rattle.rules.proofs.Laws.Wiped.{wipe, thread, freed_all, wipe_out, wipe_zero, wipe_in, freed_all-capacity, thread_out, pool-all, free_ring-still, free_all_v, free_ring-view}
use Rattle.rules.proofs.Laws.Freed.{raise_v, raised_least, raised-most, free_shared-still, raise-still, free_shared_v, free_shared-view}

unfoldable pub remove_shared_v : View → ℕ → List ℕ → View
remove_shared_v v c xs = record {
  head = record { elems = freed_all xs v.head.elems; shared = freed v.head.shared c; generation = raised v.head.generation; undo = blank };
  gen = wipe xs v.gen;
  pay = wipe xs v.pay;
  class = wipe xs v.class;
  prev = wipe xs v.prev;
  next = thread xs v.head.elems.root v.next;
  bytes = wipe xs v.bytes;
  count = upd v.count c 0;
  value = upd v.value c 0;
  chain = upd v.chain c v.head.shared.root;
  mark = upd v.mark c 0;
  total = upd v.total c 0;
}

module _ (v : View) (c x : ℕ) (S : Working v) (hc : v.count c ≢ 0) (r : Ring v.gen v.class v.next c x (v.count c)) where
  abbrev pub xs : List ℕ
  xs = x ∷ r.rest

  pub remove_shared-sound : Working (remove_shared_v v c xs)
  unfolding remove_shared_v
  remove_shared-sound = record {
    least = raised_least v.head.generation;
    most = raised-most v.head.generation S.most;
    elems = pool-all (x ∷ r.rest) S.elems r.once (all_map (λ s f. f.live) (x ∷ r.rest) r.frames);
    shared = free S.shared c hc (upd v.chain c v.head.shared.root) (upd_same v.chain c v.head.shared.root) (λ s e. upd_other v.chain c v.head.shared.root s (λ q. live_ne v.count hc e (sym q)));
    gens = λ s. gens s (in_dec ℕ_discrete s xs);
    zeros = λ s h. zeros s h (in_dec ℕ_discrete s xs);
    value-zero = λ d. value-zero d (ℕ_discrete d c);
    chain-zero = λ d. chain-zero d (ℕ_discrete d c);
    marks = marked-zero v.mark v.count S.marks c 0;
    sizes = rw (freed_all-capacity xs v.head.elems) (sizes-drop S.sizes c (wipe xs v.gen) (wipe xs v.class) (wipe xs v.bytes) (λ s. dropped s (in_dec ℕ_discrete s xs)));
    links = record {
      next-live = λ s h. let k = kept s h in rw (thread_out xs v.head.elems.root v.next s k.out) (stays (v.next s) (S.links.next-live s k.live) k.next-out);
      prev_live = λ s h. let k = kept s h in rw (wipe_out xs v.prev s k.out) (stays (v.prev s) (S.links.prev_live s k.live) k.prev_out);
      prev_next = λ s h. let k = kept s h in rw (thread_out xs v.head.elems.root v.next s k.out, wipe_out xs v.prev (v.next s) k.next-out) (S.links.prev_next s k.live);
      next_prev = λ s h. let k = kept s h in rw (wipe_out xs v.prev s k.out, thread_out xs v.head.elems.root v.next (v.prev s) k.prev_out) (S.links.next_prev s k.live);
    };
    class-live = λ s h. let k = kept s h in rw (wipe_out xs v.class s k.out, upd_other v.count c 0 (v.class s) k.other) (S.class-live s k.live);
    ring = λ d. ring d (ℕ_discrete d c);
  }
    where
      dropped : (s : ℕ) → Dec (In s xs) → Dropped c v.gen v.class v.bytes (wipe xs v.gen) (wipe xs v.class) (wipe xs v.bytes) s
      dropped s (yes m) = gone (all-at (Frame v.gen v.class c) s xs r.frames m).mine (wipe_in xs v.bytes s m)
      dropped s (no m) = let o = out_of s xs m in Totals.stays (wipe_out xs v.gen s o) (wipe_out xs v.class s o) (wipe_out xs v.bytes s o) (λ l e. m (r.whole s (record { live = l; mine = e })))

      Kept : ℕ → Type 0
      Kept s = record { live : v.gen s ≢ 0; other : v.class s ≢ c; out : Out s xs; next-out : Out (v.next s) xs; prev_out : Out (v.prev s) xs }

      outside : (s : ℕ) → v.class s ≢ c → Out s xs
      outside s h = out-by (Frame v.gen v.class c) s xs (λ f. h f.mine) r.frames

      kept : (s : ℕ) → wipe xs v.gen s ≢ 0 → Kept s
      kept s h =
          let out : Out s xs = out_of s xs (λ m. h (wipe_in xs v.gen s m)) in
          let live : v.gen s ≢ 0 = rw (wipe_out xs v.gen s out) at h in
          let other : v.class s ≢ c = λ e. h (wipe_in xs v.gen s (r.whole s (record { live = live; mine = e }))) in
          record { live = live; other = other; out = out; next-out = outside (v.next s) (λ e. other (sym (next-class v S s live) ∙ e)); prev_out = outside (v.prev s) (λ e. other (sym (prev_class v S s live) ∙ e)) }

      stays : (s : ℕ) → v.gen s ≢ 0 → Out s xs → wipe xs v.gen s ≢ 0
      stays s h o = rw (wipe_out xs v.gen s o) h

      gens : (s : ℕ) → Dec (In s xs) → wipe xs v.gen s ≤ last_generation
      gens s (yes m) = rw (wipe_in xs v.gen s m) (omega arith)
      gens s (no m) = rw (wipe_out xs v.gen s (out_of s xs m)) (S.gens s)

      zeros : (s : ℕ) → wipe xs v.gen s ≡ 0 → Dec (In s xs) → (wipe xs v.pay s ≡ 0) × (wipe xs v.class s ≡ 0) × (wipe xs v.prev s ≡ 0)
      zeros s h (yes m) = (wipe_in xs v.pay s m, wipe_in xs v.class s m, wipe_in xs v.prev s m)
      zeros s h (no m) =
          let z = S.zeros s (sym (wipe_out xs v.gen s (out_of s xs m)) ∙ h) in
          (wipe_zero xs v.pay s z.0, wipe_zero xs v.class s z.1, wipe_zero xs v.prev s z.2)

      value-zero : (d : ℕ) → Dec (d ≡ c) → upd v.count c 0 d ≡ 0 → upd v.value c 0 d ≡ 0
      value-zero d (yes e) h = rw (e, upd_same)
      value-zero d (no e) h = rw upd_other (S.value-zero d (rw upd_other at h))

      chain-zero : (d : ℕ) → Dec (d ≡ c) → upd v.count c 0 d ≢ 0 → upd v.chain c v.head.shared.root d ≡ 0
      chain-zero d (yes e) h = absurd (h (rw (e, upd_same)))
      chain-zero d (no e) h = rw upd_other (S.chain-zero d (rw upd_other at h))

      ring : (d : ℕ) → Dec (d ≡ c) → upd v.count c 0 d ≢ 0 → (y : ℕ) × Ring (wipe xs v.gen) (wipe xs v.class) (thread xs v.head.elems.root v.next) d y (upd v.count c 0 d)
      ring d (yes e) h = absurd (h (rw (e, upd_same)))
      ring d (no e) h =
          let l = S.ring d (rw upd_other at h) in (
            l.0,
            rw (upd_other v.count c 0 d e) (ring-frame l.1
                (λ s f. let o = outside s (λ q. e (sym f.mine ∙ q)) in record { live = stays s f.live o; mine = wipe_out xs v.class s o ∙ f.mine })
                (λ s f. let k = kept s f.live in record { live = k.live; mine = sym (wipe_out xs v.class s k.out) ∙ f.mine })
                (λ s f. thread_out xs v.head.elems.root v.next s (outside s (λ q. e (sym f.mine ∙ q))))),
          )

-- ---- the book's rule

-- the state that remove shared leaves
abbrev pub ring_removed : State → (x : ℕ) → State
ring_removed st x = raise (free_shared (free_ring (size_at st x) st x) (class_of st.elems x))

pub ring_removed-still : (st : State) (x : ℕ) → Still st (ring_removed st x)
ring_removed-still st x =
    let s = free_ring (size_at st x) st x in
    still_then (free_ring-still (size_at st x) st x) (still_then (free_shared-still s ((view st).class x)) (raise-still (free_shared s ((view st).class x))))

module _ (st : State) (R : Ready st) (x : ℕ) (hx : (view st).gen x ≢ 0) where
  pub ring_removed-view : view (ring_removed st x) ≡ remove_shared_v (view st) ((view st).class x) (x ∷ (ring-at (view st) (working st R) x hx).rest)
  unfolding remove_shared_v free_all_v free_shared_v raise
  ring_removed-view =
      let H = shaped_of st R.shape in
      let W = working st R in
      let c = (view st).class x in
      let r = ring-at (view st) W x hx in
      let s = free_ring (size_at st x) st x in
      let free : view s ≡ free_all_v (view st) (x ∷ r.rest) = rw r.sized at (free_ring-view (x ∷ r.rest) st x x (refl, r.round) r.once (all_map (λ y f. live_stored H.elems W.elems y f.live) (x ∷ r.rest) r.frames)) in
      let sc = live_stored H.shared W.shared c (W.class-live x hx) in
      let gone = free_shared-view s c (record { low = sc.low; high = rw (free_ring-still (size_at st x) st x).shared_long sc.high }) in
      ap raise_v (gone ∙ ap (λ (v : View). free_shared_v v c) free)

  pub remove_shared-keeps : Ready (ring_removed st x)
  remove_shared-keeps =
      ready-still R (ring_removed-still st x)
      (rw ring_removed-view (remove_shared-sound (view st) ((view st).class x) x (working st R) ((working st R).class-live x hx) (ring-at (view st) (working st R) x hx)))
