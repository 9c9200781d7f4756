-- A whole run goes, or all of them (Rules 8, 10, 11 and 12); and where no link changes, nothing does.
use mathlib.Core.Path.{◌≡◌, sym, ap, ◌∙◌}
use mathlib.Core.Logic.{◌≢◌, ◌⊎◌, inl, inr}
use mathlib.Core.List.{List, [], ◌∷◌}
use Prim.Native.Nat.{ℕ}
use native.Mathlib.Omega.{arith}
use lib.ListN.{length-append}
use Rattle.rules.specs.declared.Key.{Key}
use Rattle.rules.specs.Notation.{flat}
use Rattle.rules.specs.Tables.{State}
use Rattle.rules.specs.Slots.{raised}
use Rattle.rules.specs.Calls.{remove_shared}
use Rattle.rules.specs.History.{History, others_of, run_of, runs_but, accepted}
use Rattle.rules.proofs.Laws.Lists.{out-by, All, In, Out, all_map, all-at, all_of, all_parts, in_parts, nodup_parts, across, cycles_frame, out-not}
use Rattle.rules.proofs.Laws.Working.{View, view, Working, Frame, Ring, next-class}
use Rattle.rules.proofs.Laws.Soundness.{ring-at}
use Rattle.rules.proofs.Laws.Safe.{working}
use Rattle.rules.proofs.Laws.Wiped.{wipe_out, wipe_zero, wipe_in, thread_out}
use Rattle.rules.proofs.Laws.RemoveShared.{remove_shared_v, ring_removed, ring_removed-view, remove_shared-keeps}
use Rattle.rules.proofs.Laws.Fronted.{fronted}
use Rattle.rules.proofs.Laws.Fronted.{same_length}
use Rattle.rules.proofs.Laws.Rep.{key_at, next_key, LiveKey, Rep, rep_same, held, key-at}
use Rattle.rules.proofs.Laws.Classes.{first_run, one_class, own-run}
use Rattle.rules.proofs.Laws.Steady.{ring_removed-fewer}
use Rattle.rules.proofs.Laws.Seals.{seals_fewer}
use Rattle.rules.proofs.Laws.Givens.{givens_fewer}
use Rattle.rules.proofs.Laws.Good.{Good, key_fronted}

-- the frames of the class `c` are freed, and the others keep generation and next
pub record Gone (v v' : View) (c : ℕ) : Type 0 where
  pub out : (s : ℕ) → v.gen s ≢ 0 → v.class s ≡ c → v'.gen s ≡ 0
  pub free : (s : ℕ) → v.gen s ≡ 0 → v'.gen s ≡ 0
  pub g_o : (s : ℕ) → v.gen s ≢ 0 → v.class s ≢ c → v'.gen s ≡ v.gen s
  pub n_o : (s : ℕ) → v.gen s ≢ 0 → v.class s ≢ c → v'.next s ≡ v.next s

module _ (v v' : View) (S : Working v) (k : Key) (G : Gone v v' (v.class k.slot)) where
  abbrev other : Key → Type 0
  other x = LiveKey v x × (v.class x.slot ≢ v.class k.slot)

  stays : (x : Key) → other x → LiveKey v' x
  stays x o = let e = G.g_o x.slot o.0.live o.1 in record { live = rw e o.0.live; gen = e ∙ o.0.gen }

  next-same : (x : Key) → other x → next_key v' x ≡ next_key v x
  next-same x o =
      let l = o.0.live in
      ap (key_at v') (G.n_o x.slot l o.1) ∙ key-at v v' (v.next x.slot) (G.g_o (v.next x.slot) (S.links.next-live x.slot l) (λ e. o.1 (sym (next-class v S x.slot l) ∙ e)))

  pub rep_but : (xs : List Key) (hs : List (List Key)) → Rep v ((k ∷ xs) ∷ hs) → Rep v' hs
  rep_but xs hs R = record {
    rings = cycles_frame (next_key v) (next_key v') hs (all_map next-same (flat hs) others) R.rings.1;
    live = all_map stays (flat hs) others;
    once = (nodup_parts (k ∷ xs) (flat hs) R.once).1;
    whole = λ s h. whole s h (λ e. h (G.free s e)) (λ l e. h (G.out s l e));
  }
    where
      others : All other (flat hs)
      others = all_of other (flat hs) (λ x m.
          let l = all-at (LiveKey v) x (flat hs) (all_parts (LiveKey v) (k ∷ xs) (flat hs) R.live).1 m in
          (l, λ e. out-not x (k ∷ xs) (all-at (λ y. Out y (k ∷ xs)) x (flat hs) (across (k ∷ xs) (flat hs) (nodup_parts (k ∷ xs) (flat hs) R.once).2) m) (own-run v S k xs (first_run v (k ∷ xs) hs R) x l e)))

      whole : (s : ℕ) → v'.gen s ≢ 0 → v.gen s ≢ 0 → (v.gen s ≢ 0 → v.class s ≢ v.class k.slot) → In (key_at v' s) (flat hs)
      whole s h l n = rw (key-at v v' s (G.g_o s l (n l))) (go (in_parts (key_at v s) (k ∷ xs) (flat hs) (R.whole s l)))
        where
          go : In (key_at v s) (k ∷ xs) ⊎ In (key_at v s) (flat hs) → In (key_at v s) (flat hs)
          go (inl m) = absurd (n l (all-at (λ x. v.class x.slot ≡ v.class k.slot) (key_at v s) (k ∷ xs) (one_class v S k xs (first_run v (k ∷ xs) hs R)) m))
          go (inr m) = m

  pub rep_gone : (h : List (List Key)) → LiveKey v k → Rep v h → Rep v' (runs_but k h)
  rep_gone h l R = rep_but (others_of k h) (runs_but k h) (rep_same v (fronted k h R.once (held v h k R l)) R)

-- no frame is left
pub rep_none : (v : View) → ((s : ℕ) → v.gen s ≡ 0) → Rep v []
rep_none v z = record { rings = tt; live = tt; once = tt; whole = λ s h. absurd (h (z s)) }

-- generations and next links are as they were
pub rep_still : (v v' : View) → ((s : ℕ) → v'.gen s ≡ v.gen s) → ((s : ℕ) → v'.next s ≡ v.next s) → (h : List (List Key)) → Rep v h → Rep v' h
rep_still v v' g n h R = record {
  rings = cycles_frame (next_key v) (next_key v') h (all_of (λ x. next_key v' x ≡ next_key v x) (flat h) (λ x m. ap (key_at v') (n x.slot) ∙ key-at v v' (v.next x.slot) (g (v.next x.slot)))) R.rings;
  live = all_map (λ x l. record { live = rw (g x.slot) l.live; gen = g x.slot ∙ l.gen }) (flat h) R.live;
  once = R.once;
  whole = λ s l. rw (key-at v v' s (g s)) (R.whole s (rw (g s) at l));
}

-- Rules 8: a ring wiped whole
ring-gone : (v : View) (c x : ℕ) (r : Ring v.gen v.class v.next c x (v.count c)) → Gone v (remove_shared_v v c (x ∷ r.rest)) c
unfolding remove_shared_v
ring-gone v c x r = record {
  out = λ s l e. wipe_in xs v.gen s (r.whole s (record { live = l; mine = e }));
  free = λ s e. wipe_zero xs v.gen s e;
  g_o = λ s l n. wipe_out xs v.gen s (outside s n);
  n_o = λ s l n. thread_out xs v.head.elems.root v.next s (outside s n);
}
  where
    xs : List ℕ
    xs = x ∷ r.rest

    outside : (s : ℕ) → v.class s ≢ c → Out s xs
    outside s n = out-by (Frame v.gen v.class c) s xs (λ f. n f.mine) r.frames

-- state and history together
module _ (st : State) (h : History) (G : Good st h) (k : Key) (l : LiveKey (view st) k) where
  rings : Rep (view (ring_removed st k.slot)) (runs_but k h.runs)
  rings =
      let W = working st G.ready in
      let r = ring-at (view st) W k.slot l.live in
      rw (ring_removed-view st G.ready k.slot l.live)
      (rep_gone (view st) (remove_shared_v (view st) ((view st).class k.slot) (k.slot ∷ r.rest)) W k (ring-gone (view st) ((view st).class k.slot) k.slot r) h.runs l G.rings)

  generation-raised : (ring_removed st k.slot).head.generation ≡ raised st.head.generation
  unfolding remove_shared_v
  generation-raised = ap (λ (v : View). v.head.generation) (ring_removed-view st G.ready k.slot l.live)

  pub good-remove_shared : (values : List ℕ) → Good (ring_removed st k.slot) (accepted h (remove_shared k) values)
  good-remove_shared values = record {
    ready = remove_shared-keeps st G.ready k.slot l.live;
    rings = rings;
    seals = seals_fewer (view st) (view (ring_removed st k.slot)) (ring_removed-fewer st G.ready k.slot l.live) (runs_but k h.runs) rings h.sealed G.seals;
    sizes = givens_fewer (view st) (view (ring_removed st k.slot)) (ring_removed-fewer st G.ready k.slot l.live) (runs_but k h.runs) rings h.sizes G.sizes;
    generation = generation-raised ∙ ap raised G.generation;
    counts = omega (arith, same_length (key_fronted st h G k l), length-append (run_of k h.runs) (flat (runs_but k h.runs)), G.counts);
  }
