-- Ticket 1, the finalizer's theorem: what a seal answered and wrote is the run, and over any further calls no frame comes into it.
use Rattle.std.specs.Prelude.{if◌then◌else◌, ◌==◌}
use mathlib.Core.Path.{◌≡◌, refl, sym, ap, ◌∙◌, subst}
use mathlib.Core.Logic.{◌≢◌}
use mathlib.Core.Bool.{Bool, true, false}
use mathlib.Core.List.{List, [], ◌∷◌, ◌++◌, map}
use Prim.Native.Nat.{ℕ, suc, ◌≤◌}
use native.Mathlib.Omega.{arith}
use lib.ListN.{length, drop, length-map}
use Rattle.rules.specs.declared.Key.{Key}
use Rattle.rules.specs.declared.Refusal.{Refusal}
use Rattle.rules.specs.declared.Refusal.TheVariants as refusal
use Rattle.rules.specs.Notation.{flat, keep}
use Rattle.rules.specs.Tables
use Rattle.rules.specs.Tables.{frame_width, State, elem_side, shared_side, size_at, is_sealed}
use Rattle.rules.specs.Refusals.{Ruling, refuse, accept, Outcome, outcome, number_of}
use Rattle.rules.specs.Slots
use Rattle.rules.specs.Drains.{ring, is_short}
use Rattle.rules.specs.Seals
use Rattle.rules.specs.Seals.{seal_width, seal_place, sealed}
use Rattle.rules.specs.Compress
use Rattle.rules.specs.Compress.{canonical_frames, canonical_classes, renumbered, generation_after, live_slots, pair_width}
use Rattle.rules.specs.Calls.{Call, seal, ruling, step, fresh_step, AtDoor}
use Rattle.rules.specs.History.{History, holds, run_of, others_of, by_run, by_slot, still_in, sealing, noted, noted_fresh, noted_read}
use Rattle.rules.specs.Bytes.{Bytes}
use Rattle.rules.specs.ReadFile.{read_file, old_reader, read_step, runs_of}
use Rattle.rules.specs.Demand
use Rattle.rules.specs.Demand.{header_of}
use Rattle.rules.specs.Renaming.{Compresses, canonical, kept}
use Rattle.rules.specs.Sealing.{keys_written, new_key, Since, begin, fresh, read, call, compression, Sealed, Sealing}
use Rattle.rules.proofs.Laws.Lists.{All, In, all_map, all_of, all-at, all_image, in_map, in_image}
use Rattle.rules.proofs.Laws.Columns.{upd_same}
use Rattle.rules.proofs.Laws.Steps.{length-along}
use Rattle.rules.proofs.Laws.Pools.{if_ne}
use Rattle.rules.proofs.Laws.Keys.{in_of, in_to}
use Rattle.rules.proofs.Laws.Working.{View, view, Working}
use Rattle.rules.proofs.Laws.Safe.{working}
use Rattle.rules.proofs.Laws.Rep.{LiveKey, Rep, held}
use Rattle.rules.proofs.Laws.Classes.{Run, one_class, own-run}
use Rattle.rules.proofs.Laws.Order.{Listed, frames_listed, classes_listed}
use Rattle.rules.proofs.Laws.Compress.{by_place, own_renumbers}
use Rattle.rules.proofs.Laws.Renumber.{Renaming, Renumbered}
use Rattle.rules.proofs.Laws.Steady.{mark_at}
use Rattle.rules.proofs.Laws.Seals.{still_in_lem, still_of}
use Rattle.rules.proofs.Laws.Sealed.{seal_v, sealed_view}
use Rattle.rules.proofs.Laws.Closed.{Closed, closed_outcome, closes, closes-fresh}
use Rattle.rules.proofs.Laws.Rulings.{by_test, by_key}
use Rattle.rules.proofs.Laws.SameRuns.{writes_ruled}
use Rattle.rules.proofs.Laws.Good.{Good, live_of, live_to, run-from, size-from}
use Rattle.rules.proofs.Laws.Histories.Cleared.{good-fresh}
use Rattle.rules.proofs.Laws.Histories.Renumber.{rekeyed}
use Rattle.rules.proofs.Laws.Histories.Compress.{run-ring}
use Rattle.rules.proofs.Laws.Histories.Renamed.{mark_carried, named, all_live, Told, canonical-told}
use Rattle.rules.proofs.Laws.Histories.Ranked.{frames_by_slot, headers_by_slot, kept-told}
use Rattle.rules.proofs.Laws.DemandThree.{at-door, good-call, good-read, after-good, not-accepted, after_recalls}
use Rattle.rules.proofs.Laws.Recalls.{Recalls, remembers, fresh_recalls}

-- ---- some frames of sealed runs, and all frames of their runs
record Whole (v : View) (ks : List Key) : Type 0 where
  live : All (LiveKey v) ks
  marked : All (λ k. mark_at v k.slot ≡ 1) ks
  closed : (j : Key) → In j ks → (i : Key) → LiveKey v i → v.class i.slot ≡ v.class j.slot → In i ks

-- what a call leaves of them
whole_closed : (v v' : View) → Closed v v' → (rs : List (List Key)) → Rep v' rs → (ks : List Key) → Whole v ks → Whole v' (still_in rs ks)
whole_closed v v' C rs R ks K = record {
  live = all_of (LiveKey v') (still_in rs ks) (λ k m. now k m);
  marked = all_of (λ k. mark_at v' k.slot ≡ 1) (still_in rs ks) (λ k m. C.mark k.slot (was k m).live (gen k m) (mark k m));
  closed = λ j m i l e.
      let t = C.joins j.slot i.slot (was j m).live (gen j m) (mark j m) l.live e in
      still_in_lem rs ks i (held v' rs i R l) (K.closed j (still_of rs ks j m).0 i (record { live = rw t.0 at l.live; gen = sym t.0 ∙ l.gen }) t.1);
}
  where
    was : (k : Key) → In k (still_in rs ks) → LiveKey v k
    was k m = all-at (LiveKey v) k ks K.live (still_of rs ks k m).0

    now : (k : Key) → In k (still_in rs ks) → LiveKey v' k
    now k m = all-at (LiveKey v') k (flat rs) R.live (still_of rs ks k m).1

    gen : (k : Key) → In k (still_in rs ks) → v'.gen k.slot ≡ v.gen k.slot
    gen k m = (now k m).gen ∙ sym (was k m).gen

    mark : (k : Key) → In k (still_in rs ks) → mark_at v k.slot ≡ 1
    mark k m = all-at (λ x. mark_at v x.slot ≡ 1) k ks K.marked (still_of rs ks k m).0

-- and a renumbering
whole-renumbered : (v v' : View) (m : Renaming) (N : Renumbered v v' m) (W : Working v) (ks : List Key) → Whole v ks → Whole v' (map (rekeyed v v' m N W) ks)
whole-renumbered v v' m N W ks K = record {
  live = all_image new (LiveKey v') ks (all_map (λ k l. record { live = (N.out k.slot l.live).0; gen = refl }) ks K.live);
  marked = all_image new (λ k. mark_at v' k.slot ≡ 1) ks (all_of (λ k. mark_at v' (new k).slot ≡ 1) ks (λ k i. mark_carried v v' m N W k.slot (live k i).live ∙ all-at (λ x. mark_at v x.slot ≡ 1) k ks K.marked i));
  closed = λ j i x l e.
      let t = in_image new j ks i in
      let n = named v v' m N W x l in
      subst (λ (z : Key). In z (map new ks)) n.2 (in_map new n.0 ks (K.closed t.0 t.1 n.0 n.1 (of n.0 t.0 n.1 (live t.0 t.1)
      (ap (λ (z : Key). v'.class z.slot) n.2 ∙ e ∙ ap (λ (z : Key). v'.class z.slot) t.2))));
}
  where
    new : Key → Key
    new = rekeyed v v' m N W

    live : (k : Key) → In k ks → LiveKey v k
    live k i = all-at (LiveKey v) k ks K.live i

    of : (a b : Key) → LiveKey v a → LiveKey v b → v'.class (m.new a.slot) ≡ v'.class (m.new b.slot) → v.class a.slot ≡ v.class b.slot
    of a b la lb e =
        sym (N.class-out (v.class a.slot) (W.class-live a.slot la.live)) ∙ ap m.old_class (sym (N.classes a.slot la.live) ∙ e ∙ N.classes b.slot lb.live)
        ∙ N.class-out (v.class b.slot) (W.class-live b.slot lb.live)

-- ---- over any calls
record Held (st : State) (h : History) (most : ℕ) (ks : List Key) : Type 0 where
  good : Good st h
  recalls : Recalls st h
  whole : Whole (view st) ks
  few : length ks ≤ most

keep-few : (test : Key → Bool) (ks : List Key) → length (keep test ks) ≤ length ks
keep-few test [] = omega arith
keep-few test (k ∷ ks) = go (test k) (keep-few test ks)
  where
    go : (b : Bool) → length (keep test ks) ≤ length ks → length (if b then k ∷ keep test ks else keep test ks) ≤ suc (length ks)
    go true l = omega arith
    go false l = omega arith

module _ (st : State) (h : History) (n : ℕ) (ks : List Key) (H : Held st h n ks) where
  still : (st' : State) (h' : History) → Closed (view st) (view st') → Good st' h' → Recalls st' h' → Held st' h' n (still_in h'.runs ks)
  still st' h' C G M = record {
    good = G;
    recalls = M;
    whole = whole_closed (view st) (view st') C h'.runs G.rings ks H.whole;
    few = omega (arith, keep-few (λ k. holds k (flat h'.runs)) ks, H.few);
  }

  held-fresh : (elems shared : ℕ) → Held (fresh_step st elems shared).state (noted_fresh h (fresh_step st elems shared).said) n (still_in (noted_fresh h (fresh_step st elems shared).said).runs ks)
  held-fresh elems shared = still _ _ (closed_outcome st [] (Slots.fresh st elems shared) (closes-fresh st elems shared)) (good-fresh st elems shared h H.good) (fresh_recalls st elems shared h H.recalls)

  -- Ticket 11: an accepted read puts other frames in, a refused one changes nothing
  held-read : (file : List ℕ) → Bytes file → Held (read_step st file).state (noted_read h (runs_of file) (read_step st file).said) n (if (read_step st file).said.number == 0 then [] else ks)
  held-read file b = go (read_file old_reader st file) (good-read H.good H.recalls file b)
    where
      go : (q : Ruling) → Good (outcome st [] q).state (noted_read h (runs_of file) (outcome st [] q).said) × Recalls (outcome st [] q).state (noted_read h (runs_of file) (outcome st [] q).said)
          → Held (outcome st [] q).state (noted_read h (runs_of file) (outcome st [] q).said) n (if (outcome st [] q).said.number == 0 then [] else ks)
      go (accept values over st' places) G = record { good = G.0; recalls = G.1; whole = record { live = tt; marked = tt; closed = λ j m. absurd m }; few = omega arith }
      go (refuse r) G = rw (if_ne (number_of r) 0 [] ks (not-accepted r)) (record { good = G.0; recalls = G.1; whole = H.whole; few = H.few })

  held-call : (lent : List ℕ) (c : Call) (o : Outcome) → AtDoor st lent c o → (Compresses c → o.said.number ≢ 0) → Held o.state (noted h c o.said) n (still_in (noted h c o.said).runs ks)
  held-call lent c o d x =
      let q = at-door H.good H.recalls lent c o d in
      let C = closed_outcome st lent (ruling st lent c) (closes st H.good.ready (remembers st h H.recalls) lent c (λ r. subst (λ (p : Outcome). p.said.number ≢ 0) q (x r))) in
      let G = good-call H.good H.recalls lent c o d in
      still o.state (noted h c o.said) (subst (λ (p : Outcome). Closed (view st) (view p.state)) (sym q) C) G.0 G.1

  -- a compression by any listing, whose new keys are those that `new` gives
  module _ (fs cs : List ℕ) (E : Listed (view st).gen fs) (C : Listed (view st).count cs) (reset : Bool) (new : Key → Key) (told : Told st h H.good fs cs E C reset new) where
    moved : Whole (view (renumbered st fs cs (generation_after reset st.head.generation))) (map new ks)
    moved =
        let W = working st H.good.ready in
        let v = view st in
        let v' = view (renumbered st fs cs (generation_after reset st.head.generation)) in
        let m = by_place fs cs in
        let N = own_renumbers st W fs cs E C reset in
        subst (λ (xs : List Key). Whole v' xs) (all_live (LiveKey v) (rekeyed v v' m N W) new ks told H.whole.live) (whole-renumbered v v' m N W ks H.whole)

  renames : (lent : List ℕ) {c : Call} (r : Compresses c) → (step st lent c).said.number ≡ 0 → Whole (view (step st lent c).state) (map (new_key h r) ks)
  unfolding Compress.compress Compress.compress_with
  renames lent (canonical reset) e =
      let W = working st H.good.ready in
      writes_ruled st lent (is_short lent st.head.elems.capacity frame_width) _ _ _ _ (λ s. Whole (view s) (map (by_run h reset) ks))
      (moved (canonical_frames st) (canonical_classes st) (frames_listed st W) (classes_listed st W) reset (by_run h reset) (canonical-told st h H.good reset)) e
  renames lent (kept reset) e =
      let W = working st H.good.ready in
      writes_ruled st lent (is_short lent st.head.elems.live pair_width) _ _ _ _ (λ s. Whole (view s) (map (by_slot h reset) ks))
      (moved (live_slots (elem_side st)) (live_slots (shared_side st)) (frames_by_slot st W) (headers_by_slot st W) reset (by_slot h reset) (kept-told st h H.good reset)) e

  held-compress : (lent : List ℕ) (c : Call) (r : Compresses c) (o : Outcome) → AtDoor st lent c o → o.said.number ≡ 0 → Held o.state (noted h c o.said) n (map (new_key h r) ks)
  held-compress lent c r o d e =
      let q = at-door H.good H.recalls lent c o d in
      let G = good-call H.good H.recalls lent c o d in
      record {
        good = G.0;
        recalls = G.1;
        whole = subst (λ (p : Outcome). Whole (view p.state) (map (new_key h r) ks)) (sym q) (renames lent r (subst (λ (p : Outcome). p.said.number ≡ 0) q e));
        few = omega (arith, length-map ks (new_key h r), H.few);
      }

since : {st : State} {h : History} {ks : List Key} {st' : State} {h' : History} {ks' : List Key} (n : ℕ) → Held st h n ks → Since st h ks st' h' ks' → Held st' h' n ks'
since n H begin = H
since n H (fresh {st' = s} {h' = g} {ks' = xs} a elems shared) = held-fresh s g n xs (since n H a) elems shared
since n H (read {st' = s} {h' = g} {ks' = xs} a file b) = held-read s g n xs (since n H a) file b
since n H (call {st' = s} {h' = g} {ks' = xs} a lent c o d x) = held-call s g n xs (since n H a) lent c o d x
since n H (compression {st' = s} {h' = g} {ks' = xs} a lent c r o d e) = held-compress s g n xs (since n H a) lent c r o d e

-- ---- the seal itself
written_places : (st : State) (xs rest : List ℕ) → keys_written (length xs) (flat (map (seal_place st) xs) ++ rest) ≡ map (Tables.key_at st) xs
unfolding keys_written
written_places st [] rest = refl
written_places st (x ∷ xs) rest = ap {B = List Key} (λ l. Tables.key_at st x ∷ l) (written_places st xs rest)

module _ (st : State) (h : History) (G : Good st h) (lent : List ℕ) (k : Key) (l : LiveKey (view st) k) where
  abbrev c : ℕ
  c = (view st).class k.slot

  W : Working (view st)
  W = working st G.ready

  r : Run (view st) (run_of k h.runs)
  r = run-from st h G k l

  whole-sealed : Whole (view (sealed st c)) (run_of k h.runs)
  unfolding seal_v
  whole-sealed = rw (sealed_view st G.ready c (W.class-live k.slot l.live)) (record {
    live = all_map (λ j i. record { live = i.live; gen = i.gen }) (run_of k h.runs) r.live;
    marked = all_map (λ j e. rw (e, upd_same)) (run_of k h.runs) (one_class (view st) W k (others_of k h.runs) r);
    closed = λ j m i li e.
        own-run (view st) W k (others_of k h.runs) r i (record { live = li.live; gen = li.gen })
        (e ∙ all-at (λ x. (view st).class x.slot ≡ c) j (run_of k h.runs) (one_class (view st) W k (others_of k h.runs) r) m);
  })

  wrote : keys_written (size_at st k.slot) (flat (map (seal_place st) (ring st k.slot)) ++ drop (length (flat (map (seal_place st) (ring st k.slot)))) lent) ≡ run_of k h.runs
  wrote =
      let xs = ring st k.slot in
      ap (λ (n : ℕ). keys_written n (flat (map (seal_place st) xs) ++ drop (length (flat (map (seal_place st) xs))) lent)) (sym (length-along (view st).next (size_at st k.slot) k.slot))
      ∙ written_places st xs (drop (length (flat (map (seal_place st) xs))) lent) ∙ run-ring st W k (others_of k h.runs) r

-- from what holds at the seal, what holds after any calls
module _ (h : History) (k : Key) (st₀ : State) (h₀ : History) (n : ℕ) (H : Held st₀ h₀ n (run_of k h.runs)) where
  only_those : {st' : State} {h' : History} {ks : List Key} → Since st₀ h₀ (run_of k h.runs) st' h' ks → (j : Key) → Demand.In j ks → (i : Key) → Demand.In i (run_of j h'.runs) → Demand.In i ks
  only_those {st'} {h'} {ks} a j m i e =
      let D = since n H a in
      let lj = all-at (LiveKey (view st')) j ks D.whole.live (in_of j ks m) in
      let q = run-from st' h' D.good j lj in
      let i' = in_of i (run_of j h'.runs) e in
      in_to i ks (D.whole.closed j (in_of j ks m) i (all-at (LiveKey (view st')) i (run_of j h'.runs) q.live i')
      (all-at (λ x. (view st').class x.slot ≡ (view st').class j.slot) i (run_of j h'.runs) (one_class (view st') (working st' D.good.ready) j (others_of j h'.runs) q) i'))

  still_marked : {st' : State} {h' : History} {ks : List Key} → Since st₀ h₀ (run_of k h.runs) st' h' ks → (j : Key) → Demand.In j ks → Tables.LiveKey st' j × (Tables.mark_of st'.shared (header_of st' j) ≡ 1)
  still_marked {st'} {h'} {ks} a j m =
      let D = since n H a in
      (live_to st' D.good.ready j (all-at (LiveKey (view st')) j ks D.whole.live (in_of j ks m)), all-at (λ x. mark_at (view st') x.slot ≡ 1) j ks D.whole.marked (in_of j ks m))

module _ (st : State) (h : History) (G : Good st h) (lent : List ℕ) (k : Key) where
  -- what is claimed of an accepted seal
  abbrev claimed : Ruling → Type 0
  claimed q = (outcome st lent q).said.number ≡ 0 → Good (outcome st lent q).state (noted h (seal k) (outcome st lent q).said) → Recalls (outcome st lent q).state (noted h (seal k) (outcome st lent q).said) → Sealed st h k (outcome st lent q)

  refused : (q : Refusal) → claimed (refuse q)
  refused q e = absurd (not-accepted q e)

  seal_claimed : claimed (Seals.seal st lent k)
  unfolding Seals.seal
  seal_claimed =
      by_key claimed refused st k _ (λ e.
      let l = live_of st k e in
      let n = size-from st h G k l in
      by_test claimed (is_sealed st k.slot) _ _ (λ s. refused refusal.Sealed) (λ s.
      by_test claimed (is_short lent (size_at st k.slot) seal_width) _ _ (λ f. refused refusal.Short) (λ f z G' M'.
      let H : Held (sealed st ((view st).class k.slot)) (sealing h k) (size_at st k.slot) (run_of k h.runs) = record { good = G'; recalls = M'; whole = whole-sealed st h G lent k l; few = omega (arith, n) } in
      record {
        counted = sym n;
        written = wrote st h G lent k l;
        only = only_those h k (sealed st ((view st).class k.slot)) (sealing h k) (size_at st k.slot) H;
        marked = still_marked h k (sealed st ((view st).class k.slot)) (sealing h k) (size_at st k.slot) H;
        fewer = λ a. (since (size_at st k.slot) H a).few;
      })))

pub sealing-holds : Sealing
sealing-holds st h a lent k o d e =
    let G = after-good a in
    let M = after_recalls a in
    let q = at-door G M lent (seal k) o d in
    let B = good-call G M lent (seal k) o d in
    subst (λ (p : Outcome). Sealed st h k p) (sym q)
    (seal_claimed st h G lent k (subst (λ (p : Outcome). p.said.number ≡ 0) q e) (subst (λ (p : Outcome). Good p.state (noted h (seal k) p.said)) q B.0) (subst (λ (p : Outcome). Recalls p.state (noted h (seal k) p.said)) q B.1))
