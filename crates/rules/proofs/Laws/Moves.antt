-- Ticket 8: what a call of its premise does to the history's keys and to its generation.
use Rattle.std.specs.Prelude.{◌==◌}
use mathlib.Core.Path.{◌≡◌, refl, sym, ap, ◌∙◌, subst, subst⁻¹}
use mathlib.Core.Logic.{◌≢◌, ◌⊎◌, inl, inr}
use mathlib.Core.Bool.{Bool, true, false, ◌&&◌, not}
use mathlib.Core.List.{List, [], ◌∷◌, ◌++◌, map, append_assoc}
use Prim.Native.Nat.{ℕ, suc, ◌+◌, ◌≤◌, ◌<◌}
use native.Mathlib.Omega.{arith}
use lib.ListN.{length, drop}
use Rattle.rules.specs.declared.Key.{Key}
use Rattle.rules.specs.declared.Memory.{Memory}
use Rattle.rules.specs.declared.Refusal.{Refusal}
use Rattle.rules.specs.declared.Refusal.TheVariants.{SameClass, NoElement, NoShared, Short, Sealed, Nothing}
use Rattle.rules.specs.Notation.{◌<?◌, steps, flat}
use Rattle.rules.specs.Tables.{frame_width, last_generation, class_of, State, size_at, is_sealed}
use Rattle.rules.specs.Refusals.{Ruling, refuse, Outcome, outcome, number_of}
use Rattle.rules.specs.Reads
use Rattle.rules.specs.Slots.{is_full, raised, overflows}
use Rattle.rules.specs.Runs
use Rattle.rules.specs.Drains
use Rattle.rules.specs.Drains.{is_short, key_width, record_width, drain_records, all_records, all_drained}
use Rattle.rules.specs.Seals
use Rattle.rules.specs.Seals.{seal_width}
use Rattle.rules.specs.Undo
use Rattle.rules.specs.Undo.{taken_back}
use Rattle.rules.specs.Exchange
use Rattle.rules.specs.Exchange.{all_differ}
use Rattle.rules.specs.Compress
use Rattle.rules.specs.Compress.{generation_after, pair_width}
use Rattle.rules.specs.WriteFile
use Rattle.rules.specs.WriteFile.{bytes_in}
use Rattle.rules.specs.Calls.{Call, len_surject, in_same_surject, get_element, get_shared, get_size, get_total, lookup, set_element, set_shared, check, new_run, insert, union, remove, remove_shared, list, drain, seal, drain_all, clear, undo, exchange, compress, compress_with, write_file, ruling}
use Rattle.rules.specs.Renaming.{Compresses, canonical, kept}
use Rattle.rules.specs.History.{History, frames, others_of, run_of, runs_but, going_on, inserted_runs, joined_runs, removed_runs, renamed, moved_down, with_runs, joining, putting_in, taking_out, renaming, noted}
use Rattle.rules.specs.Sealing.{new_key}
use Rattle.rules.specs.Stale.{Ends, answer, on_record, on_record_of_all, reset, reset_with, closing}
use Rattle.rules.proofs.Laws.Lists.{In, in_right, in_image, all-at}
use Rattle.rules.proofs.Laws.Tests.{eq_is, is_false, is-not}
use Rattle.rules.proofs.Laws.Steps.{steps-suc}
use Rattle.rules.proofs.Laws.Working.{View, view}
use Rattle.rules.proofs.Laws.Safe.{working}
use Rattle.rules.proofs.Laws.Fronted.{in_over, same_in, same_back}
use Rattle.rules.proofs.Laws.Rep.{LiveKey, held}
use Rattle.rules.proofs.Laws.Headers.{live-runs, live-frames}
use Rattle.rules.proofs.Laws.Good.{Good, live_of, key_fronted, size-from}
use Rattle.rules.proofs.Laws.Rulings.{by_test, by_key, by-keys}
use Rattle.rules.proofs.Laws.Histories.Union.{both_fronted, in_exchange}
use Rattle.rules.proofs.Laws.Histories.Renumber.{flat_image}
use Rattle.rules.proofs.Laws.Histories.Drain.{good-all}
use Rattle.rules.proofs.Laws.Cut.{split_v}
use Rattle.rules.proofs.Laws.Traced.{back_view}
use Rattle.rules.proofs.Laws.Described.{traced}
use Rattle.rules.proofs.Laws.Recalls.{Recalls}
use Rattle.rules.proofs.Laws.DemandThree.{not-accepted}
use Rattle.rules.proofs.Laws.Marks.{rises, Silent, drain_rises, all_rises}

pub record Moves (h h' : History) : Type 0 where
  -- the generation does not fall
  pub rises : h.generation ≤ h'.generation
  -- a key that comes has the present generation, or a later one
  pub came : (k : Key) → In k (flat h'.runs) → In k (flat h.runs) ⊎ (h.generation ≤ k.generation)
  -- a key goes only where the generation rises
  pub left : (k : Key) → In k (flat h.runs) → In k (flat h'.runs) ⊎ (h.generation < h'.generation)

-- nothing moves; other runs of the same keys; a key comes; keys go, and the generation rises
pub still : {h : History} → Moves h h
still = record { rises = omega arith; came = λ k m. inl m; left = λ k m. inl m }

module _ (h : History) where
  rearranged : (rs before : List (List Key)) → ((k : Key) → In k (flat rs) → In k (flat h.runs)) → ((k : Key) → In k (flat h.runs) → In k (flat rs)) → Moves h (record { runs = rs; unjoined = before; sealed = h.sealed; sizes = h.sizes; put = h.put; taken = h.taken; generation = h.generation })
  rearranged rs before back forth = record { rises = omega arith; came = λ k m. inl (back k m); left = λ k m. inl (forth k m) }

  joined_by : (new : Key) (size : ℕ) (rs : List (List Key)) → h.generation ≤ new.generation → ((k : Key) → In k (flat rs) → In k (new ∷ flat h.runs)) → ((k : Key) → In k (flat h.runs) → In k (flat rs)) → Moves h (putting_in h new size rs)
  joined_by new size rs l back forth = record { rises = omega arith; came = λ k m. go k (back k m); left = λ k m. inl (forth k m) }
    where
      go : (k : Key) → In k (new ∷ flat h.runs) → In k (flat h.runs) ⊎ (h.generation ≤ k.generation)
      go k (inl e) = inr (rw e l)
      go k (inr m) = inl m

  fewer : (out rises : ℕ) (rs : List (List Key)) → ((k : Key) → In k (flat rs) → In k (flat h.runs)) → h.generation < steps raised rises h.generation → Moves h (taking_out h out rises rs)
  fewer out rises rs back l = record { rises = omega arith; came = λ k m. inl (back k m); left = λ k m. inr l }

-- whether a compression is asked to reset
abbrev pub asked_of : {c : Call} → Compresses c → Bool
asked_of (canonical asked) = asked
asked_of (kept asked) = asked

-- all keys of a compression have the generation that all frames take
pub renamed-generation : (h : History) {c : Call} (r : Compresses c) (k : Key) → In k (flat (map (map (new_key h r)) h.runs)) → k.generation ≡ generation_after (asked_of r) h.generation
unfolding renamed moved_down
renamed-generation h r k m = let i = in_image (new_key h r) k (flat h.runs) (subst (λ (ks : List Key). In k ks) (flat_image (new_key h r) h.runs) m) in ap (λ (j : Key). j.generation) i.2 ∙ given r i.0
  where
    given : {c : Call} (r : Compresses c) (j : Key) → (new_key h r j).generation ≡ generation_after (asked_of r) h.generation
    given (canonical asked) j = refl
    given (kept asked) j = refl

not-true : (b : Bool) → (b ≡ true → ⊥) → b ≡ false
not-true true n = absurd (n refl)
not-true false n = refl

-- a call that does not end the premise says no overflow, and is not asked to reset
pub quiet : {st : State} {o : Outcome} {c : Call} → (Ends st o c → ⊥) → o.said.over ≡ false
quiet {st} {o} q = not-true o.said.over (λ e. q (answer e))

pub not_asked : {st : State} {o : Outcome} {c : Call} (r : Compresses c) → (Ends st o c → ⊥) → asked_of r ≡ false
not_asked (canonical true) q = absurd (q reset)
not_asked (canonical false) q = refl
not_asked (kept true) q = absurd (q reset_with)
not_asked (kept false) q = refl

module _ (st : State) (lent : List ℕ) (h : History) (G : Good st h) where
  -- what is shown of a call that is ruled so
  abbrev Goes : Call → Ruling → Type 0
  Goes c r = (Ends st (outcome st lent r) c → ⊥) → Moves h (noted h c (outcome st lent r).said)

  refused : (c : Call) (r : Refusal) → Goes c (refuse r)
  refused c r q = rw (is_false (number_of r == 0) (eq_is (number_of r) 0) (not-accepted r)) still

  -- the generation, where it is not the last
  pub rise : overflows st ≡ false → raised h.generation ≡ h.generation + 1
  unfolding overflows
  rise e = subst (λ (g : ℕ). raised g ≡ g + 1) G.generation (rises st.head.generation e)

  begun_moves : (size : ℕ) → Moves h (putting_in h (Runs.new_key st) size ((Runs.new_key st ∷ []) ∷ h.runs))
  begun_moves size = joined_by h (Runs.new_key st) size ((Runs.new_key st ∷ []) ∷ h.runs) (omega (arith, G.generation)) (λ k m. m) (λ k m. inr m)

  module _ (k : Key) (l : LiveKey (view st) k) where
    run-back : (j : Key) → In j (flat (runs_but k h.runs)) → In j (flat h.runs)
    run-back j m = same_back j (key_fronted st h G k l) (in_right j (run_of k h.runs) (flat (runs_but k h.runs)) m)

    inserted_moves : (size : ℕ) → Moves h (putting_in h (Runs.new_key st) size (inserted_runs k (Runs.new_key st) h.runs))
    unfolding inserted_runs
    inserted_moves size = joined_by h (Runs.new_key st) size _ (omega (arith, G.generation)) (λ j m. back j m) (λ j m. forth j (same_in j (key_fronted st h G k l) m))
      where
        rest : List Key
        rest = others_of k h.runs ++ flat (runs_but k h.runs)

        back : (j : Key) → In j (k ∷ Runs.new_key st ∷ rest) → In j (Runs.new_key st ∷ flat h.runs)
        back j (inl e) = inr (same_back j (key_fronted st h G k l) (inl e))
        back j (inr (inl e)) = inl e
        back j (inr (inr m)) = inr (same_back j (key_fronted st h G k l) (inr m))

        forth : (j : Key) → In j (k ∷ rest) → In j (k ∷ Runs.new_key st ∷ rest)
        forth j (inl e) = inl e
        forth j (inr m) = inr (inr m)

    removed-back : (j : Key) → In j (flat (removed_runs k h.runs)) → In j (flat h.runs)
    unfolding removed_runs
    removed-back j m = same_back j (key_fronted st h G k l) (inr (go (others_of k h.runs) m))
      where
        go : (xs : List Key) → In j (flat (going_on xs (runs_but k h.runs))) → In j (xs ++ flat (runs_but k h.runs))
        go [] m = m
        go (x ∷ xs) m = m

    drained_moves : Silent (size_at st k.slot) (drain_records (size_at st k.slot) st k.slot ++ drop (length (drain_records (size_at st k.slot) st k.slot)) lent)
        → let n = length (run_of k h.runs) in Moves h (taking_out h n n (runs_but k h.runs))
    drained_moves s =
        let n = size_at st k.slot in
        let e = size-from st h G k l in
        let a : steps raised n h.generation ≡ h.generation + n = subst (λ (i : ℕ). steps raised n i ≡ i + n) G.generation (drain_rises n st k.slot _ s) in
        fewer h _ (length (run_of k h.runs)) (runs_but k h.runs) run-back (subst (λ (i : ℕ). h.generation < steps raised i h.generation) (sym e) (omega (arith, a, e)))

  union_moves : (j k : Key) → LiveKey (view st) j → LiveKey (view st) k → class_of st.elems j.slot ≢ class_of st.elems k.slot → Moves h (joining h (joined_runs j k h.runs))
  unfolding joined_runs
  union_moves j k lj lk n =
      let f = both_fronted (view st) (working st G.ready) j k lj lk n h.runs G.rings in
      let xs = others_of j h.runs in
      let ys = others_of k h.runs in
      let rest = flat (runs_but j (runs_but k h.runs)) in
      let both : (k ∷ (ys ++ j ∷ xs)) ++ rest ≡ (k ∷ ys) ++ ((j ∷ xs) ++ rest) = ap {B = List Key} (λ l. k ∷ l) (append_assoc ys (j ∷ xs) rest) in
      rearranged h _ _
      (λ x m. same_back x f (subst (λ (l : List Key). In x l) both (in_over x (j ∷ (ys ++ k ∷ xs)) (k ∷ (ys ++ j ∷ xs)) rest (in_exchange x k j xs ys) m)))
      (λ x m. in_over x (k ∷ (ys ++ j ∷ xs)) (j ∷ (ys ++ k ∷ xs)) rest (in_exchange x j k xs ys) (subst⁻¹ (λ (l : List Key). In x l) both (same_in x f m)))

  union_goes : (j k : Key) → Goes (union j k) (Runs.union st j k)
  unfolding Runs.union Runs.keeping
  union_goes j k =
      let P = Goes (union j k) in
      by_key P (refused (union j k)) st j _ (λ ej. by_key P (refused (union j k)) st k _ (λ ek.
      let cj = class_of st.elems j.slot in
      let ck = class_of st.elems k.slot in
      by_test P (cj == ck) _ _ (λ e. refused (union j k) SameClass) (λ e.
      let n = is-not (cj ≡ ck) (cj == ck) (eq_is cj ck) e in
      let m = union_moves j k (live_of st j ej) (live_of st k ek) n in
      by_test P (is_sealed st j.slot) _ _ (λ s. refused (union j k) Sealed) (λ s. by_test P (is_sealed st k.slot) _ _ (λ s. refused (union j k) Sealed) (λ s.
      by_test P (size_at st j.slot <? size_at st k.slot) _ _ (λ f q. m) (λ f q. m))))))

  exchange_goes : (keys : List Key) (values : List ℕ) → Goes (exchange keys values) (Exchange.exchange st keys values)
  unfolding Exchange.exchange
  exchange_goes keys values =
      let P = Goes (exchange keys values) in
      by-keys P (refused (exchange keys values)) st keys _ (λ xs a. by_test P (all_differ (map (class_of st.elems) xs)) _ _ (λ e q. still) (λ e. refused (exchange keys values) SameClass))

  drain_all-moves : Silent st.head.elems.live (all_records st.head.shared.live st ++ drop (length (all_records st.head.shared.live st)) lent) → overflows (all_drained st.head.shared.live st) ≡ false
      → Moves h (taking_out h (frames h) (suc (frames h)) [])
  unfolding overflows
  drain_all-moves s e =
      let n = st.head.shared.live in
      let runs : length h.runs ≡ n = sym (live-runs (view st) (working st G.ready) h.runs G.rings) in
      let many : st.head.elems.live ≡ frames h = live-frames (view st) (working st G.ready) h.runs G.rings in
      let g = steps raised (frames h) h.generation in
      let a : g ≡ h.generation + frames h = all_rises n st h G runs _ (λ i l m. s i l (omega (arith, many))) in
      let b : raised g ≡ g + 1 = rises g (subst (λ (i : ℕ). (i == last_generation) ≡ false) (good-all n st h G runs).generation e) in
      fewer h _ (suc (frames h)) [] (λ k m. absurd m) (omega (arith, steps-suc raised (frames h) h.generation, a, b))

  compress_moves : {c : Call} (r : Compresses c) → asked_of r ≡ false → (not (asked_of r) && overflows st) ≡ false → Moves h (renaming h (asked_of r) (new_key h r))
  compress_moves r n f =
      let e : raised h.generation ≡ h.generation + 1 = rise (subst (λ (b : Bool). (not b && overflows st) ≡ false) n f) in
      let g : generation_after (asked_of r) h.generation ≡ raised h.generation = ap (λ (b : Bool). generation_after b h.generation) n in
      record {
        rises = omega (arith, e, g);
        came = λ k m. inr (omega (arith, e, g, renamed-generation h r k m));
        left = λ k m. inr (omega (arith, e, g));
      }

  -- Ticket 7: undo takes no frame in or out
  undone_moves : Recalls st h → st.head.undo.kept ≢ 0 → Moves h (with_runs h h.unjoined)
  unfolding split_v
  undone_moves (inl e) n = absurd (n (ap (λ (m : Memory). m.kept) e))
  undone_moves (inr r) n =
      let v = view st in
      let w = view (taken_back st) in
      let same : (s : ℕ) → w.gen s ≡ v.gen s = λ s. ap (λ (u : View). u.gen s) (back_view st G.ready (traced st G.ready r.0)) in
      rearranged h h.unjoined h.unjoined
      (λ k m. let l = all-at (LiveKey w) k (flat h.unjoined) r.1.rings.live m in held v h.runs k G.rings (record { live = λ z. l.live (same k.slot ∙ z); gen = sym (same k.slot) ∙ l.gen }))
      (λ k m. let l = all-at (LiveKey v) k (flat h.runs) G.rings.live m in held w h.unjoined k r.1.rings (record { live = λ z. l.live (sym (same k.slot) ∙ z); gen = same k.slot ∙ l.gen }))

  pub call_goes : Recalls st h → (c : Call) → Goes c (ruling st lent c)
  unfolding Reads.len_surject Reads.in_same_surject Reads.get_element Reads.get_shared Reads.get_size Reads.get_total Reads.lookup Reads.set_element Reads.set_shared Runs.new_run Runs.insert Runs.remove Drains.remove_shared Drains.list Drains.drain Drains.drain_all Drains.clear Seals.seal Undo.undo Compress.compress Compress.compress_with WriteFile.write_file
  call_goes M (len_surject k) = by_key (Goes (len_surject k)) (refused (len_surject k)) st k _ (λ l q. still)
  call_goes M (in_same_surject j k) = by_key (Goes (in_same_surject j k)) (refused (in_same_surject j k)) st j _ (λ i. by_key (Goes (in_same_surject j k)) (refused (in_same_surject j k)) st k _ (λ l q. still))
  call_goes M (get_element k) = by_key (Goes (get_element k)) (refused (get_element k)) st k _ (λ l q. still)
  call_goes M (get_shared k) = by_key (Goes (get_shared k)) (refused (get_shared k)) st k _ (λ l q. still)
  call_goes M (get_size k) = by_key (Goes (get_size k)) (refused (get_size k)) st k _ (λ l q. still)
  call_goes M (get_total k) = by_key (Goes (get_total k)) (refused (get_total k)) st k _ (λ l q. still)
  call_goes M (lookup k) = by_key (Goes (lookup k)) (refused (lookup k)) st k _ (λ l q. still)
  call_goes M (set_element k payload) = by_key (Goes (set_element k payload)) (refused (set_element k payload)) st k _ (λ l q. still)
  call_goes M (set_shared k value) = by_key (Goes (set_shared k value)) (refused (set_shared k value)) st k _ (λ l q. still)
  call_goes M check = λ q. still
  call_goes M write_file = by_test (Goes write_file) (length lent <? length (bytes_in 1 st)) _ _ (λ e. refused write_file Short) (λ e q. still)
  call_goes M (new_run payload value size) =
      let P = Goes (new_run payload value size) in
      by_test P (is_full st.head.shared) _ _ (λ e. refused (new_run payload value size) NoShared) (λ e.
      by_test P (is_full st.head.elems) _ _ (λ f. refused (new_run payload value size) NoElement) (λ f q. begun_moves size))
  call_goes M (insert k payload size) =
      let P = Goes (insert k payload size) in
      by_key P (refused (insert k payload size)) st k _ (λ l.
      by_test P (is_sealed st k.slot) _ _ (λ s. refused (insert k payload size) Sealed) (λ s.
      by_test P (is_full st.head.elems) _ _ (λ e. refused (insert k payload size) NoElement) (λ e q. inserted_moves k (live_of st k l) size)))
  call_goes M (union j k) = union_goes j k
  call_goes M (remove k) = by_key (Goes (remove k)) (refused (remove k)) st k _ (λ l q. fewer h _ 1 (removed_runs k h.runs) (removed-back k (live_of st k l)) (omega (arith, rise (quiet q))))
  call_goes M (remove_shared k) = by_key (Goes (remove_shared k)) (refused (remove_shared k)) st k _ (λ l q. fewer h _ 1 (runs_but k h.runs) (run-back k (live_of st k l)) (omega (arith, rise (quiet q))))
  call_goes M (list k) = by_key (Goes (list k)) (refused (list k)) st k _ (λ l. by_test (Goes (list k)) (is_short lent (size_at st k.slot) key_width) _ _ (λ e. refused (list k) Short) (λ e q. still))
  call_goes M (drain k) = by_key (Goes (drain k)) (refused (drain k)) st k _ (λ l.
      by_test (Goes (drain k)) (is_short lent (size_at st k.slot) record_width) _ _ (λ e. refused (drain k) Short) (λ e q. drained_moves k (live_of st k l) (λ i l m f. q (on_record k i (l, m) f))))
  call_goes M drain_all = by_test (Goes drain_all) (is_short lent st.head.elems.live record_width) _ _ (λ e. refused drain_all Short) (λ e q. drain_all-moves (λ i l m f. q (on_record_of_all i (l, m) f)) (not-true _ (λ f. q (closing refl f))))
  call_goes M undo =
      let k = st.head.undo.kept in
      by_test (Goes undo) (k == 0) _ _ (λ e. refused undo Nothing) (λ e q. undone_moves M (is-not (k ≡ 0) (k == 0) (eq_is k 0) e))
  call_goes M clear = λ q. fewer h _ 1 [] (λ k m. absurd m) (omega (arith, rise (quiet q)))
  call_goes M (exchange keys values) = exchange_goes keys values
  call_goes M (seal k) = by_key (Goes (seal k)) (refused (seal k)) st k _ (λ l.
      by_test (Goes (seal k)) (is_sealed st k.slot) _ _ (λ s. refused (seal k) Sealed) (λ s.
      by_test (Goes (seal k)) (is_short lent (size_at st k.slot) seal_width) _ _ (λ e. refused (seal k) Short) (λ e q. record { rises = omega arith; came = λ j m. inl m; left = λ j m. inl m })))
  call_goes M (compress asked) = by_test (Goes (compress asked)) (is_short lent st.head.elems.capacity frame_width) _ _ (λ e. refused (compress asked) Short) (λ e q. compress_moves (canonical asked) (not_asked (canonical asked) q) (quiet q))
  call_goes M (compress_with asked) = by_test (Goes (compress_with asked)) (is_short lent st.head.elems.live pair_width) _ _ (λ e. refused (compress_with asked) Short) (λ e q. compress_moves (kept asked) (not_asked (kept asked) q) (quiet q))
