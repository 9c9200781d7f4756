-- The keys live in a copy are exactly those live in its source, and each call that only reads answers alike on both (Ticket 10).
use Rattle.std.specs.Prelude.{if◌then◌else◌, ◌==◌}
use mathlib.Core.Path.{◌≡◌, refl, sym, ap, ◌∙◌, subst}
use mathlib.Core.Logic.{◌≢◌}
use mathlib.Core.Bool.{Bool, true, false, ◌&&◌, ◌||◌}
use mathlib.Core.List.{List, [], ◌∷◌, map, append-nil}
use Prim.Native.Nat.{ℕ, zero, suc, ◌≤◌}
use native.Mathlib.Omega.{arith}
use native.Mathlib.Decide.{ℕ_discrete}
use lib.Dec.{T}
use lib.ListN.{length}
use Rattle.rules.specs.declared.Key.{Key}
use Rattle.rules.specs.declared.Cause.{Cause}
use Rattle.rules.specs.declared.Cause.TheVariants.{NoSlot, FreeSlot, OtherGeneration}
use Rattle.std.specs.Prelude.{Ok, Err}
use Rattle.rules.specs.declared.Refusal.TheVariants.{Short}
use Rattle.rules.specs.Notation.{◌≤?◌, ◌<?◌, along, up_to, flat, keep, every}
use Rattle.rules.specs.Tables
use Rattle.rules.specs.Tables.{generation_of, class_of, value_of, total_of, State, elem_side, shared_side, is_live, is_free, cause, found, key_at, size_at}
use Rattle.rules.specs.Refusals.{Ruling, refuse, accept, answer, outcome, when_live, with_live}
use Rattle.rules.specs.Runs.{key_values}
use Rattle.rules.specs.Reads
use Rattle.rules.specs.Drains
use Rattle.rules.specs.Drains.{ring, is_short, key_width}
use Rattle.rules.specs.WriteFile
use Rattle.rules.specs.WriteFile.{frame_in, run_in, runs_in, bytes_in}
use Rattle.rules.specs.RunFile.{StoredRun, file}
use Rattle.rules.specs.Compress.{is_lowest, lowest_slots}
use Rattle.rules.specs.Calls.{Call, len_surject, in_same_surject, get_element, get_shared, get_size, get_total, lookup, set_element, set_shared, check, new_run, insert, union, remove, remove_shared, list, drain, seal, drain_all, clear, undo, exchange, compress, compress_with, write_file, Ready, Is, step}
use Rattle.rules.specs.Keeping.{Effect, reads, joins, undoes, drops, effect}
use Rattle.rules.specs.Copy.{last_to, last_live, copied_pool, copied}
use Rattle.rules.specs.Copying.{Alike}
use Rattle.rules.proofs.Laws.Tests.{le_is, is_true, is_false}
use Rattle.rules.proofs.Laws.Sides.{live_of}
use Rattle.rules.proofs.Laws.Working.{view, Working}
use Rattle.rules.proofs.Laws.Lists.{All, all_map}
use Rattle.rules.proofs.Laws.Order.{lowest_to, lowest_more, round}
use Rattle.rules.proofs.Laws.Blocks.{lowest-live}
use Rattle.rules.proofs.Laws.Good
use Rattle.rules.proofs.Laws.Renumber.{Renumbered, renumbered-size, renumbered-along}
use Rattle.rules.proofs.Laws.Copied.{live-yes, live_no, last_le}
use Rattle.rules.proofs.Laws.Copy.{itself, Roomy, gens, counts, copy_renumbers, copy_works}
use Rattle.rules.proofs.Laws.Histories.Copied.{map_same}

-- what is said of reads alone
abbrev OfReads : Effect → Type 0 → Type 0
OfReads reads P = P
OfReads joins P = Unit {0}
OfReads undoes P = Unit {0}
OfReads drops P = Unit {0}

module _ (a b : ℕ) (st : State) (W : Working (view st)) (M : Roomy a b st) where
  abbrev st' : State
  st' = copied a b st

  W' : Working (view (copied a b st))
  W' = copy_works a b st W M

  -- the same slots are live
  pub same_live : (s : ℕ) → is_live (elem_side (copied a b st)) s ≡ is_live (elem_side st) s
  same_live s = go (ℕ_discrete ((view st).gen s) 0)
    where
      go : Dec ((view st).gen s ≡ 0) → is_live (elem_side (copied a b st)) s ≡ is_live (elem_side st) s
      go (yes e) = live_no (elem_side st') W'.elems s (rw (gens a b st W) e) ∙ sym (live_no (elem_side st) W.elems s e)
      go (no e) = live-yes (elem_side st') W'.elems s (rw (gens a b st W) e) ∙ sym (live-yes (elem_side st) W.elems s e)

  pub same-header : (c : ℕ) → is_live (shared_side (copied a b st)) c ≡ is_live (shared_side st) c
  same-header c = go (ℕ_discrete ((view st).count c) 0)
    where
      go : Dec ((view st).count c ≡ 0) → is_live (shared_side (copied a b st)) c ≡ is_live (shared_side st) c
      go (yes e) = live_no (shared_side st') W'.shared c (rw (counts a b st W) e) ∙ sym (live_no (shared_side st) W.shared c e)
      go (no e) = live-yes (shared_side st') W'.shared c (rw (counts a b st W) e) ∙ sym (live-yes (shared_side st) W.shared c e)

  -- THE KEYS
  pub copy-keys : Ready st → Ready (copied a b st) → (k : Key) → (Tables.LiveKey st k → Tables.LiveKey (copied a b st) k) × (Tables.LiveKey (copied a b st) k → Tables.LiveKey st k)
  copy-keys R R' k = (there, back)
    where
      there : Tables.LiveKey st k → Tables.LiveKey (copied a b st) k
      there e = let l = Good.live_of st k e in Good.live_to st' R' k (record { live = rw (gens a b st W) l.live; gen = rw (gens a b st W) l.gen })

      back : Tables.LiveKey (copied a b st) k → Tables.LiveKey st k
      back e = let l = Good.live_of st' k e in Good.live_to st R k (record { live = rw (gens a b st W) at l.live; gen = rw (gens a b st W) at l.gen })

  -- why a key is dead: a slot past the last live one is past the copy's extent
  pub copy-causes : (k : Key) → cause (copied a b st) k ≡ (if (copied a b st).head.elems.extent <? k.slot then NoSlot else cause st k)
  unfolding cause is_free copied_pool
  copy-causes k = go (last <? k.slot) refl (le_is (suc last) k.slot)
    where
      last : ℕ
      last = last_live (elem_side st)

      either : (z : Bool) (c d : Cause) → (if z || true then c else d) ≡ c
      either true c d = refl
      either false c d = refl

      free : ℕ → Bool
      free extent = (1 ≤? k.slot) && (k.slot ≤? extent) && (generation_of st.elems k.slot == 0)

      go : (p : Bool) → (last <? k.slot) ≡ p → Is (suc last ≤ k.slot) p
          → (if (k.slot == 0) || (last <? k.slot) then NoSlot else (if (1 ≤? k.slot) && (k.slot ≤? last) && (generation_of st'.elems k.slot == 0) then FreeSlot else OtherGeneration))
          ≡ (if p then NoSlot else (if (k.slot == 0) || (st.head.elems.extent <? k.slot) then NoSlot else (if free st.head.elems.extent then FreeSlot else OtherGeneration)))
      go true e h = rw e (either (k.slot == 0) NoSlot _)
      go false e h =
          let l : k.slot ≤ last = omega arith in
          let m : k.slot ≤ st.head.elems.extent = omega (arith, last_le (elem_side st) st.head.elems.extent) in
          rw (e, is_false (st.head.elems.extent <? k.slot) (le_is (suc st.head.elems.extent) k.slot) (λ q. omega arith), is_true (k.slot ≤? last) (le_is k.slot last) l, is_true (k.slot ≤? st.head.elems.extent) (le_is k.slot st.head.elems.extent) m, gens a b st W)

  -- ---- reading
  N : Renumbered (view st) (view (copied a b st)) itself
  N = copy_renumbers a b st W

  size_same : (x : ℕ) → (view st).gen x ≢ 0 → size_at (copied a b st) x ≡ size_at st x
  size_same x h = renumbered-size (view st) (view st') itself N W x h

  ring-same : (x : ℕ) → (view st).gen x ≢ 0 → ring (copied a b st) x ≡ ring st x
  ring-same x h = ap (λ (n : ℕ). along (view st').next n x) (size_same x h) ∙ renumbered-along (view st) (view st') itself N W (size_at st x) x h ∙ map_same (λ s. s) (λ s. refl) (ring st x)

  -- the same slots are the lowest of their rings
  same-lowest : (x : ℕ) → is_lowest (copied a b st) x ≡ is_lowest st x
  unfolding is_lowest
  same-lowest x = rw (same_live x) (go (is_live (elem_side st) x) (λ t. ring-same x (live_of (elem_side st) x t).used))
    where
      go : (l : Bool) → (T l → ring st' x ≡ ring st x) → (l && every (λ y. x ≤? y) (ring st' x)) ≡ (l && every (λ y. x ≤? y) (ring st x))
      go true f = ap (every (λ y. x ≤? y)) (f tt)
      go false f = refl

  -- past the last live slot there is none
  lowest-past : (k : ℕ) → lowest_to st (last_to (elem_side st) k) ≡ lowest_to st k
  unfolding last_to is_lowest
  lowest-past zero = refl
  lowest-past (suc k) = go (is_live (elem_side st) (suc k)) refl (lowest-past k)
    where
      none : is_live (elem_side st) (suc k) ≡ false → is_lowest st (suc k) ≡ false
      none e = rw e

      go : (l : Bool) → is_live (elem_side st) (suc k) ≡ l → lowest_to st (last_to (elem_side st) k) ≡ lowest_to st k → lowest_to st (if l then suc k else last_to (elem_side st) k) ≡ lowest_to st (suc k)
      go true e q = refl
      go false e q = q ∙ sym (lowest_more st k false (none e) ∙ append-nil (lowest_to st k))

  keep_same : (xs : List ℕ) → keep (is_lowest st') xs ≡ keep (is_lowest st) xs
  keep_same [] = refl
  keep_same (x ∷ xs) = rw (same-lowest x, keep_same xs)

  lowest-same : lowest_slots (copied a b st) ≡ lowest_slots st
  unfolding lowest_slots copied_pool
  lowest-same = keep_same (up_to (last_live (elem_side st))) ∙ lowest-past st.head.elems.extent

  -- so the runs are the same, as a file has them
  frames-same : (xs : List ℕ) → All (λ x. (view st).gen x ≢ 0) xs → map (frame_in st') xs ≡ map (frame_in st) xs
  frames-same [] h = refl
  frames-same (x ∷ xs) h = rw (N.payloads x h.0, N.sizes x h.0, frames-same xs h.1)

  run-same : (x : ℕ) → (view st).gen x ≢ 0 → run_in (copied a b st) x ≡ run_in st x
  run-same x h =
      let v : value_of st'.shared (class_of st'.elems x) ≡ value_of st.shared (class_of st.elems x) = ap (value_of st'.shared) (N.classes x h) ∙ N.values (class_of st.elems x) (W.class-live x h) in
      let f : map (frame_in st') (ring st' x) ≡ map (frame_in st) (ring st x) = ap (map (frame_in st')) (ring-same x h) ∙ frames-same (ring st x) (all_map (λ s m. m.live) (ring st x) (round st W x h).frames) in
      λ i. record { value = v i; frames = f i }

  runs_same : runs_in (copied a b st) ≡ runs_in st
  unfolding runs_in
  runs_same = ap (map (run_in st')) lowest-same ∙ go (lowest_slots st) (lowest-live st W)
    where
      go : (xs : List ℕ) → All (λ x. (view st).gen x ≢ 0) xs → map (run_in st') xs ≡ map (run_in st) xs
      go [] h = refl
      go (x ∷ xs) h = rw (run-same x h.0, go xs h.1)

  module _ (lent : List ℕ) where
    on-key : (k : Key) (rule rule' : ℕ → Ruling) → ((x : ℕ) → (view st).gen x ≢ 0 → Alike (outcome st' lent (rule' x)) (outcome st lent (rule x))) → Alike (outcome st' lent (with_live st' k rule')) (outcome st lent (with_live st k rule))
    unfolding found
    on-key k rule rule' h = rw (same_live k.slot, gens a b st W) (go (is_live (elem_side st) k.slot) (generation_of st.elems k.slot == k.generation) (λ t. h k.slot (live_of (elem_side st) k.slot t).used))
      where
        go : (p q : Bool) → (T p → Alike (outcome st' lent (rule' k.slot)) (outcome st lent (rule k.slot)))
            → Alike (outcome st' lent (when_live (if p && q then Ok k.slot else Err (cause st' k)) rule')) (outcome st lent (when_live (if p && q then Ok k.slot else Err (cause st k)) rule))
        go true true f = f tt
        go true false f = record { number = refl; said = λ e. absurd (omega (arith, e)); lent = refl }
        go false q f = record { number = refl; said = λ e. absurd (omega (arith, e)); lent = refl }

    -- an answer of one number
    told : (n n' : ℕ) → n' ≡ n → Alike (outcome st' lent (answer (n' ∷ []) st')) (outcome st lent (answer (n ∷ []) st))
    told n n' e = rw e (record { number = refl; said = λ _. refl; lent = refl })

    places_same : (x : ℕ) → (view st).gen x ≢ 0 → flat (map (λ s. key_values (key_at st' s)) (ring st' x)) ≡ flat (map (λ s. key_values (key_at st s)) (ring st x))
    places_same x h = λ i. flat (map (λ s. s ∷ gens a b st W i s ∷ []) (ring-same x h i))

    listed : (short : Bool) (n n' : ℕ) (p p' : List ℕ) → n' ≡ n → p' ≡ p
        → Alike (outcome st' lent (if short then refuse Short else accept (n' ∷ []) false st' p')) (outcome st lent (if short then refuse Short else accept (n ∷ []) false st p))
    listed true n n' p p' e q = record { number = refl; said = λ z. absurd (omega (arith, z)); lent = refl }
    listed false n n' p p' e q = rw (e, q) (record { number = refl; said = λ _. refl; lent = refl })

    -- each call, if it reads
    by_call : (c : Call) → OfReads (effect c) (Alike (step (copied a b st) lent c) (step st lent c))
    unfolding Reads.len_surject Reads.in_same_surject Reads.get_element Reads.get_shared Reads.get_size Reads.get_total Reads.lookup Drains.list WriteFile.write_file
    by_call (len_surject k) = on-key k _ _ (λ x h. told _ _ (size_same x h))
    by_call (in_same_surject j k) = on-key j _ _ (λ x h. on-key k _ _ (λ y l. told _ _ (rw (N.classes x h, N.classes y l))))
    by_call (get_element k) = on-key k _ _ (λ x h. told _ _ (N.payloads x h))
    by_call (get_shared k) = on-key k _ _ (λ x h. told _ _ (ap (value_of st'.shared) (N.classes x h) ∙ N.values (class_of st.elems x) (W.class-live x h)))
    by_call (get_size k) = on-key k _ _ (λ x h. told _ _ (N.sizes x h))
    by_call (get_total k) = on-key k _ _ (λ x h. told _ _ (ap (total_of st'.shared) (N.classes x h) ∙ N.totals (class_of st.elems x) (W.class-live x h)))
    by_call (lookup k) = on-key k _ _ (λ x h. record { number = refl; said = λ _. refl; lent = refl })
    by_call (list k) = on-key k _ _ (λ x h. rw (ap (λ (n : ℕ). is_short lent n key_width) (size_same x h)) (listed (is_short lent (size_at st x) key_width) (size_at st x) (size_at st' x) _ _ (size_same x h) (places_same x h)))
    by_call write_file =
        let n : length (bytes_in 1 st') ≡ length (bytes_in 1 st) = ap (λ (rs : List StoredRun). length (file 1 rs)) runs_same in
        rw (ap (λ (n : ℕ). length lent <? n) n) (listed (length lent <? length (bytes_in 1 st)) (length (bytes_in 1 st)) (length (bytes_in 1 st')) _ _ n (ap (file 1) runs_same))
    by_call check = record { number = refl; said = λ _. refl; lent = refl }
    by_call (union j k) = tt
    by_call (set_element k payload) = tt
    by_call (set_shared k value) = tt
    by_call (exchange keys values) = tt
    by_call (new_run payload value size) = tt
    by_call (insert k payload size) = tt
    by_call (remove k) = tt
    by_call (remove_shared k) = tt
    by_call (drain k) = tt
    by_call drain_all = tt
    by_call (seal k) = tt
    by_call clear = tt
    by_call undo = tt
    by_call (compress reset) = tt
    by_call (compress_with reset) = tt

    -- THE READS
    pub reads-alike : (c : Call) → effect c ≡ reads → Alike (step (copied a b st) lent c) (step st lent c)
    reads-alike c e = subst (λ (f : Effect). OfReads f (Alike (step (copied a b st) lent c) (step st lent c))) e (by_call c)
