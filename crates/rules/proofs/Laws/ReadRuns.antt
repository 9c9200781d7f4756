-- The tables that the reader builds (Ticket 11) hold the runs that they were made of, in their order.
use mathlib.Core.Path.{◌≡◌, refl, sym, ap, ◌∙◌, subst}
use mathlib.Core.Logic.{◌≢◌}
use mathlib.Core.Bool.{Bool, true, false}
use mathlib.Core.List.{List, [], ◌∷◌, ◌++◌, map, map-append, append-nil}
use Prim.Native.Nat.{ℕ, zero, suc, ◌+◌, ◌-◌, ◌≤◌, ◌<◌}
use native.Mathlib.Omega.{arith}
use lib.ListN.{length, get_or, take}
use Rattle.rules.specs.Notation.{along}
use Rattle.rules.specs.Tables.{class_of, value_of, State, size_at}
use Rattle.rules.specs.Drains.{ring}
use Rattle.rules.specs.Compress.{is_lowest, lowest_slots}
use Rattle.rules.specs.RunFile.{StoredRun, frame_count}
use Rattle.rules.specs.WriteFile.{frame_in, run_in, runs_in}
use Rattle.rules.specs.ReadFile.{read_tables}
use Rattle.rules.proofs.Laws.Lists.{In, all-at}
use Rattle.rules.proofs.Laws.Steps.{walk-along, length-along}
use Rattle.rules.proofs.Laws.Sums.{along_of}
use Rattle.rules.proofs.Laws.Working.{view, Working}
use Rattle.rules.proofs.Laws.Order.{Looked, free, first, later, looked, round, lowest_to, lowest_more}
use Rattle.rules.proofs.Laws.Blocks.{ahead, ahead-all}
use Rattle.rules.proofs.Laws.Histories.Copied.{map_same}
use Rattle.rules.proofs.Laws.ReadCells.{frames_of, length_frames_of, run_no, frame_no, many, past, slot_at, past_next, count-flat}
use Rattle.rules.proofs.Laws.ReadSound.{Readable, map-along, gen_at, pay_at, class-at, bytes-at, count_at, value-at, run-walk, read_works}

take_more : {A : Type 0} (d : A) (xs : List A) (k : ℕ) → k < length xs → take (suc k) xs ≡ take k xs ++ get_or xs k d ∷ []
take_more d [] k h = absurd (omega arith)
take_more d (x ∷ xs) zero h = refl
take_more d (x ∷ xs) (suc k) h = ap (λ l. x ∷ l) (take_more d xs k (omega arith))

take_all : {A : Type 0} (xs : List A) → take (length xs) xs ≡ xs
take_all [] = refl
take_all (x ∷ xs) = ap (λ l. x ∷ l) (take_all xs)

module _ (a b : ℕ) (rs : List StoredRun) (R : Readable a b rs) where
  abbrev st : State
  st = read_tables a b rs

  abbrev W : Working (view (read_tables a b rs))
  W = read_works a b rs R

  live_at : (k i : ℕ) → k < length rs → i < many rs k → (view (read_tables a b rs)).gen (slot_at rs k i) ≢ 0
  live_at k i h l e = omega (arith, e, gen_at a b rs R k i h l)

  size-at : (k i : ℕ) → k < length rs → i < many rs k → size_at (read_tables a b rs) (slot_at rs k i) ≡ many rs k
  size-at k i h l = ap (view st).count (class-at a b rs R k i h l) ∙ count_at a b rs R k h

  -- the ring of a run from its first slot on
  pub ring-is : (k : ℕ) → k < length rs → ring (read_tables a b rs) (slot_at rs k 0) ≡ along suc (many rs k) (slot_at rs k 0)
  ring-is k h =
      let x : ℕ = slot_at rs k 0 in
      let n : suc (many rs k - 1) ≡ many rs k = omega (arith, R.some k h) in
      let xs : List ℕ = along suc (suc (many rs k - 1)) x in
      let m : length xs ≡ many rs k = length-along suc (suc (many rs k - 1)) x ∙ n in
      ap (λ (j : ℕ). along (view st).next j x) (size-at k 0 h (R.some k h) ∙ sym m) ∙ walk-along (view st).next x x xs (refl, run-walk a b rs R k h (many rs k - 1) 0 (omega (arith, R.some k h))) ∙ ap (λ (j : ℕ). along suc j x) n

  pub run_is : (k : ℕ) → k < length rs → run_in (read_tables a b rs) (slot_at rs k 0) ≡ run_no rs k
  run_is k h =
      let x : ℕ = slot_at rs k 0 in
      let v : value_of st.shared (class_of st.elems x) ≡ (run_no rs k).value = ap (view st).value (class-at a b rs R k 0 h (R.some k h)) ∙ value-at a b rs R k h in
      let f : map (frame_in st) (ring st x) ≡ (run_no rs k).frames = ap (map (frame_in st)) (ring-is k h) ∙ map-along _ (frame_in st) (λ f. f) (run_no rs k).frames x (λ i l. frame_is i l) ∙ map_same (λ f. f) (λ f. refl) (run_no rs k).frames in
      λ i. record { value = v i; frames = f i }
    where
      frame_is : (i : ℕ) → i < many rs k → frame_in (read_tables a b rs) (slot_at rs k 0 + i) ≡ frame_no rs k i
      frame_is i l =
          let q : slot_at rs k 0 + i ≡ slot_at rs k i = omega arith in
          let p = ap (view st).pay q ∙ pay_at a b rs R k i h l in
          let z = ap (view st).bytes q ∙ bytes-at a b rs R k i h l in
          λ j. record { payload = p j; size = z j }

  -- the first slot of a run is its lowest, and no other is
  first-lowest : (k : ℕ) → k < length rs → is_lowest (read_tables a b rs) (slot_at rs k 0) ≡ true
  first-lowest k h = go (is_lowest st (slot_at rs k 0)) (looked st W (slot_at rs k 0))
    where
      go : (t : Bool) → Looked (read_tables a b rs) (slot_at rs k 0) t → t ≡ true
      go t (free e) = absurd (live_at k 0 h (R.some k h) e)
      go t (first n al) = refl
      go t (later n z m l) = absurd (omega (arith, l, (along_of (many rs k) (slot_at rs k 0) z (subst (λ (xs : List ℕ). In z xs) (ring-is k h) m)).0))

  other-not : (k i : ℕ) → k < length rs → suc i < many rs k → is_lowest (read_tables a b rs) (slot_at rs k (suc i)) ≡ false
  other-not k i h l = go (is_lowest st (slot_at rs k (suc i))) (looked st W (slot_at rs k (suc i)))
    where
      go : (t : Bool) → Looked (read_tables a b rs) (slot_at rs k (suc i)) t → t ≡ false
      go t (free e) = refl
      go t (later n z m less) = refl
      go t (first n al) =
          let m : In (slot_at rs k 0) (ring st (slot_at rs k (suc i))) = (round st W (slot_at rs k (suc i)) n).whole (slot_at rs k 0) (record { live = live_at k 0 h (R.some k h); mine = class-at a b rs R k 0 h (R.some k h) ∙ sym (class-at a b rs R k (suc i) h l) }) in
          absurd (omega (arith, all-at (λ y. slot_at rs k (suc i) ≤ y) (slot_at rs k 0) (ring st (slot_at rs k (suc i))) al m))

  lowest_block : (k : ℕ) → k < length rs → (m : ℕ) → suc m ≤ many rs k → lowest_to (read_tables a b rs) (past rs k + suc m) ≡ lowest_to (read_tables a b rs) (past rs k) ++ slot_at rs k 0 ∷ []
  lowest_block k h zero l =
      let q : slot_at rs k 0 ≡ suc (past rs k) = omega arith in
      let p : past rs k + 1 ≡ suc (past rs k) = omega arith in
      ap (lowest_to st) p ∙ lowest_more st (past rs k) true (sym (ap (is_lowest st) q) ∙ first-lowest k h) ∙ ap (λ (x : ℕ). lowest_to st (past rs k) ++ x ∷ []) (sym q)
  lowest_block k h (suc m) l =
      let p : past rs k + suc (suc m) ≡ suc (past rs k + suc m) = omega arith in
      ap (lowest_to st) p ∙ lowest_more st (past rs k + suc m) false (other-not k m h l) ∙ append-nil (lowest_to st (past rs k + suc m)) ∙ lowest_block k h m (omega arith)

  runs_to : (k : ℕ) → k ≤ length rs → map (run_in (read_tables a b rs)) (lowest_to (read_tables a b rs) (past rs k)) ≡ take k rs
  unfolding ahead
  runs_to zero h = refl
  runs_to (suc k) h =
      let m : suc (many rs k - 1) ≡ many rs k = omega (arith, R.some k h) in
      let e : past rs (suc k) ≡ past rs k + suc (many rs k - 1) = past_next rs k h ∙ ap (λ (j : ℕ). past rs k + j) (sym m) in
      ap (λ (n : ℕ). map (run_in st) (lowest_to st n)) e
      ∙ ap (map (run_in st)) (lowest_block k h (many rs k - 1) (omega arith))
      ∙ map-append (run_in st) (lowest_to st (past rs k)) (slot_at rs k 0 ∷ [])
      ∙ (λ j. runs_to k (omega arith) j ++ run_is k h j ∷ [])
      ∙ sym (take_more _ rs k h)

  -- THE LAW
  pub read-holds : runs_in (read_tables a b rs) ≡ rs
  unfolding runs_in lowest_slots read_tables
  read-holds =
      let e : frame_count rs ≡ past rs (length rs) = count-flat rs ∙ sym (ahead-all (frames_of rs)) ∙ ap (ahead (frames_of rs)) (length_frames_of rs) in
      ap (λ (n : ℕ). map (run_in st) (lowest_to st n)) e ∙ runs_to (length rs) (omega arith) ∙ take_all rs
