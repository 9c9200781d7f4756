-- Reading what was written (Ticket 11): the tables of a sound state's runs are those that canonical compression gives, but that no header is marked.
use Rattle.std.specs.Prelude.{if◌then◌else◌}
use mathlib.Core.Path.{◌≡◌, refl, sym, ap, ◌∙◌, subst}
use mathlib.Core.Logic.{◌≢◌}
use mathlib.Core.Bool.{Bool, true, false}
use mathlib.Core.List.{List, [], ◌∷◌, ◌++◌, map, map-append, append-nil, append_assoc}
use Prim.Native.Nat.{ℕ, zero, suc, ◌+◌, ◌*◌, ◌-◌, ◌≤◌, ◌<◌}
use native.Mathlib.Omega.{arith}
use lib.ListN.{length, get_or, length-append, length-map}
use lib.Seq.{get_or-append-add}
use Rattle.rules.specs.Notation.{steps, along, sum, flat}
use Rattle.rules.specs.Tables.{frame_width, header_width, header_at, cell, payload_of, class_of, bytes_of, count_of, value_of, mark_of, total_of, State}
use Rattle.rules.specs.Runs.{frame, header}
use Rattle.rules.specs.Drains.{ring}
use Rattle.rules.specs.Compress.{is_lowest, lowest_slots, canonical_frames, canonical_classes, place_of, padded, moved_frame, moved_header, renumbered_in}
use Rattle.rules.specs.RunFile.{StoredRun, total, frame_count}
use Rattle.rules.specs.WriteFile.{frame_in, run_in, runs_in}
use Rattle.rules.specs.ReadFile.{read_frame, read_frames, read_header, read_runs, read_tables}
use Rattle.rules.proofs.Laws.Lists.{All}
use Rattle.rules.proofs.Laws.Steps.{steps-suc, length-along}
use Rattle.rules.proofs.Laws.Places.{place_at, upto, cell-padded}
use Rattle.rules.proofs.Laws.Working.{view, Working, total-ring, next-class}
use Rattle.rules.proofs.Laws.Soundness.{ring-at}
use Rattle.rules.proofs.Laws.Order.{Looked, free, first, later, looked, lowest_to, frames_to, classes_to, lowest_more, frames_more, frames-to, classes-to, classes_more, classes_listed, flat_append}
use Rattle.rules.proofs.Laws.Blocks.{lowest-live, prefix, block_next, block_prev, block_live, ring-length}
use Rattle.rules.proofs.Laws.Compress.{header_column}
use Rattle.rules.proofs.Laws.FileLength.{count_runs, runs-live, frames-live}

-- the runs whose lowest slot is one of 1 to `k`
abbrev runs_to : State → ℕ → List StoredRun
runs_to st k = map (run_in st) (lowest_to st k)

runs-all : (st : State) → runs_in st ≡ runs_to st st.head.elems.extent
unfolding runs_in lowest_slots
runs-all st = refl

runs_more : (st : State) (k : ℕ) (b : Bool) → is_lowest st (suc k) ≡ b → runs_to st (suc k) ≡ runs_to st k ++ (if b then run_in st (suc k) ∷ [] else [])
runs_more st k b e = ap (map (run_in st)) (lowest_more st k b e) ∙ map-append (run_in st) (lowest_to st k) (if b then suc k ∷ [] else []) ∙ ap (λ (l : List StoredRun). runs_to st k ++ l) (go b)
  where
    go : (b : Bool) → map (run_in st) (if b then suc k ∷ [] else []) ≡ (if b then run_in st (suc k) ∷ [] else [])
    go true = refl
    go false = refl

-- one run more
runs_append : (c a : ℕ) (rs : List StoredRun) (r : StoredRun) → read_runs c a (rs ++ r ∷ []) ≡ read_runs c a rs ++ read_frames (c + length rs) (a + frame_count rs) (length r.frames) 0 r.frames
unfolding read_runs
runs_append c a [] r =
    let x : c + 0 ≡ c = omega arith in
    let y : a + 0 ≡ a = omega arith in
    append-nil (read_frames c a (length r.frames) 0 r.frames) ∙ λ i. read_frames (sym x i) (sym y i) (length r.frames) 0 r.frames
runs_append c a (q ∷ rs) r =
    let n : ℕ = length q.frames in
    let x : suc c + length rs ≡ c + suc (length rs) = omega arith in
    let y : a + n + frame_count rs ≡ a + (n + frame_count rs) = omega arith in
    ap (λ (l : List ℕ). read_frames c a n 0 q.frames ++ l) (runs_append (suc c) (a + n) rs r ∙ λ i. read_runs (suc c) (a + n) rs ++ read_frames (x i) (y i) (length r.frames) 0 r.frames)
    ∙ sym (append_assoc (read_frames c a n 0 q.frames) (read_runs (suc c) (a + n) rs) _)

module _ (st : State) (S : Working (view st)) where
  abbrev moved : ℕ → List ℕ
  moved = moved_frame st (canonical_frames st) (canonical_classes st) 1

  -- a run's block, at the slot `suc k` from which it is found
  module _ (k : ℕ) (l : suc k ≤ st.head.elems.extent) (lead : is_lowest st (suc k) ≡ true) (live : (view st).gen (suc k) ≢ 0) where
    abbrev x : ℕ
    x = suc k

    abbrev size : ℕ
    size = (view st).count ((view st).class (suc k))

    -- its class is numbered after those met before
    class-number : place_of (canonical_classes st) ((view st).class (suc k)) ≡ suc (length (lowest_to st k))
    class-number =
        let p = prefix st (suc k) st.head.elems.extent l in
        let cs : List ℕ = classes_to st k in
        let q : List ℕ = map (class_of st.elems) p.0 in
        let e : canonical_classes st ≡ cs ++ (view st).class x ∷ q =
        classes-to st ∙ ap (map (class_of st.elems)) p.1 ∙ map-append (class_of st.elems) (lowest_to st (suc k)) p.0
        ∙ ap (λ (y : List ℕ). y ++ q) (classes_more st S k true lead) ∙ append_assoc cs ((view st).class x ∷ []) q in
        let n : length cs ≡ length (lowest_to st k) = length-map (lowest_to st k) (class_of st.elems) in
        let z : length cs + 0 ≡ length cs = omega arith in
        let at : get_or (canonical_classes st) (length cs) 0 ≡ (view st).class x = ap (λ (y : List ℕ). get_or y (length cs) 0) e ∙ ap (λ (j : ℕ). get_or (cs ++ (view st).class x ∷ q) j 0) (sym z) ∙ get_or-append-add cs ((view st).class x ∷ q) 0 0 in
        let m : length cs < length (canonical_classes st) = omega (arith, ap length e, length-append cs ((view st).class x ∷ q)) in
        ap (place_of (canonical_classes st)) (sym at) ∙ place_at (canonical_classes st) (length cs) (classes_listed st S).once m ∙ ap suc n

    class_same : (i : ℕ) → i < (view st).count ((view st).class (suc k)) → (view st).class (steps (view st).next i (suc k)) ≡ (view st).class (suc k)
    class_same zero h = refl
    class_same (suc i) h =
        let s : ℕ = steps (view st).next i x in
        ap (view st).class (steps-suc (view st).next i x) ∙ next-class (view st) S s (block_live st S k l lead live i (omega arith)) ∙ class_same i (omega arith)

    row_is : (i : ℕ) → i < (view st).count ((view st).class (suc k)) → moved_frame st (canonical_frames st) (canonical_classes st) 1 (steps (view st).next i (suc k))
        ≡ read_frame (suc (length (lowest_to st k))) (length (frames_to st k)) ((view st).count ((view st).class (suc k))) i (frame_in st (steps (view st).next i (suc k)))
    row_is i h =
        let s : ℕ = steps (view st).next i x in
        let c = ap (place_of (canonical_classes st)) (class_same i h) ∙ class-number in
        let p = block_prev st S k l lead live i h in
        let q = block_next st S k l lead live i h in
        λ j. frame 1 (payload_of st.elems s) (c j) (p j) (q j) (bytes_of st.elems s)

    rows_from_lem : (m i : ℕ) → i + m ≡ (view st).count ((view st).class (suc k)) → flat (map (moved_frame st (canonical_frames st) (canonical_classes st) 1) (along (view st).next m (steps (view st).next i (suc k))))
        ≡ read_frames (suc (length (lowest_to st k))) (length (frames_to st k)) ((view st).count ((view st).class (suc k))) i (map (frame_in st) (along (view st).next m (steps (view st).next i (suc k))))
    unfolding read_frames
    rows_from_lem zero i e = refl
    rows_from_lem (suc m) i e =
        let q : (view st).next (steps (view st).next i x) ≡ steps (view st).next (suc i) x = sym (steps-suc (view st).next i x) in
        let r = subst (λ (y : ℕ). flat (map moved (along (view st).next m y)) ≡ read_frames (suc (length (lowest_to st k))) (length (frames_to st k)) size (suc i) (map (frame_in st) (along (view st).next m y))) (sym q) (rows_from_lem m (suc i) (omega (arith, e))) in
        λ j. row_is i (omega (arith, e)) j ++ r j

    -- THE BLOCK
    block_rows : flat (map (moved_frame st (canonical_frames st) (canonical_classes st) 1) (ring st (suc k)))
        ≡ read_frames (1 + length (runs_to st k)) (0 + frame_count (runs_to st k)) (length (run_in st (suc k)).frames) 0 (run_in st (suc k)).frames
    block_rows =
        let c : suc (length (lowest_to st k)) ≡ 1 + length (runs_to st k) = omega (arith, length-map (lowest_to st k) (run_in st)) in
        let a : length (frames_to st k) ≡ 0 + frame_count (runs_to st k) = omega (arith, count_runs st (lowest_to st k)) in
        let n : size ≡ length (run_in st x).frames = sym (ring-length st S k l lead live) ∙ sym (length-map (ring st x) (frame_in st)) in
        rows_from_lem size 0 (omega arith) ∙ λ j. read_frames (c j) (a j) (n j) 0 (run_in st x).frames

  rows_to : (k : ℕ) → k ≤ st.head.elems.extent → flat (map (moved_frame st (canonical_frames st) (canonical_classes st) 1) (frames_to st k)) ≡ read_runs 1 0 (runs_to st k)
  unfolding read_runs
  rows_to zero h = refl
  rows_to (suc k) h = go (is_lowest st (suc k)) refl (looked st S (suc k)) (rows_to k (omega arith))
    where
      lead_more : is_lowest st (suc k) ≡ true → (view st).gen (suc k) ≢ 0 → flat (map moved (frames_to st k)) ≡ read_runs 1 0 (runs_to st k) → flat (map moved (frames_to st (suc k))) ≡ read_runs 1 0 (runs_to st (suc k))
      lead_more e live r =
          ap (λ (xs : List ℕ). flat (map moved xs)) (frames_more st S k true e) ∙ ap flat (map-append moved (frames_to st k) (ring st (suc k))) ∙ flat_append (map moved (frames_to st k)) (map moved (ring st (suc k)))
          ∙ (λ j. r j ++ block_rows k h e live j) ∙ sym (runs_append 1 0 (runs_to st k) (run_in st (suc k))) ∙ ap (read_runs 1 0) (sym (runs_more st k true e))

      same : is_lowest st (suc k) ≡ false → flat (map moved (frames_to st k)) ≡ read_runs 1 0 (runs_to st k) → flat (map moved (frames_to st (suc k))) ≡ read_runs 1 0 (runs_to st (suc k))
      same e r =
          ap (λ (xs : List ℕ). flat (map moved xs)) (frames_more st S k false e ∙ append-nil (frames_to st k)) ∙ r ∙ ap (read_runs 1 0) (sym (runs_more st k false e ∙ append-nil (runs_to st k)))

      go : (b : Bool) → is_lowest st (suc k) ≡ b → Looked st (suc k) b → flat (map moved (frames_to st k)) ≡ read_runs 1 0 (runs_to st k) → flat (map moved (frames_to st (suc k))) ≡ read_runs 1 0 (runs_to st (suc k))
      go b e (free z) r = same e r
      go b e (later n z m less) r = same e r
      go b e (first n al) r = lead_more e n r

  -- ---- headers
  abbrev unmarked : ℕ → List ℕ
  unmarked c = header (count_of st.shared c) (value_of st.shared c) 0 (total_of st.shared c)

  header_is : (x : ℕ) → (view st).gen x ≢ 0 → read_header (run_in st x) ≡ header (count_of st.shared (class_of st.elems x)) (value_of st.shared (class_of st.elems x)) 0 (total_of st.shared (class_of st.elems x))
  header_is x h =
      let c : ℕ = class_of st.elems x in
      let n : length (run_in st x).frames ≡ count_of st.shared c = length-map (ring st x) (frame_in st) ∙ length-along (view st).next ((view st).count c) x in
      let z : total (run_in st x).frames ≡ total_of st.shared c = ap sum (sizes_of (ring st x)) ∙ sym (total-ring (view st) S c x (ring-at (view st) S x h)) in
      λ i. header (n i) (value_of st.shared c) 0 (z i)
    where
      sizes_of : (xs : List ℕ) → map (λ f. f.size) (map (frame_in st) xs) ≡ map (bytes_of st.elems) xs
      sizes_of [] = refl
      sizes_of (y ∷ ys) = ap (λ (l : List ℕ). bytes_of st.elems y ∷ l) (sizes_of ys)

  headers_are : flat (map read_header (runs_in st)) ≡ flat (map (λ c. header (count_of st.shared c) (value_of st.shared c) 0 (total_of st.shared c)) (canonical_classes st))
  unfolding runs_in canonical_classes
  headers_are = go (lowest_slots st) (lowest-live st S)
    where
      go : (xs : List ℕ) → All (λ x. (view st).gen x ≢ 0) xs → flat (map read_header (map (run_in st) xs)) ≡ flat (map unmarked (map (class_of st.elems) xs))
      go [] h = refl
      go (x ∷ xs) h = λ i. header_is x h.0 i ++ go xs h.1 i

  -- THE LAW
  module _ (a b : ℕ) where
    pub back_head : (read_tables a b (runs_in st)).head ≡ (renumbered_in a b st (canonical_frames st) (canonical_classes st) 1).head
    unfolding read_tables renumbered_in
    back_head = rw (runs-live st S, frames-live st S)

    pub back_elems : (read_tables a b (runs_in st)).elems ≡ (renumbered_in a b st (canonical_frames st) (canonical_classes st) 1).elems
    unfolding read_tables renumbered_in
    back_elems =
        ap (padded (a * frame_width)) (ap (read_runs 1 0) (runs-all st) ∙ sym (rows_to st.head.elems.extent (omega arith)) ∙ ap (λ (xs : List ℕ). flat (map moved xs)) (sym (frames-to st)))

    back-shared : (read_tables a b (runs_in st)).shared ≡ padded (b * header_width) (flat (map (λ c. header (count_of st.shared c) (value_of st.shared c) 0 (total_of st.shared c)) (canonical_classes st)))
    unfolding read_tables
    back-shared = ap (padded (b * header_width)) headers_are

    -- every field of a header but its mark
    pub back-header : (f : ℕ) → f < header_width → f ≢ header_at.mark → cell header_width (read_tables a b (runs_in st)).shared f ≡ cell header_width (renumbered_in a b st (canonical_frames st) (canonical_classes st) 1).shared f
    back-header f w n =
        ap (λ (t : List ℕ). cell header_width t f) back-shared ∙ cell-padded header_width unmarked (λ c. refl) (b * header_width) (canonical_classes st) f w
        ∙ ap (upto (length (canonical_classes st))) (same f w n) ∙ sym (header_column a b st (canonical_frames st) (canonical_classes st) 1 f w)
      where
        same : (f : ℕ) → f < header_width → f ≢ 3 → ◌≡◌ {A = ℕ → ℕ} (λ t. get_or (unmarked (get_or (canonical_classes st) (t - 1) 0)) f 0) (λ t. get_or (moved_header st (get_or (canonical_classes st) (t - 1) 0)) f 0)
        same zero w n = refl
        same (suc zero) w n = refl
        same (suc (suc zero)) w n = refl
        same (suc (suc (suc zero))) w n = absurd (n refl)
        same (suc (suc (suc (suc zero)))) w n = refl
        same (suc (suc (suc (suc (suc g))))) w n = absurd (omega arith)

    -- and where no header was marked, all of it
    pub back_whole : ((c : ℕ) → mark_of st.shared c ≡ 0) → (read_tables a b (runs_in st)).shared ≡ (renumbered_in a b st (canonical_frames st) (canonical_classes st) 1).shared
    unfolding renumbered_in
    back_whole z = back-shared ∙ ap (padded (b * header_width)) (go (canonical_classes st))
      where
        go : (cs : List ℕ) → flat (map unmarked cs) ≡ flat (map (moved_header st) cs)
        go [] = refl
        go (c ∷ cs) = λ i. header (count_of st.shared c) (value_of st.shared c) (sym (z c) i) (total_of st.shared c) ++ go cs i
