-- The tables that the reader builds (Ticket 11), cell by cell: where the frames of each run stand, and what stands there.
use mathlib.Core.Path.{◌≡◌, refl, sym, ap, ◌∙◌}
use mathlib.Core.List.{List, [], ◌∷◌, map}
use Prim.Native.Nat.{ℕ, zero, suc, ◌+◌, ◌*◌, ◌-◌, ◌≤◌, ◌<◌}
use native.Mathlib.Omega.{arith}
use native.Mathlib.Nat.{mul-le-mul_right}
use lib.ListN.{length, get_or, length-append, get_or-append}
use lib.Seq.{get_or-append-add}
use Rattle.rules.specs.Notation.{flat}
use Rattle.rules.specs.Tables.{frame_width, header_width, cell}
use Rattle.rules.specs.RunFile.{StoredFrame, StoredRun, frame_count}
use Rattle.rules.specs.ReadFile.{read_frame, read_frames, read_header, read_runs, read_tables}
use Rattle.rules.proofs.Laws.Blocks.{ahead, ahead-next, ahead_le, Block, block_of}
use Rattle.rules.proofs.Laws.Places.{padded-long, padded-at, padded-past, rows_long, rows_at}

-- ---- where frames stand
abbrev no_frame : StoredFrame
no_frame = record { payload = 0; size = 0 }

abbrev no_run : StoredRun
no_run = record { value = 0; frames = [] }

abbrev pub frames_of : List StoredRun → List (List StoredFrame)
frames_of rs = map (λ r. r.frames) rs

-- the run numbered `k` from 0, its frame numbered `i`, and how many it has
abbrev pub run_no : List StoredRun → (k : ℕ) → StoredRun
run_no rs k = get_or rs k no_run

abbrev pub frame_no : List StoredRun → (k i : ℕ) → StoredFrame
frame_no rs k i = get_or (run_no rs k).frames i no_frame

abbrev pub many : List StoredRun → (k : ℕ) → ℕ
many rs k = length (run_no rs k).frames

-- the slots before the run's, and the slot of its frame
abbrev pub past : List StoredRun → (k : ℕ) → ℕ
past rs k = ahead (frames_of rs) k

abbrev pub slot_at : List StoredRun → (k i : ℕ) → ℕ
slot_at rs k i = suc (past rs k + i)

pub run-frames : (rs : List StoredRun) (k : ℕ) → get_or (frames_of rs) k [] ≡ (run_no rs k).frames
run-frames [] k = refl
run-frames (r ∷ rs) zero = refl
run-frames (r ∷ rs) (suc k) = run-frames rs k

pub length_frames_of : (rs : List StoredRun) → length (frames_of rs) ≡ length rs
length_frames_of [] = refl
length_frames_of (r ∷ rs) = ap suc (length_frames_of rs)

pub count-flat : (rs : List StoredRun) → frame_count rs ≡ length (flat (frames_of rs))
count-flat [] = refl
count-flat (r ∷ rs) = omega (arith, length-append r.frames (flat (frames_of rs)), count-flat rs)

pub past_next : (rs : List StoredRun) (k : ℕ) → k < length rs → past rs (suc k) ≡ past rs k + many rs k
past_next rs k h = ahead-next (frames_of rs) k (omega (arith, length_frames_of rs)) ∙ ap (λ (l : List StoredFrame). past rs k + length l) (run-frames rs k)

-- every frame stands within
pub slot-within : (rs : List StoredRun) (k i : ℕ) → k < length rs → i < many rs k → slot_at rs k i ≤ frame_count rs
slot-within rs k i h l =
    let n : past rs (suc k) ≤ length (flat (frames_of rs)) = ahead_le (frames_of rs) (suc k) (omega (arith, length_frames_of rs)) in
    omega (arith, past_next rs k h, count-flat rs)

-- and each slot within is some frame's
pub record Stands (rs : List StoredRun) (s : ℕ) : Type 0 where
  pub run : ℕ
  pub place : ℕ
  pub few : run < length rs
  pub short : place < many rs run
  pub here : s ≡ slot_at rs run place

pub stands : (rs : List StoredRun) (s : ℕ) → 1 ≤ s → s ≤ frame_count rs → Stands rs s
stands rs zero lo hi = absurd (omega arith)
stands rs (suc u) lo hi = go (block_of (frames_of rs) u (omega (arith, count-flat rs)))
  where
    go : Block (frames_of rs) u → Stands rs (suc u)
    go b =
        let k : ℕ = b.run in
        let h : k < length rs = omega (arith, b.few, length_frames_of rs) in
        let w : past rs k + (u - past rs k) ≡ u = omega (arith, b.low) in
        record { run = k; place = u - past rs k; few = h; short = omega (arith, b.low, b.high, past_next rs k h); here = ap suc (sym w) }

-- runs that stand apart do not meet
pub stands_once : (rs : List StoredRun) (k i l j : ℕ) → k < length rs → i < many rs k → l < length rs → j < many rs l → slot_at rs k i ≡ slot_at rs l j → (k ≡ l) × (i ≡ j)
unfolding ahead
stands_once [] k i l j a b c d e = absurd (omega arith)
stands_once (r ∷ rs) zero i zero j a b c d e = (refl, omega (arith, e))
stands_once (r ∷ rs) zero i (suc l) j a b c d e = absurd (omega (arith, e, b))
stands_once (r ∷ rs) (suc k) i zero j a b c d e = absurd (omega (arith, e, d))
stands_once (r ∷ rs) (suc k) i (suc l) j a b c d e = let q = stands_once rs k i l j (omega arith) b (omega arith) d (omega (arith, e)) in (ap suc q.0, q.1)

-- ---- what stands there
pub frames-long : (c a n i : ℕ) (fs : List StoredFrame) → length (read_frames c a n i fs) ≡ length fs * frame_width
unfolding read_frames
frames-long c a n i [] = omega arith
frames-long c a n i (f ∷ fs) = omega (arith, length-append (read_frame c a n i f) (read_frames c a n (suc i) fs), frames-long c a n (suc i) fs)

pub runs-long : (c a : ℕ) (rs : List StoredRun) → length (read_runs c a rs) ≡ frame_count rs * frame_width
unfolding read_runs
runs-long c a [] = omega arith
runs-long c a (r ∷ rs) =
    let n : ℕ = length r.frames in
    omega (arith, length-append (read_frames c a n 0 r.frames) (read_runs (suc c) (a + n) rs), frames-long c a n 0 r.frames, runs-long (suc c) (a + n) rs)

frames-at : (c a n i : ℕ) (fs : List StoredFrame) (j f : ℕ) → f < frame_width → j < length fs → get_or (read_frames c a n i fs) (j * frame_width + f) 0 ≡ get_or (read_frame c a n (i + j) (get_or fs j no_frame)) f 0
unfolding read_frames
frames-at c a n i [] j f h l = absurd (omega arith)
frames-at c a n i (x ∷ fs) zero f h l =
    let e : zero * frame_width + f ≡ f = omega arith in
    let z : i + zero ≡ i = omega arith in
    rw e (get_or-append (read_frame c a n i x) (read_frames c a n (suc i) fs) 0 f h ∙ ap (λ (j : ℕ). get_or (read_frame c a n j x) f 0) (sym z))
frames-at c a n i (x ∷ fs) (suc j) f h l =
    let e : suc j * frame_width + f ≡ length (read_frame c a n i x) + (j * frame_width + f) = omega arith in
    let z : i + suc j ≡ suc i + j = omega arith in
    rw e (get_or-append-add (read_frame c a n i x) (read_frames c a n (suc i) fs) (j * frame_width + f) 0 ∙ frames-at c a n (suc i) fs j f h (omega arith) ∙ ap (λ (k : ℕ). get_or (read_frame c a n k (get_or fs j no_frame)) f 0) (sym z))

runs-at : (c a : ℕ) (rs : List StoredRun) (k i f : ℕ) → f < frame_width → k < length rs → i < many rs k
    → get_or (read_runs c a rs) ((past rs k + i) * frame_width + f) 0 ≡ get_or (read_frame (c + k) (a + past rs k) (many rs k) i (frame_no rs k i)) f 0
unfolding read_runs ahead
runs-at c a [] k i f w h l = absurd (omega arith)
runs-at c a (r ∷ rs) zero i f w h l =
    let n : ℕ = length r.frames in
    let e : (0 + i) * frame_width + f ≡ i * frame_width + f = omega arith in
    let x : c + zero ≡ c = omega arith in
    let y : a + 0 ≡ a = omega arith in
    let z : 0 + i ≡ i = omega arith in
    let m : i * frame_width + f < length (read_frames c a n 0 r.frames) = omega (arith, frames-long c a n 0 r.frames, l, w) in
    rw e (get_or-append (read_frames c a n 0 r.frames) (read_runs (suc c) (a + n) rs) 0 (i * frame_width + f) m ∙ frames-at c a n 0 r.frames i f w l ∙ λ j. get_or (read_frame (sym x j) (sym y j) n (z j) (get_or r.frames i no_frame)) f 0)
runs-at c a (r ∷ rs) (suc k) i f w h l =
    let n : ℕ = length r.frames in
    let e : (n + past rs k + i) * frame_width + f ≡ length (read_frames c a n 0 r.frames) + ((past rs k + i) * frame_width + f) = omega (arith, frames-long c a n 0 r.frames) in
    let x : c + suc k ≡ suc c + k = omega arith in
    let y : a + (n + past rs k) ≡ a + n + past rs k = omega arith in
    rw e (get_or-append-add (read_frames c a n 0 r.frames) (read_runs (suc c) (a + n) rs) ((past rs k + i) * frame_width + f) 0 ∙ runs-at (suc c) (a + n) rs k i f w (omega arith) l ∙ λ j. get_or (read_frame (sym x j) (sym y j) (many rs k) i (frame_no rs k i)) f 0)

-- THE CELLS: of a frame, of a header, and past them
module _ (a b : ℕ) (rs : List StoredRun) where
  pub frame-cell : (k i f : ℕ) → f < frame_width → k < length rs → i < many rs k
      → cell frame_width (read_tables a b rs).elems f (slot_at rs k i) ≡ get_or (read_frame (suc k) (past rs k) (many rs k) i (frame_no rs k i)) f 0
  unfolding read_tables cell
  frame-cell k i f w h l =
      let x : 1 + k ≡ suc k = omega arith in
      let y : 0 + past rs k ≡ past rs k = omega arith in
      padded-at frame_width (frame_count rs) (read_runs 1 0 rs) (runs-long 1 0 rs) (a * frame_width) (past rs k + i) f w (slot-within rs k i h l)
      ∙ runs-at 1 0 rs k i f w h l ∙ λ j. get_or (read_frame (x j) (y j) (many rs k) i (frame_no rs k i)) f 0

  pub frame-none : (s f : ℕ) → f < frame_width → frame_count rs < s → cell frame_width (read_tables a b rs).elems f s ≡ 0
  unfolding read_tables cell
  frame-none zero f w h = refl
  frame-none (suc u) f w h = padded-past frame_width (frame_count rs) (read_runs 1 0 rs) (runs-long 1 0 rs) (a * frame_width) (u * frame_width + f) (omega (arith, mul-le-mul_right frame_width h))

  pub header-cell : (k f : ℕ) → f < header_width → k < length rs → cell header_width (read_tables a b rs).shared f (suc k) ≡ get_or (read_header (run_no rs k)) f 0
  unfolding read_tables cell
  header-cell k f w h =
      padded-at header_width (length rs) (flat (map read_header rs)) (rows_long no_run header_width read_header (λ r. refl) rs) (b * header_width) k f w h
      ∙ rows_at no_run header_width read_header (λ r. refl) rs k f w h

  pub header-none : (d f : ℕ) → f < header_width → length rs < d → cell header_width (read_tables a b rs).shared f d ≡ 0
  unfolding read_tables cell
  header-none zero f w h = refl
  header-none (suc u) f w h = padded-past header_width (length rs) (flat (map read_header rs)) (rows_long no_run header_width read_header (λ r. refl) rs) (b * header_width) (u * header_width + f) (omega (arith, mul-le-mul_right header_width h))

  -- the tables are as long as the capacities say
  pub read-elems : frame_count rs ≤ a → length (read_tables a b rs).elems ≡ a * frame_width
  unfolding read_tables
  read-elems h = padded-long frame_width (frame_count rs) (read_runs 1 0 rs) (runs-long 1 0 rs) a h

  pub read-shared : length rs ≤ b → length (read_tables a b rs).shared ≡ b * header_width
  unfolding read_tables
  read-shared h = padded-long header_width (length rs) (flat (map read_header rs)) (rows_long no_run header_width read_header (λ r. refl) rs) b h
