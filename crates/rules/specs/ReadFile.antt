-- Ticket 11: the reader, over the versions that it knows. It takes any tables that fit, as fresh does.
use Rattle.std.specs.Prelude.{ℕ, suc, ◌+◌, ◌*◌, Bool, true, false, List, [], ◌∷◌, ◌++◌, map, length, if◌then◌else◌, ◌==◌}
use Rattle.rules.specs.declared.Refusal.TheVariants.{Shape, NoElement, NoShared, NoFile, Version}
use Rattle.rules.specs.Notation.{◌<?◌, flat}
use Rattle.rules.specs.Tables.{frame_width, header_width, blank, State}
use Rattle.rules.specs.Refusals.{Ruling, refuse, answer, Outcome, outcome, shaped}
use Rattle.rules.specs.Runs.{frame, header}
use Rattle.rules.specs.Compress.{padded, packed_in}
use Rattle.rules.specs.Bytes.{value}
use Rattle.rules.specs.RunFile.{StoredFrame, StoredRun, total, frame_count, Parsed, departs, holds, parse}

-- the previous and the next slot, in a block of `n` slots past `a`, of its `suc i`-th
unfoldable pub before_in : (a n i : ℕ) → ℕ
before_in a n i = if i == 0 then a + n else a + i

unfoldable pub after_in : (a n i : ℕ) → ℕ
after_in a n i = if i + 1 == n then a + 1 else a + i + 2

-- a run's `n` frames fill such a block in their order, here from the `suc i`-th on: generation 1, the class `c`
abbrev pub read_frame : (c a n i : ℕ) → StoredFrame → List ℕ
read_frame c a n i f = frame 1 f.payload c (before_in a n i) (after_in a n i) f.size

unfoldable pub read_frames : (c a n i : ℕ) → List StoredFrame → List ℕ
read_frames c a n i [] = []
read_frames c a n i (f ∷ fs) = read_frame c a n i f ++ read_frames c a n (suc i) fs

-- its header is unsealed
abbrev pub read_header : StoredRun → List ℕ
read_header r = header (length r.frames) r.value 0 (total r.frames)

-- runs in their order, the first with the class `c` and its block past `a`
unfoldable pub read_runs : (c a : ℕ) → List StoredRun → List ℕ
read_runs c a [] = []
read_runs c a (r ∷ rs) = read_frames c a (length r.frames) 0 r.frames ++ read_runs (suc c) (a + length r.frames) rs

-- the fresh tables: classes from 1, slots from 1, generation 1, nothing to undo
unfoldable pub read_tables : (elems shared : ℕ) → List StoredRun → State
read_tables elems shared rs =
    record {
      head = record { elems = packed_in elems (frame_count rs); shared = packed_in shared (length rs); generation = 1; undo = blank };
      elems = padded (elems * frame_width) (read_runs 1 0 rs);
      shared = padded (shared * header_width) (flat (map read_header rs));
    }

-- 6, then 5, by the target's capacities
unfoldable pub into_room : (elems shared : ℕ) → Parsed → Ruling
into_room elems shared departs = refuse NoFile
into_room elems shared (holds rs) =
    if shared <? length rs then refuse NoShared else
    if elems <? frame_count rs then refuse NoElement else
    answer [] (read_tables elems shared rs)

abbrev pub is_in : ℕ → List ℕ → Bool
is_in n [] = false
is_in n (m ∷ ms) = if n == m then true else is_in n ms

-- the call: 1; shorter than eight bytes 9; a version that is not known 11; any other departure 9; then 6 and 5
unfoldable pub read_file : (known : List ℕ) → State → (file : List ℕ) → Ruling
read_file known st b =
    if shaped st then
    (if length b <? 8 then refuse NoFile else
    if is_in (value 4 b) known then into_room st.head.elems.capacity st.head.shared.capacity (parse (value 4 b) b) else
    refuse Version)
    else refuse Shape

-- the reader of version 1; and the call, which has no door but its own
abbrev pub old_reader : List ℕ
old_reader = 1 ∷ []

abbrev pub read_step : State → (file : List ℕ) → Outcome
read_step st b = outcome st [] (read_file old_reader st b)

-- the runs that a file holds, none if it departs
abbrev pub held_in : Parsed → List StoredRun
held_in departs = []
held_in (holds rs) = rs

abbrev pub runs_of : (file : List ℕ) → List StoredRun
runs_of b = held_in (parse (value 4 b) b)
