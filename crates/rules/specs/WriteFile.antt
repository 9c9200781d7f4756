-- Ticket 11: the writer. All runs go into the lent bytes, in canonical order, each from its lowest slot.
use Rattle.std.specs.Prelude.{ℕ, false, List, [], ◌∷◌, map, length, if◌then◌else◌}
use Rattle.rules.specs.declared.Refusal.TheVariants.{Short}
use Rattle.rules.specs.Notation.{◌<?◌}
use Rattle.rules.specs.Tables.{payload_of, class_of, bytes_of, value_of, State}
use Rattle.rules.specs.Refusals.{Ruling, refuse, accept}
use Rattle.rules.specs.Drains.{ring}
use Rattle.rules.specs.Compress.{lowest_slots}
use Rattle.rules.specs.RunFile.{StoredFrame, StoredRun, file}

-- the frame in a slot, its run from there on, and all runs, as a file has them
abbrev pub frame_in : State → (slot : ℕ) → StoredFrame
frame_in st x = record { payload = payload_of st.elems x; size = bytes_of st.elems x }

abbrev pub run_in : State → (slot : ℕ) → StoredRun
run_in st x = record { value = value_of st.shared (class_of st.elems x); frames = map (frame_in st) (ring st x) }

unfoldable pub runs_in : State → List StoredRun
runs_in st = map (run_in st) (lowest_slots st)

-- the call: 7 when the whole file does not fit; the answer is how many bytes are written, and nothing changes
abbrev pub bytes_in : (version : ℕ) → State → List ℕ
bytes_in v st = file v (runs_in st)

unfoldable pub write_file : (version : ℕ) → State → (lent : List ℕ) → Ruling
write_file v st lent = if length lent <? length (bytes_in v st) then refuse Short else accept (length (bytes_in v st) ∷ []) false st (bytes_in v st)
