-- What the writer's scan asks and finds, and what it writes.
use Rattle.std.specs.Prelude.{ℕ, suc, ◌+◌, ◌*◌, ◌-◌, ◌≤◌, ◌<◌, ◌≡◌, Bool, true, List, map, length}
use Rattle.std.proofs.lemmas.List.Edits.{sets}
use Rattle.marks.specs.Marks.{marked}
use Rattle.rules.specs.Notation.{along, flat, keep}
use Rattle.rules.specs.Tables.{payload_of, next_of, bytes_of, State, state_of}
use Rattle.rules.specs.Compress.{is_lowest}
use Rattle.rules.specs.RunFile.{StoredRun, frame_bytes, body_bytes, entries, entry_bytes, first_body}
use Rattle.rules.specs.WriteFile.{run_in, runs_in}
use Rattle.rules.specs.Calls.{Ready}
use Rattle.rules.proofs.Laws.Order.{Led}
use Rattle.file_writes.specs.declared.Study.{Study}

-- the state that is written
abbrev pub state : Study → State
state s = state_of s.head s.elems.now s.shared.now

-- a frame's bytes, and those of `n` frames along next from `x`
abbrev pub stored_as : (payload size : ℕ) → List ℕ
stored_as payload size = frame_bytes 1 (record { payload = payload; size = size })

abbrev pub frames_along : List ℕ → (n x : ℕ) → List ℕ
frames_along e n x = flat (map (λ s. stored_as (payload_of e s) (bytes_of e s)) (along (next_of e) n x))

-- the bodies of runs back to back, and their entries, the first body beginning at `at`
abbrev pub bodies_of : List StoredRun → List ℕ
bodies_of rs = flat (map (body_bytes 1) rs)

abbrev pub entries_of : (at : ℕ) → List StoredRun → List ℕ
entries_of at rs = flat (map entry_bytes (entries 1 at rs))

-- the runs that begin past the first `k` slots
abbrev pub lowest_past : State → ℕ → List ℕ
lowest_past st k = keep (is_lowest st) (along suc (st.head.elems.extent - k) (suc k))

abbrev pub runs_from : State → ℕ → List StoredRun
runs_from st k = map (run_in st) (lowest_past st k)

-- the set holds the classes of the live slots among the first `k`, and has room for all
pub record Marks (st : State) (k : ℕ) (seen : List ℕ) : Type 0 where
  pub room : st.head.shared.extent ≤ length seen * 64
  pub marks : (c : ℕ) → marked seen c ≡ true → Led st k (suc c)
  pub noted : (c : ℕ) → Led st k (suc c) → marked seen c ≡ true

-- the scan looks at the slot after `k` others
pub record Scans (st : State) (k : ℕ) (seen : List ℕ) : Type 0 where
  pub ready : Ready st
  pub some : k < st.head.elems.extent
  pub marks : Marks st k seen

pub record Begins (st : State) (k : ℕ) (r : Bool) (seen : List ℕ) : Type 0 where
  pub lowest : is_lowest st (suc k) ≡ r
  pub marks : Marks st (suc k) seen

-- contents and bodies have room, the bodies from `first` on
pub record FitsAll (st : State) (first : ℕ) (out : List ℕ) : Type 0 where
  pub contents : first_body (length (runs_in st)) ≤ first
  pub bodies : first + length (bodies_of (runs_in st)) ≤ length out

-- contents and bodies are written, the bodies from `first` on
abbrev pub Filled : State → (first : ℕ) → (out after : List ℕ) → Type 0
Filled st first out after = after ≡ sets (sets out 8 (entries_of first (runs_in st))) first (bodies_of (runs_in st))
