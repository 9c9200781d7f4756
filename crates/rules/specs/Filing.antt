-- Ticket 11: what is claimed of the run file, apart from its rules: when reader and writer refuse, and that each undoes the other.
use Rattle.std.specs.Prelude.{ℕ, ◌+◌, ◌*◌, ◌≤◌, ◌<◌, ◌≡◌, ◌≢◌, true, false, List, [], ◌∷◌, ◌++◌, length, take, drop}
use Rattle.rules.specs.Tables.{most_slots, header_width, header_at, cell, generation_of, payload_of, value_of, mark_of, blank, State}
use Rattle.rules.specs.Sound.{Frame}
use Rattle.rules.specs.Undo.{Whole}
use Rattle.rules.specs.Refusals.{Outcome, outcome, shaped}
use Rattle.rules.specs.Compress.{canonical_frames, canonical_classes, packed_in, renumbered_in}
use Rattle.rules.specs.Calls.{write_file, Ready, AtDoor}
use Rattle.rules.specs.Exact.{Some}
use Rattle.rules.specs.TwoTables.{give◌when◌else◌, accepted}
use Rattle.rules.specs.Bytes.{value, limit, Bytes}
use Rattle.rules.specs.RunFile.{StoredRun, frame_length, file, frame_count, Fits}
use Rattle.rules.specs.WriteFile.{runs_in, bytes_in}
use Rattle.rules.specs.ReadFile.{read_file}

-- a file holds the runs whose bytes it is, in the version that its first four bytes are, and no others
abbrev pub Stores : (b : List ℕ) → List StoredRun → Type 0
Stores b rs = Fits (value 4 b) rs × (b ≡ file (value 4 b) rs)

-- the reader's order: 1; 9 for less than eight bytes; 11; 9 for what no runs are the bytes of; then 6 for its runs and 5 for its frames. 2 is never given
abbrev pub ReadGives : (known : List ℕ) → State → (b : List ℕ) → ℕ → Type 0
ReadGives known st b =
    give 1 when shaped st ≡ false else
    give 9 when length b < 8 else
    give 11 when (Some (λ v. value 4 b ≡ v) known → ⊥) else
    give 9 when ((rs : List StoredRun) → Stores b rs → ⊥) else
    give 6 when ((rs : List StoredRun) × Stores b rs × (st.head.shared.capacity < length rs)) else
    give 5 when ((rs : List StoredRun) × Stores b rs × (st.head.elems.capacity < frame_count rs)) else
    accepted

-- what an accepted read leaves: fresh tables of the same capacities that hold the runs in their order, slots as canonical compression numbers them, unsealed, generation 1, nothing to undo
pub record ReadInto (st : State) (rs : List StoredRun) (now : State) : Type 0 where
  pub ready : Ready now
  pub runs : runs_in now ≡ rs
  pub canonical : renumbered_in st.head.elems.capacity st.head.shared.capacity now (canonical_frames now) (canonical_classes now) 1 ≡ now
  pub unsealed : (c : ℕ) → mark_of now.shared c ≡ 0
  pub generation : now.head.generation ≡ 1
  pub generations : (s : ℕ) → Frame now s → generation_of now.elems s ≡ 1
  pub elems : now.head.elems ≡ packed_in st.head.elems.capacity (frame_count rs)
  pub shared : now.head.shared ≡ packed_in st.head.shared.capacity (length rs)
  pub undo : now.head.undo ≡ blank

pub record Reads (known : List ℕ) (st : State) (b : List ℕ) (o : Outcome) : Type 0 where
  -- each number exactly then, and nothing beside it
  pub gives : ReadGives known st b o.said.number
  pub values : o.said.values ≡ []
  pub over : o.said.over ≡ false
  -- a refused read changes nothing
  pub refused : o.said.number ≢ 0 → o.state ≡ st
  pub reads : o.said.number ≡ 0 → (rs : List StoredRun) × Stores b rs × ReadInto st rs o.state
  -- writing what was read gives the same bytes, in the version that was read
  pub again : o.said.number ≡ 0 → bytes_in (value 4 b) o.state ≡ b

-- the writer's order: 1, 2, 7, by the head's live numbers
abbrev pub file_length : (version : ℕ) → State → ℕ
file_length v st = 8 + st.head.shared.live * 28 + st.head.elems.live * frame_length v

abbrev pub WriteGives : (version : ℕ) → State → (lent : List ℕ) → ℕ → Type 0
WriteGives v st lent =
    give 1 when shaped st ≡ false else
    give 2 when (Whole st → ⊥) else
    give 7 when length lent < file_length v st else
    accepted

pub record Writes (version : ℕ) (st : State) (lent : List ℕ) (o : Outcome) : Type 0 where
  pub gives : WriteGives version st lent o.said.number
  -- neither head, its undo included, nor tables change; and a refused call writes nothing
  pub unchanged : o.state ≡ st
  pub refused : o.said.number ≢ 0 → o.lent ≡ lent
  -- the file stands first, the bytes past it are untouched, and the answer is how many it has
  pub written : o.said.number ≡ 0 → o.lent ≡ bytes_in version st ++ drop (file_length version st) lent
  pub answered : o.said.number ≡ 0 → o.said.values ≡ file_length version st ∷ []

-- payloads and shared values are u64
pub record Words (st : State) : Type 0 where
  pub payloads : (s : ℕ) → payload_of st.elems s < limit 8
  pub values : (c : ℕ) → value_of st.shared c < limit 8

-- canonical compression of a state into the tables of another, with generation 1; and those tables but that nothing is sealed
abbrev pub compressed_into : (target st : State) → State
compressed_into target st = renumbered_in target.head.elems.capacity target.head.shared.capacity st (canonical_frames st) (canonical_classes st) 1

pub record Unsealed (st now : State) : Type 0 where
  pub head : now.head ≡ st.head
  pub elems : now.elems ≡ st.elems
  pub shared : (c f : ℕ) → f < header_width → f ≢ header_at.mark → cell header_width now.shared f c ≡ cell header_width st.shared f c
  pub marks : (c : ℕ) → mark_of now.shared c ≡ 0

-- the largest file, that of 65,536 runs of one frame
abbrev pub most_file : (version : ℕ) → ℕ
most_file v = 8 + most_slots * 28 + most_slots * frame_length v

-- THE CLAIM, over the versions that a reader knows
pub record Filing : Type 0 where
  pub reader : (known : List ℕ) (st : State) (b : List ℕ) → Bytes b → Reads known st b (outcome st [] (read_file known st b))
  pub writer : (st : State) (lent : List ℕ) (o : Outcome) → AtDoor st lent write_file o → Writes 1 st lent o
  -- the runs of a sound state are bytes of a file, which is no longer than a u32 can tell
  pub bytes : (v : ℕ) (st : State) → Ready st → Words st → Bytes (bytes_in v st) × Fits v (runs_in st)
  pub longest : (v : ℕ) (st : State) → Ready st → length (bytes_in v st) ≤ most_file v
  -- reading what was written gives the same runs, canonically
  pub back : (known : List ℕ) (v : ℕ) → Some (λ w. v ≡ w) known → v < limit 4 → (st : State) → Ready st → Words st → (target : State) → shaped target ≡ true
      → st.head.shared.live ≤ target.head.shared.capacity → st.head.elems.live ≤ target.head.elems.capacity
      → ((outcome target [] (read_file known target (bytes_in v st))).said.number ≡ 0) × Unsealed (compressed_into target st) (outcome target [] (read_file known target (bytes_in v st))).state
  -- a file cut at any byte short of its end is refused 9
  pub cut : (known : List ℕ) (v : ℕ) → Some (λ w. v ≡ w) known → v < limit 4 → (rs : List StoredRun) → Fits v rs → (k : ℕ) → k < length (file v rs) → (target : State) → shaped target ≡ true
      → (outcome target [] (read_file known target (take k (file v rs)))).said.number ≡ 9
  -- two different files of one version are never read as the same runs
  pub apart : (known : List ℕ) (st st' : State) (b c : List ℕ) → Bytes b → Bytes c → value 4 b ≡ value 4 c
      → (outcome st [] (read_file known st b)).said.number ≡ 0 → (outcome st' [] (read_file known st' c)).said.number ≡ 0
      → runs_in (outcome st [] (read_file known st b)).state ≡ runs_in (outcome st' [] (read_file known st' c)).state → b ≡ c
  -- and a file holds one list of runs
  pub once : (b : List ℕ) (rs qs : List StoredRun) → Stores b rs → Stores b qs → rs ≡ qs
