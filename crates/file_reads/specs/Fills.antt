-- What the reader's second pass rests on: the runs that the first pass read stand in the bytes, and there is room for them.
use Rattle.std.specs.Prelude.{ℕ, ◌+◌, ◌*◌, ◌≤◌, ◌≡◌, true, List, [], ◌∷◌, length, drop}
use Rattle.rules.specs.Tables.{most_slots, frame_width, header_width, State}
use Rattle.rules.specs.Refusals.{shaped}
use Rattle.rules.specs.Bytes.{value}
use Rattle.rules.specs.RunFile.{StoredRun, total, body_length, first_body, frame_count, parse}
use Rattle.rules.specs.ReadFile.{held_in}
use Rattle.rules.proofs.Laws.Fixed.{frames_here}

-- the runs of a file
abbrev pub held : List ℕ → List StoredRun
held b = held_in (parse 1 b)

-- a run's body stands at a place; and runs, one after another
pub record Stands (b : List ℕ) (at : ℕ) (r : StoredRun) : Type 0 where
  pub first : value 8 (drop at b) ≡ r.value
  pub summed : value 8 (drop (at + 8) b) ≡ total r.frames
  pub count : value 4 (drop (at + 16) b) ≡ length r.frames
  pub frames : frames_here 1 (length r.frames) (drop (at + 20) b) ≡ r.frames
  pub within : at + body_length 1 r ≤ length b

abbrev pub Standing : List ℕ → (at : ℕ) → List StoredRun → Type 0
Standing b at [] = Unit {0}
Standing b at (r ∷ rs) = Stands b at r × Standing b (at + body_length 1 r) rs

pub record Fillable (b e s : List ℕ) : Type 0 where
  pub standing : Standing b (first_body (length (held b))) (held b)
  pub contents : first_body (length (held b)) ≤ length b
  pub elems : frame_count (held b) * frame_width ≤ length e
  pub shared : length (held b) * header_width ≤ length s
  pub frames : frame_count (held b) ≤ most_slots
  pub runs : length (held b) ≤ most_slots

-- the same of a target whose capacities are enough
pub record Buildable (st : State) (b : List ℕ) (runs frames : ℕ) : Type 0 where
  pub shape : shaped st ≡ true
  pub standing : Standing b (first_body (length (held b))) (held b)
  pub contents : first_body (length (held b)) ≤ length b
  pub runs_are : runs ≡ length (held b)
  pub frames_are : frames ≡ frame_count (held b)
  pub shared : runs ≤ st.head.shared.capacity
  pub elems : frames ≤ st.head.elems.capacity
