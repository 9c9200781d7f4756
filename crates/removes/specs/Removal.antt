-- A class that a frame can leave, and what is left when it has.
use Rattle.std.specs.Prelude.{ℕ, ◌≤◌, ◌≡◌, List, if◌then◌else◌, ◌==◌}
use Rattle.rules.specs.declared.Head.{Head}
use Rattle.rules.specs.declared.Rest.{Rest}
use Rattle.rules.specs.declared.Rest.TheVariants.{GoesOn, Last}
use Rattle.rules.specs.declared.Removed.{Removed}
use Rattle.rules.specs.declared.Step.{Step}
use Rattle.rules.specs.Tables.{header_width, payload_of, count_of, value_of, total_of, State, state_of}
use Rattle.rules.specs.Slots.{overflows}
use Rattle.rules.specs.Runs.{left, removed, rest_of}
use Rattle.slots.specs.Asked.{Within}

-- a class that a frame can leave
pub record Leaves (h : Head) (s : List ℕ) (class size : ℕ) : Type 0 where
  pub header : Within header_width s class
  pub count : 1 ≤ count_of s class
  pub live : 1 ≤ h.shared.live
  pub total : size ≤ total_of s class

-- Rules 7: a frame has left the class
pub record LeftClass (st : State) (class size : ℕ) (r : Step Rest) (s : List ℕ) : Type 0 where
  pub state : state_of r.head st.elems s ≡ left st class size
  pub rest : r.answer ≡ (if count_of st.shared class == 1 then Last (value_of st.shared class) else GoesOn)

-- the frame in `x` is taken out
pub record RemovedAt (st : State) (x : ℕ) (r : Step Removed) (e s : List ℕ) : Type 0 where
  pub state : state_of r.head e s ≡ removed st x
  pub payload : r.answer.payload ≡ payload_of st.elems x
  pub rest : r.answer.rest ≡ rest_of st x
  pub over : r.over ≡ overflows st
