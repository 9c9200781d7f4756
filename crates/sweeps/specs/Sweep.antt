-- What the steps of drain all ask and answer.
use Rattle.std.specs.Prelude.{ℕ, ◌+◌, ◌*◌, ◌≤◌, ◌≡◌, List, ◌++◌, length, drop}
use Rattle.rules.specs.declared.Head.{Head}
use Rattle.rules.specs.Tables.{State, state_of}
use Rattle.rules.specs.Drains.{record_width, all_records, all_drained}
use Rattle.rules.specs.Calls.{Ready}

-- Rules 11: a slot is met, with room for the records of all frames that are left
pub record Visits (st : State) (slot : ℕ) (out : List ℕ) (written : ℕ) : Type 0 where
  pub ready : Ready st
  pub low : 1 ≤ slot
  pub high : slot ≤ st.head.elems.extent
  pub room : (written + st.head.elems.live) * record_width ≤ length out

-- Rules 11: all runs are drained, before the clear
pub record Emptied (st : State) (out : List ℕ) (next : Head) (e s out' : List ℕ) : Type 0 where
  pub state : state_of next e s ≡ all_drained st.head.shared.live st
  pub lent : out' ≡ all_records st.head.shared.live st ++ drop (length (all_records st.head.shared.live st)) out
