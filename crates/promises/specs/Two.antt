-- What a C entry on two recorders' tables promises, target first, by the outcome at the door (Tickets 10 and 12).
use Rattle.std.specs.Prelude.{ℕ, ◌≡◌, List, [], if◌then◌else◌, ◌==◌}
use Rattle.rules.specs.Tables.{State, state_of}
use Rattle.rules.specs.Refusals.{Said}
use Rattle.rules.specs.TwoTables.{TwoOutcome}
use Rattle.rules.specs.Copy.{AtCopy}
use Rattle.rules.specs.Move.{AtMove}
use Rattle.numbers.specs.Numbers.{head_of, values, values_over, result_of}

-- what such an entry leaves: its result, both heads and their tables, and the numbers of its answer
pub record TwoLeft : Type 0 where
  pub number : ℕ
  pub target : State
  pub source : State
  pub out : List ℕ

abbrev pub left_two : (number : ℕ) → (head elems shared from_head from_elems from_shared out : List ℕ) → TwoLeft
left_two number head elems shared from_head from_elems from_shared out =
    record { number = number; target = state_of (head_of head) elems shared; source = state_of (head_of from_head) from_elems from_shared; out = out }

-- the same by an outcome: `out` holds the answer's numbers when accepted, and is as it was when refused
abbrev pub shown_two : (numbers : Said → List ℕ) → (out : List ℕ) → TwoOutcome → TwoLeft
shown_two numbers out o =
    record { number = result_of o.said; target = o.target; source = o.source; out = if o.said.number == 0 then numbers o.said else out }

-- Ticket 10: the promise of the copy, which answers no number; `from` is the source
pub record AtHostCopy (head elems shared from_head from_elems from_shared : List ℕ) (after : TwoLeft) : Type 0 where
  pub outcome : TwoOutcome
  pub door : AtCopy (state_of (head_of head) elems shared) (state_of (head_of from_head) from_elems from_shared) outcome
  pub same : after ≡ shown_two values [] outcome

-- Ticket 12: the promise of the move, which tells the source's overflow
pub record AtHostMove (g : ℕ) (head elems shared from_head from_elems from_shared out : List ℕ) (after : TwoLeft) : Type 0 where
  pub outcome : TwoOutcome
  pub door : AtMove (state_of (head_of head) elems shared) (state_of (head_of from_head) from_elems from_shared) g outcome
  pub same : after ≡ shown_two values_over out outcome
