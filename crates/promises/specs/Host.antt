-- What a C entry promises: its result, the lent head, tables and buffers after it, by the outcome at the door.
use Rattle.std.specs.Prelude.{ℕ, ◌≡◌, Bool, not, List, [], ◌∷◌, get_or, if◌then◌else◌, ◌==◌}
use Rattle.rules.specs.declared.Key.{Key}
use Rattle.rules.specs.Tables.{State, state_of}
use Rattle.rules.specs.Refusals.{Said, Outcome}
use Rattle.rules.specs.Calls.{Call, AtDoor, fresh_step}
use Rattle.rules.specs.ReadFile.{read_step}
use Rattle.numbers.specs.Numbers.{head_of, values, result_of}

abbrev pub key_of : (slot generation : ℕ) → Key
key_of slot generation = record { slot = slot; generation = generation }

abbrev pub keys_of : List ℕ → List Key
keys_of n =
    key_of (get_or n 0 0) (get_or n 1 0) ∷ key_of (get_or n 2 0) (get_or n 3 0) ∷ key_of (get_or n 4 0) (get_or n 5 0) ∷ key_of (get_or n 6 0) (get_or n 7 0) ∷ []

-- a truth value as a number: 0 is no
abbrev pub is_set : ℕ → Bool
is_set n = not (n == 0)

-- what an entry leaves: its result, head and tables, the lent buffer, and the numbers of its answer
pub record Left : Type 0 where
  pub number : ℕ
  pub state : State
  pub lent : List ℕ
  pub out : List ℕ

abbrev pub left : (number : ℕ) → (head elems shared lent out : List ℕ) → Left
left number head elems shared lent out =
    record { number = number; state = state_of (head_of head) elems shared; lent = lent; out = out }

-- the same by an outcome: the result has the cause of 3 above its number (Ticket 5), `out` holds the answer's numbers when accepted, and is as it was when refused
abbrev pub shown : (numbers : Said → List ℕ) → (out : List ℕ) → Outcome → Left
shown numbers out o =
    record { number = result_of o.said; state = o.state; lent = o.lent; out = if o.said.number == 0 then numbers o.said else out }

-- The promise of an entry over a lent head, tables, buffer and `out`
pub record AtHost (c : Call) (numbers : Said → List ℕ) (head elems shared lent out : List ℕ) (after : Left) : Type 0 where
  pub outcome : Outcome
  pub door : AtDoor (state_of (head_of head) elems shared) lent c outcome
  pub same : after ≡ shown numbers out outcome

-- The promise of fresh, which has no door but its own
pub record AtFresh (elem_capacity shared_capacity : ℕ) (head elems shared : List ℕ) (after : Left) : Type 0 where
  pub same : after ≡ shown values [] (fresh_step (state_of (head_of head) elems shared) elem_capacity shared_capacity)

-- Ticket 11: the promise of the reader, which has no door but its own either
pub record AtRead (file head elems shared : List ℕ) (after : Left) : Type 0 where
  pub same : after ≡ shown values [] (read_step (state_of (head_of head) elems shared) file)
