-- What a C entry over a head lent in place promises, by the outcome at the door.
use Rattle.std.specs.Prelude.{ℕ, ◌≡◌, List, []}
use Rattle.rules.specs.declared.Head.{Head}
use Rattle.rules.specs.Tables.{state_of}
use Rattle.rules.specs.Refusals.{Said, Outcome}
use Rattle.rules.specs.Calls.{Call, AtDoor}
use Rattle.promises.specs.Host.{Left, shown}

-- what the entry leaves; it has no buffer
abbrev pub left_at : (number : ℕ) → Head → (elems shared out : List ℕ) → Left
left_at number head elems shared out = record { number = number; state = state_of head elems shared; lent = []; out = out }

pub record AtHead (c : Call) (numbers : Said → List ℕ) (head : Head) (elems shared out : List ℕ) (after : Left) : Type 0 where
  pub outcome : Outcome
  pub door : AtDoor (state_of head elems shared) [] c outcome
  pub same : after ≡ shown numbers out outcome
