-- What telling an answer leaves.
use Rattle.std.specs.Prelude.{ℕ, ◌+◌, ◌≤◌, ◌≡◌, List, []}
use Rattle.rules.specs.declared.Head.{Head}
use Rattle.rules.specs.Refusals.{Said, Outcome}
use Rattle.told.specs.declared.answers.Obeyed.{Obeyed}
use Rattle.told.specs.Put.{Put}
use Rattle.told.specs.Texts.{text_of}

-- what was said is printed, in `most` bytes at the most, and the head is handed on
pub record Told (print : Outcome → List ℕ) (said : Said) (kept : Head) (before : List ℕ) (at most : ℕ) (after : List ℕ) (o : Obeyed) : Type 0 where
  pub head : o.head ≡ kept
  pub put : Put before at (text_of print said []) after o.next
  pub within : o.next ≤ at + most
