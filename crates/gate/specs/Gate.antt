-- What the tests before a call give: a state that is ready for the inner door, with a memory that is part of its soundness, or the door's refusal of any call.
use Rattle.std.specs.Prelude.{List, ℕ, Result, Ok, Err, ⊤}
use Rattle.rules.specs.declared.Refusal.{Refusal}
use Rattle.rules.specs.Tables.{State}
use Rattle.rules.specs.Refusals.{refuse, outcome}
use Rattle.rules.specs.Undo.{Remembers}
use Rattle.rules.specs.Calls.{Call, Ready, AtDoor}

abbrev pub Gated : State → Result ⊤ Refusal → Type 0
Gated st (Ok _) = Ready st × Remembers st
Gated st (Err r) = (lent : List ℕ) (c : Call) → AtDoor st lent c (outcome st lent (refuse r))
