-- What the gate's answer gives: the inner door's requirement, or the refusal of any call.
use mathlib.Core.Path.{◌≡◌, refl, subst}
use mathlib.Core.Bool.{false}
use mathlib.Core.List.{List, []}
use Prim.Native.Nat.{ℕ}
use Rattle.std.specs.Prelude.{Result, Ok, Err, ⊤}
use Rattle.rules.specs.declared.Refusal.{Refusal}
use Rattle.rules.specs.Tables.{State}
use Rattle.rules.specs.Answers.{leaves, no_values, said}
use Rattle.rules.specs.Refusals.{refuse, Outcome, outcome}
use Rattle.rules.specs.Undo.{Remembers}
use Rattle.rules.specs.Calls.{Call, check, step, Ready, AtDoor}
use Rattle.rules.proofs.Laws.Doors.{passed}
use Rattle.gate.specs.Gate.{Gated}

module _ (st : State) (r : Result ⊤ Refusal) (g : Gated st r) where
  pub opened : r ≡ Ok tt → Ready st × Remembers st
  opened e = subst (Gated st) e g

  pub shut : (n : Refusal) → r ≡ Err n → (lent : List ℕ) (c : Call) → AtDoor st lent c (outcome st lent (refuse n))
  shut n e = subst (Gated st) e g

-- the check answers as the gate does
pub told : (st : State) (r : Result ⊤ Refusal) → Gated st r → AtDoor st [] check (leaves st.head st.elems st.shared [] (said no_values r))
told st (Ok _) y = passed st [] check _ y refl
told st (Err n) g = g [] check

-- past the gate the inner call's equation is what the door promises
pub past : (st : State) (r : Result ⊤ Refusal) → Gated st r → r ≡ Ok tt → (lent : List ℕ) (c : Call) (o : Outcome) → o ≡ step st lent c → AtDoor st lent c o
past st r g e lent c o p = passed st lent c o (opened st r g e) p
