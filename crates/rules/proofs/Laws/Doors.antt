-- The host's door over any call: what its two tests make of the outcome.
use mathlib.Core.Path.{◌≡◌, refl, sym, ◌∙◌}
use mathlib.Core.Bool.{true, false, true≢false}
use mathlib.Core.List.{List}
use Prim.Native.Nat.{ℕ}
use Rattle.rules.specs.declared.Refusal.TheVariants.{Shape, Unsound}
use Rattle.rules.specs.Tables.{State}
use Rattle.rules.specs.Undo.{Remembers, Whole}
use Rattle.rules.specs.Refusals.{refuse, Outcome, outcome, shaped, door}
use Rattle.rules.specs.Calls.{Call, step, Ready, AtDoor}

module _ (st : State) (lent : List ℕ) (c : Call) where
  -- both pass: the inner call's outcome
  pub passed : (o : Outcome) → Ready st × Remembers st → o ≡ step st lent c → AtDoor st lent c o
  unfolding door
  passed o y e = record { sound = true; decided = λ _. (y.0.sound, y.1); same = rw y.0.shape e }

  -- 1
  pub misshapen : shaped st ≡ false → AtDoor st lent c (outcome st lent (refuse Shape))
  unfolding door
  misshapen e = record { sound = false; decided = λ h. absurd (true≢false (sym h ∙ e)); same = rw e refl }

  -- 2
  pub unsound : shaped st ≡ true → (Whole st → ⊥) → AtDoor st lent c (outcome st lent (refuse Unsound))
  unfolding door
  unsound e n = record { sound = false; decided = λ _. n; same = rw e refl }
