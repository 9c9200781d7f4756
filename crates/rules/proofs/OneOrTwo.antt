-- Refusals, below the table: fresh can only give 1, the check only 1 or 2.
use Rattle.std.specs.Prelude.{if◌then◌else◌}
use Prim.Native.Nat.{ℕ, ◌≤◌}
use native.Mathlib.Omega.{arith}
use mathlib.Core.Path.{◌≡◌, refl}
use mathlib.Core.Logic.{◌↔◌}
use mathlib.Core.Bool.{Bool, true, false}
use mathlib.Core.List.{List, []}
use Rattle.rules.specs.declared.Refusal.TheVariants.{Shape, Unsound}
use Rattle.rules.specs.Tables.{State}
use Rattle.rules.specs.Sound.{both_fit}
use Rattle.rules.specs.Refusals.{Outcome, refuse, answer, outcome, shaped, door}
use Rattle.rules.specs.Slots
use Rattle.rules.specs.Calls.{check, fresh_step, AtDoor}

-- the check: when it gives 1 and 2 is said of every call
pub check-most : (st : State) (lent : List ℕ) (o : Outcome) → AtDoor st lent check o → o.said.number ≤ 2
unfolding door
check-most st lent o d = rw d.same (go (shaped st) d.sound)
  where
    go : (fits sound : Bool) → (outcome st lent (if fits then (if sound then answer [] st else refuse Unsound) else refuse Shape)).said.number ≤ 2
    go true true = omega arith
    go true false = omega arith
    go false sound = omega arith

-- fresh: 1 exactly when a capacity or a table's length does not fit
module _ (st : State) (elems shared : ℕ) where
  abbrev number : (fits : Bool) → ℕ
  number fits = (outcome st [] (if fits then answer [] (Slots.empty elems shared 1) else refuse Shape)).said.number

  pub fresh-most : (fresh_step st elems shared).said.number ≤ 1
  unfolding Slots.fresh
  fresh-most = go (both_fit st elems shared)
    where
      go : (fits : Bool) → number fits ≤ 1
      go true = omega arith
      go false = omega arith

  pub fresh_exactly : ((fresh_step st elems shared).said.number ≡ 1) ↔ (both_fit st elems shared ≡ false)
  unfolding Slots.fresh
  fresh_exactly = (go (both_fit st elems shared), λ h. rw h refl)
    where
      go : (fits : Bool) → number fits ≡ 1 → fits ≡ false
      go true e = absurd (omega (arith, e))
      go false e = refl
