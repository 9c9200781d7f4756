-- What a ruling does to state and history together: refused, nothing; accepted, both go on.
use Rattle.std.specs.Prelude.{if◌then◌else◌}
use mathlib.Core.Path.{◌≡◌}
use mathlib.Core.Bool.{Bool, true, false}
use mathlib.Core.List.{List}
use Prim.Native.Nat.{ℕ}
use Rattle.rules.specs.declared.Key.{Key}
use Rattle.rules.specs.declared.Refusal.{Refusal}
use Rattle.rules.specs.declared.Refusal.TheVariants.{Shape, Unsound, Dead, SameClass, NoElement, NoShared, Short, Malformed, NoFile, Version, Sealed, Nothing, OutOfRange}
use Rattle.rules.specs.Tables.{State, LiveKey}
use Rattle.rules.specs.Refusals.{Ruling, refuse, accept, outcome, with_live}
use Rattle.rules.specs.Calls.{Call}
use Rattle.rules.specs.History.{History, accepted, noted}
use Rattle.rules.proofs.Laws.Rulings.{by_test, by_key}
use Rattle.rules.proofs.Laws.Good.{Good}

-- the call `c` that is ruled so leads from a good state and history to a good state and history
pub data Follows (h : History) (c : Call) : Ruling → Type 0 where
  refused : {r : Refusal} → Follows h c (refuse r)
  done : {values : List ℕ} {over : Bool} {st : State} {places : List ℕ} → Good st (accepted h c values) → Follows h c (accept values over st places)

pub follows : (st : State) (lent : List ℕ) (h : History) (c : Call) (r : Ruling) → Good st h → Follows h c r → Good (outcome st lent r).state (noted h c (outcome st lent r).said)
follows st lent h c r G (refused {r = Shape}) = G
follows st lent h c r G (refused {r = Unsound}) = G
follows st lent h c r G (refused {r = Dead cause}) = G
follows st lent h c r G (refused {r = SameClass}) = G
follows st lent h c r G (refused {r = NoElement}) = G
follows st lent h c r G (refused {r = NoShared}) = G
follows st lent h c r G (refused {r = Short}) = G
follows st lent h c r G (refused {r = Malformed}) = G
follows st lent h c r G (refused {r = NoFile}) = G
follows st lent h c r G (refused {r = Version}) = G
follows st lent h c r G (refused {r = Sealed}) = G
follows st lent h c r G (refused {r = Nothing}) = G
follows st lent h c r G (refused {r = OutOfRange}) = G
follows st lent h c r G (done g) = g

-- the same of what leads to good states
module _ (h : History) (c : Call) where
  pub either : (b : Bool) (p q : Ruling) → (b ≡ true → Follows h c p) → (b ≡ false → Follows h c q) → Follows h c (if b then p else q)
  either = by_test (Follows h c)

  pub on-live : (st : State) (k : Key) (rule : ℕ → Ruling) → (LiveKey st k → Follows h c (rule k.slot)) → Follows h c (with_live st k rule)
  on-live = by_key (Follows h c) (λ r. refused)
