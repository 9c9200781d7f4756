-- A refusal's number and cause, and what its result says of them.
use Rattle.std.specs.Prelude.{if◌then◌else◌, ◌==◌}
use Prim.Native.Nat.{ℕ, ◌+◌, ◌*◌, ◌/◌, ◌%◌, ◌≤◌, ◌<◌}
use native.Mathlib.Omega.{arith}
use mathlib.Core.Path.{◌≡◌, refl, sym, ◌∙◌}
use mathlib.Core.Logic.{◌↔◌}
use mathlib.Core.Bool.{Bool, true, false}
use lib.Dec.{lit≤, lit<}
use mathlib.Core.List.{List, []}
use lib.ListN.{get_or}
use Rattle.rules.specs.declared.Cause.TheVariants.{NoSlot, FreeSlot, OtherGeneration}
use Rattle.rules.specs.declared.Refusal.{Refusal}
use Rattle.rules.specs.declared.Refusal.TheVariants.{Shape, Unsound, Dead, SameClass, NoElement, NoShared, Short, Malformed, NoFile, Nothing, Version, Sealed, OutOfRange}
use Rattle.rules.specs.Refusals.{number_of, values_of, Said, said_refused}
use Rattle.rules.specs.Calls.{Is}
use Rattle.rules.proofs.Laws.Tests.{eq_is}
use Rattle.numbers.specs.Numbers.{result_of, Answered}

-- both are small
pub few : (r : Refusal) → (number_of r ≤ 13) × (get_or (values_of r []) 0 0 ≤ 3)
few Shape = (lit≤ tt, lit≤ tt)
few Unsound = (lit≤ tt, lit≤ tt)
few (Dead NoSlot) = (lit≤ tt, lit≤ tt)
few (Dead FreeSlot) = (lit≤ tt, lit≤ tt)
few (Dead OtherGeneration) = (lit≤ tt, lit≤ tt)
few SameClass = (lit≤ tt, lit≤ tt)
few NoElement = (lit≤ tt, lit≤ tt)
few NoShared = (lit≤ tt, lit≤ tt)
few Short = (lit≤ tt, lit≤ tt)
few Malformed = (lit≤ tt, lit≤ tt)
few NoFile = (lit≤ tt, lit≤ tt)
few Nothing = (lit≤ tt, lit≤ tt)
few Version = (lit≤ tt, lit≤ tt)
few Sealed = (lit≤ tt, lit≤ tt)
few OutOfRange = (lit≤ tt, lit≤ tt)

-- and both are read back from the result: the low eight bits, and what stands above
pub number-back : (r : Refusal) → result_of (said_refused r) % 256 ≡ number_of r
number-back Shape = refl
number-back Unsound = refl
number-back (Dead NoSlot) = refl
number-back (Dead FreeSlot) = refl
number-back (Dead OtherGeneration) = refl
number-back SameClass = refl
number-back NoElement = refl
number-back NoShared = refl
number-back Short = refl
number-back Malformed = refl
number-back NoFile = refl
number-back Nothing = refl
number-back Version = refl
number-back Sealed = refl
number-back OutOfRange = refl

pub cause-back : (r : Refusal) → result_of (said_refused r) / 256 ≡ get_or (values_of r []) 0 0
cause-back Shape = refl
cause-back Unsound = refl
cause-back (Dead NoSlot) = refl
cause-back (Dead FreeSlot) = refl
cause-back (Dead OtherGeneration) = refl
cause-back SameClass = refl
cause-back NoElement = refl
cause-back NoShared = refl
cause-back Short = refl
cause-back Malformed = refl
cause-back NoFile = refl
cause-back Nothing = refl
cause-back Version = refl
cause-back Sealed = refl
cause-back OutOfRange = refl

-- the result is 0, 1 or 2 exactly when the number is
pub small : (said : Said) (n : ℕ) → n < 3 → (result_of said ≡ n) ↔ (said.number ≡ n)
small said n h = at (said.number == 3) (eq_is said.number 3)
  where
    at : (b : Bool) → Is (said.number ≡ 3) b → ((if b then 3 + 256 * get_or said.values 0 0 else said.number) ≡ n) ↔ (said.number ≡ n)
    at true e = ((λ q. omega (arith, h)), λ q. omega (arith, h))
    at false d = ((λ q. q), λ q. q)

pub zero_result : (said : Said) → (result_of said == 0) ≡ (said.number == 0)
zero_result said = at (result_of said == 0) (said.number == 0) (eq_is (result_of said) 0) (eq_is said.number 0)
  where
    at : (a b : Bool) → Is (result_of said ≡ 0) a → Is (said.number ≡ 0) b → a ≡ b
    at true true r n = refl
    at true false r n = absurd (n ((small said 0 (lit< tt)).0 r))
    at false true r n = absurd (r ((small said 0 (lit< tt)).1 n))
    at false false r n = refl

-- no second result and `out` fit
pub only : (numbers : Said → List ℕ) (said : Said) (before : List ℕ) (r r' : ℕ) (out out' : List ℕ) → Answered numbers said before r out → Answered numbers said before r' out' → (r ≡ r') × (out ≡ out')
only numbers said before r r' out out' a b = (a.number ∙ sym b.number, a.out ∙ sym b.out)
