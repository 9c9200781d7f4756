-- Script: how long a refusal's number is, and its cause.
use Prim.Native.Nat.{◌+◌, ◌≤◌}
use lib.Dec.{lit≤}
use lib.ListN.{length}
use mathlib.Core.Path.{◌≡◌, refl}
use mathlib.Core.List.{[], ◌∷◌, ◌++◌}
use Rattle.rules.specs.declared.Cause.{Cause}
use Rattle.rules.specs.declared.Cause.TheVariants.{NoSlot, FreeSlot, OtherGeneration}
use Rattle.rules.specs.declared.Refusal.{Refusal}
use Rattle.rules.specs.declared.Refusal.TheVariants.{Shape, Unsound, Dead, SameClass, NoElement, NoShared, Short, Malformed, NoFile, Nothing, Version, Sealed, OutOfRange}
use Rattle.rules.specs.Refusals.{number_of, values_of, cause_number}
use Rattle.rules.specs.Script.{bytes, decimal, cause_text}

-- a refusal's number has at most two digits, its cause one
pub two_digits : (r : Refusal) → length (decimal (number_of r)) ≤ 2
unfolding decimal
two_digits Shape = lit≤ tt
two_digits Unsound = lit≤ tt
two_digits (Dead cause) = lit≤ tt
two_digits SameClass = lit≤ tt
two_digits NoElement = lit≤ tt
two_digits NoShared = lit≤ tt
two_digits Short = lit≤ tt
two_digits Malformed = lit≤ tt
two_digits NoFile = lit≤ tt
two_digits Nothing = lit≤ tt
two_digits Version = lit≤ tt
two_digits Sealed = lit≤ tt
two_digits OutOfRange = lit≤ tt

-- a cause is one digit
pub one_digit : (cause : Cause) → bytes " cause " ++ (48 + cause_number cause) ∷ [] ≡ cause_text (values_of (Dead cause) [])
unfolding decimal
one_digit NoSlot = refl
one_digit FreeSlot = refl
one_digit OtherGeneration = refl
