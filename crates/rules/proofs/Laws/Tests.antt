-- The tests of the rules decide what they name.
use Rattle.std.specs.Prelude.{◌==◌}
use mathlib.Core.Path.{◌≡◌, refl, subst}
use mathlib.Core.Bool.{Bool, true, false, ◌&&◌, not}
use Prim.Native.Nat.{ℕ, ◌≤◌}
use lib.Dec.{T, leb→le, le→leb, eqb→eq, eqb_refl}
use Rattle.rules.specs.Notation.{◌≤?◌}
use Rattle.rules.specs.Calls.{Is}

-- from truth of the test and back
pub is_of : {P : Type 0} (b : Bool) → (T b → P) → (P → T b) → Is P b
is_of true f g = f tt
is_of false f g = g

pub eq_is : (a b : ℕ) → Is (a ≡ b) (a == b)
eq_is a b = is_of (a == b) (eqb→eq a b) (λ e. rw e (eqb_refl b))

pub le_is : (a b : ℕ) → Is (a ≤ b) (a ≤? b)
le_is a b = is_of (a ≤? b) (leb→le a b) (le→leb a b)

pub both_is : (P Q : Type 0) (a b : Bool) → Is P a → Is Q b → Is (P × Q) (a && b)
both_is P Q true true p q = (p, q)
both_is P Q true false p q = λ h. q h.1
both_is P Q false b p q = λ h. p h.0

pub not_is : (P : Type 0) (b : Bool) → Is P b → Is (P → ⊥) (not b)
not_is P true p = λ h. h p
not_is P false p = p

-- what is decided, as truth of the test
pub is_true : {P : Type 0} (b : Bool) → Is P b → P → b ≡ true
is_true true d p = refl
is_true false d p = absurd (d p)

pub is_false : {P : Type 0} (b : Bool) → Is P b → (P → ⊥) → b ≡ false
is_false true d n = absurd (n d)
is_false false d n = refl

pub is_T : {P : Type 0} (b : Bool) → Is P b → T b → P
is_T true d t = d
is_T false d t = absurd t

pub is-told : {P : Type 0} (b : Bool) → Is P b → P → T b
is-told true d p = tt
is-told false d p = absurd (d p)

-- and from what the test came to
pub is_so : (P : Type 0) (b : Bool) → Is P b → b ≡ true → P
is_so P b d e = subst (λ (t : Bool). Is P t) e d

pub is-not : (P : Type 0) (b : Bool) → Is P b → b ≡ false → P → ⊥
is-not P b d e = subst (λ (t : Bool). Is P t) e d
