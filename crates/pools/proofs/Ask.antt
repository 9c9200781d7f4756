-- What a test of an answered question gives; and that each header was asked.
use mathlib.Core.Path.{◌≡◌, sym, subst, ◌∙◌}
use mathlib.Core.Bool.{Bool, true, false}
use mathlib.Core.List.{List}
use Prim.Native.Nat.{ℕ, ◌+◌, ◌<◌}
use native.Mathlib.Omega.{arith}
use lib.ListN.{length, get_or}
use Rattle.std.specs.Bool.{MatchBool}
use Rattle.std.specs.List.{AllWithin, HoldsAt, range_with_len}
use Rattle.std.proofs.lemmas.List.FromFn.{length-range_with_len, get_or-range_with_len}
use Rattle.rules.specs.Calls.{Is}
use Rattle.pools.specs.Pools.{Verdict, HeaderOk, Headers}

pub if_yes : {P : Type 0} (r : Bool) → r ≡ true → Is P r → P
if_yes {P} r t a = subst (λ (b : Bool). Is P b) t a

pub if_no : {P : Type 0} (r : Bool) → r ≡ false → Is P r → P → ⊥
if_no {P} r t a = subst (λ (b : Bool). Is P b) t a

pub settle : {Y N P : Type 0} (r : Bool) → (Y → P) → (P → N) → Verdict Y N r → Is P r
settle true f g a = f a
settle false f g a = λ p. a (g p)

pub is_like : {P Q : Type 0} (r : Bool) → (P → Q) → (Q → P) → Is P r → Is Q r
is_like true f g a = f a
is_like false f g a = λ q. a (g q)

-- each of the headers up to the extent was asked
pub headers_by_all : (s : List ℕ) (m : ℕ) (r : Bool) → MatchBool r (AllWithin (HeaderOk s) (range_with_len 1 m) 0 (length (range_with_len 1 m))) ((k : ℕ) × (k < length (range_with_len 1 m)) × HoldsAt (λ c. HeaderOk s c → ⊥) (range_with_len 1 m) k) → Is (Headers s m) r
headers_by_all s m true h = λ c l. let e : get_or (range_with_len 1 m) c 0 ≡ c + 1 = get_or-range_with_len 1 m c 0 l ∙ omega arith in subst (HeaderOk s) e (h c 0 (omega arith) (omega (arith, length-range_with_len 1 m)))
headers_by_all s m false h = λ p.
    let l : h.0 < m = omega (arith, h.1, length-range_with_len 1 m) in
    let e : get_or (range_with_len 1 m) h.0 0 ≡ h.0 + 1 = get_or-range_with_len 1 m h.0 0 l ∙ omega arith in
    h.2 0 (subst (HeaderOk s) (sym e) (p h.0 l))
