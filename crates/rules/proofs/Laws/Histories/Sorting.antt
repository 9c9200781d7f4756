-- Sorting runs by lowest slot (Rules 14) writes the history in another way; where no two have one lowest slot, the lowest slots rise.
use Rattle.std.specs.Prelude.{if◌then◌else◌}
use mathlib.Core.Logic.{◌≢◌}
use mathlib.Core.Bool.{Bool, true, false}
use mathlib.Core.List.{List, [], ◌∷◌, map, foldr}
use Prim.Native.Nat.{ℕ, suc, ◌<◌}
use native.Mathlib.Omega.{arith}
use Rattle.rules.specs.declared.Key.{Key}
use Rattle.rules.specs.Notation.{◌<?◌}
use Rattle.rules.specs.Calls.{Is}
use Rattle.rules.specs.History.{lowest_of, sorted}
use Rattle.rules.proofs.Laws.Tests.{le_is}
use Rattle.rules.proofs.Laws.Lists.{All, NoDup, all_map, all_image}
use Rattle.rules.proofs.Laws.Ascending.{Rising}
use Rattle.rules.proofs.Laws.Fronted.{Same, same, swap, under, via}

same-sorted : (r : List Key) (qs : List (List Key)) → Same (r ∷ qs) (sorted r qs)
unfolding sorted
same-sorted r [] = same
same-sorted r (q ∷ qs) = go (lowest_of r <? lowest_of q) (same-sorted r qs)
  where
    go : (b : Bool) → Same (r ∷ qs) (sorted r qs) → Same (r ∷ q ∷ qs) (if b then r ∷ q ∷ qs else q ∷ sorted r qs)
    go true s = same
    go false s = via swap (under s)

pub same_sort : (h : List (List Key)) → Same h (foldr sorted [] h)
same_sort [] = same
same_sort (r ∷ h) = via (under (same_sort h)) (same-sorted r (foldr sorted [] h))

all-sorted : (P : List Key → Type 0) (r : List Key) (qs : List (List Key)) → P r → All P qs → All P (sorted r qs)
unfolding sorted
all-sorted P r [] p a = (p, tt)
all-sorted P r (q ∷ qs) p a = go (lowest_of r <? lowest_of q) (all-sorted P r qs p a.1)
  where
    go : (b : Bool) → All P (sorted r qs) → All P (if b then r ∷ q ∷ qs else q ∷ sorted r qs)
    go true s = (p, a)
    go false s = (a.0, s)

all_sort : (P : List Key → Type 0) (h : List (List Key)) → All P h → All P (foldr sorted [] h)
all_sort P [] a = tt
all_sort P (r ∷ h) a = all-sorted P r (foldr sorted [] h) a.0 (all_sort P h a.1)

-- by what is sorted, they rise
preimage : {A : Type 0} (f : A → ℕ) (P : ℕ → Type 0) (xs : List A) → All P (map f xs) → All (λ x. P (f x)) xs
preimage f P [] a = tt
preimage f P (x ∷ xs) a = (a.0, preimage f P xs a.1)

rising-sorted : (r : List Key) (qs : List (List Key)) → Rising (map lowest_of qs) → All (λ q. lowest_of r ≢ lowest_of q) qs → Rising (map lowest_of (sorted r qs))
unfolding sorted
rising-sorted r [] a d = (tt, tt)
rising-sorted r (q ∷ qs) a d = go (lowest_of r <? lowest_of q) (le_is (suc (lowest_of r)) (lowest_of q)) (rising-sorted r qs a.1 d.1)
  where
    go : (b : Bool) → Is (lowest_of r < lowest_of q) b → Rising (map lowest_of (sorted r qs)) → Rising (map lowest_of (if b then r ∷ q ∷ qs else q ∷ sorted r qs))
    go true l s = ((l, all_map (λ y h. omega arith) (map lowest_of qs) a.0), a)
    go false l s = (all_image lowest_of (λ y. lowest_of q < y) (sorted r qs) (all-sorted (λ t. lowest_of q < lowest_of t) r qs (omega (arith, d.0)) (preimage lowest_of (λ y. lowest_of q < y) qs a.0)), s)

pub rising_sort : (h : List (List Key)) → NoDup (map lowest_of h) → Rising (map lowest_of (foldr sorted [] h))
rising_sort [] d = tt
rising_sort (r ∷ h) d = rising-sorted r (foldr sorted [] h) (rising_sort h d.1) (all_sort (λ q. lowest_of r ≢ lowest_of q) h (preimage lowest_of (λ y. lowest_of r ≢ y) h d.0))
