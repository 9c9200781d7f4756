-- Keys: told apart by both numbers; membership and none twice, as demand 3 says them and as the laws of lists do.
use Rattle.std.specs.Prelude.{if◌then◌else◌, ◌==◌}
use mathlib.Core.Path.{◌≡◌, ap}
use mathlib.Core.Logic.{inl, inr}
use mathlib.Core.Bool.{Bool, true, false}
use mathlib.Core.List.{List, [], ◌∷◌, ◌++◌}
use Rattle.rules.specs.declared.Key.{Key}
use Rattle.rules.specs.Calls.{Is}
use Rattle.rules.specs.History.{same_key, before, after, holds}
use Rattle.rules.specs.Demand
use Rattle.rules.proofs.Laws.Lists.{In, NoDup, out_of, out-not}
use Rattle.rules.proofs.Laws.Tests.{eq_is, both_is}

pub key_path : (j k : Key) → j.slot ≡ k.slot → j.generation ≡ k.generation → j ≡ k
key_path j k e f = λ i. record { slot = e i; generation = f i }

pub same-is : (j k : Key) → Is (j ≡ k) (same_key j k)
same-is j k = go (same_key j k) (both_is (j.slot ≡ k.slot) (j.generation ≡ k.generation) (j.slot == k.slot) (j.generation == k.generation) (eq_is j.slot k.slot) (eq_is j.generation k.generation))
  where
    go : (b : Bool) → Is ((j.slot ≡ k.slot) × (j.generation ≡ k.generation)) b → Is (j ≡ k) b
    go true p = key_path j k p.0 p.1
    go false n = λ e. n (ap (λ (x : Key). x.slot) e, ap (λ (x : Key). x.generation) e)

pub holds-is : (k : Key) (r : List Key) → Is (In k r) (holds k r)
holds-is k [] = λ m. m
holds-is k (j ∷ js) = go (same_key k j) (same-is k j) (holds k js) (holds-is k js)
  where
    go : (b : Bool) → Is (k ≡ j) b → (c : Bool) → Is (In k js) c → Is (In k (j ∷ js)) (if b then true else c)
    go true e c m = inl e
    go false n true m = inr m
    go false n false m = neither
      where
        neither : In k (j ∷ js) → ⊥
        neither (inl e) = n e
        neither (inr i) = m i

-- a run that holds a key is what stands before it, the key, and what stands after it
pub cut_at : (k : Key) (r : List Key) → In k r → r ≡ before k r ++ k ∷ after k r
cut_at k [] m = elim m [ ]
cut_at k (j ∷ js) m = go (same_key k j) (same-is k j) m (λ i. cut_at k js i)
  where
    go : (b : Bool) → Is (k ≡ j) b → In k (j ∷ js) → (In k js → js ≡ before k js ++ k ∷ after k js)
        → j ∷ js ≡ (if b then [] else j ∷ before k js) ++ k ∷ (if b then js else after k js)
    go true e m f = rw e
    go false n (inl e) f = absurd (n e)
    go false n (inr i) f = ap {B = List Key} (λ l. j ∷ l) (f i)

-- demand 3's membership and the laws'
pub in_of : (k : Key) (r : List Key) → Demand.In k r → In k r
in_of k [] x' = elim x' [ ]
in_of k (j ∷ js) (inl e) = inl e
in_of k (j ∷ js) (inr m) = inr (in_of k js m)

pub in_to : (k : Key) (r : List Key) → In k r → Demand.In k r
in_to k [] x' = elim x' [ ]
in_to k (j ∷ js) (inl e) = inl e
in_to k (j ∷ js) (inr m) = inr (in_to k js m)

-- and none twice
pub once-to : (r : List Key) → NoDup r → Demand.Once r
once-to [] d = tt
once-to (k ∷ ks) d = ((λ m. out-not k ks d.0 (in_of k ks m)), once-to ks d.1)

pub once_of : (r : List Key) → Demand.Once r → NoDup r
once_of [] d = tt
once_of (k ∷ ks) d = (out_of k ks (λ m. d.0 (in_to k ks m)), once_of ks d.1)
