-- Lists that rise: one that holds the same numbers is the same list.
use Rattle.std.specs.Prelude.{if◌then◌else◌}
use mathlib.Core.Path.{◌≡◌, refl, sym, ap}
use mathlib.Core.Logic.{inl, inr}
use mathlib.Core.Bool.{Bool, true, false}
use mathlib.Core.List.{List, [], ◌∷◌}
use Prim.Native.Nat.{ℕ, zero, suc, ◌≤◌, ◌<◌}
use native.Mathlib.Omega.{arith}
use Rattle.rules.specs.Notation.{along, keep}
use Rattle.rules.proofs.Laws.Lists.{All, In, all_of, all-at}
use Rattle.rules.proofs.Laws.Sums.{along_of, keep_of}

abbrev pub Rising : List ℕ → Type 0
Rising [] = Unit {0}
Rising (x ∷ xs) = All (λ y. x < y) xs × Rising xs

pub rising-same : (xs ys : List ℕ) → Rising xs → Rising ys → ((x : ℕ) → In x xs → In x ys) → ((y : ℕ) → In y ys → In y xs) → xs ≡ ys
rising-same [] [] a b f g = refl
rising-same [] (y ∷ ys) a b f g = absurd (g y (inl refl))
rising-same (x ∷ xs) [] a b f g = absurd (f x (inl refl))
rising-same (x ∷ xs) (y ∷ ys) a b f g =
    let e : x ≡ y = head (f x (inl refl)) (g y (inl refl)) in
    rw e (ap {B = List ℕ} (λ l. y ∷ l) (rising-same xs ys a.1 b.1 (λ z m. past z y ys (above z x xs a.0 m) e (f z (inr m))) (λ z m. past z x xs (above z y ys b.0 m) (sym e) (g z (inr m)))))
  where
    above : (z w : ℕ) (ws : List ℕ) → All (λ u. w < u) ws → In z ws → w < z
    above z w ws h m = all-at (λ u. w < u) z ws h m

    least : (z w : ℕ) (ws : List ℕ) → All (λ u. w < u) ws → In z (w ∷ ws) → w ≤ z
    least z w ws h (inl e) = omega arith
    least z w ws h (inr m) = omega (arith, above z w ws h m)

    head : In x (y ∷ ys) → In y (x ∷ xs) → x ≡ y
    head m n = omega (arith, least x y ys b.0 m, least y x xs a.0 n)

    past : (z w : ℕ) (ws : List ℕ) {u : ℕ} → u < z → u ≡ w → In z (w ∷ ws) → In z ws
    past z w ws l e (inl q) = absurd (omega arith)
    past z w ws l e (inr m) = m

pub rising-keep : (test : ℕ → Bool) (n a : ℕ) → Rising (keep test (along suc n a))
rising-keep test zero a = tt
rising-keep test (suc n) a = go (test a) (rising-keep test n (suc a))
  where
    go : (b : Bool) → Rising (keep test (along suc n (suc a))) → Rising (if b then a ∷ keep test (along suc n (suc a)) else keep test (along suc n (suc a)))
    go true r = (all_of (λ y. a < y) (keep test (along suc n (suc a))) (λ y m. (along_of n (suc a) y (keep_of test y (along suc n (suc a)) m).0).0), r)
    go false r = r
