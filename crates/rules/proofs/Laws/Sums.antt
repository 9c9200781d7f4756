-- Sums over lists, none of whose members stands twice: equal where the members that count are the same.
use Rattle.std.specs.Prelude.{if◌then◌else◌}
use mathlib.Core.Path.{◌≡◌, refl, sym, ap, ◌∙◌}
use mathlib.Core.Logic.{◌≢◌, ◌⊎◌, inl, inr}
use mathlib.Core.Bool.{Bool, true, false}
use mathlib.Core.List.{List, [], ◌∷◌, ◌++◌, map}
use Prim.Native.Nat.{ℕ, zero, suc, ◌+◌, ◌≤◌, ◌<◌}
use native.Mathlib.Omega.{arith}
use native.Mathlib.Decide.{ℕ_discrete}
use lib.Dec.{T}
use lib.ListN.{length}
use Rattle.rules.specs.Notation.{along, sum, up_to, keep}
use Rattle.rules.proofs.Laws.Lists.{In, NoDup, all-at, all_of, in_left, in_right, in_parts, in_cut}

module _ {A : Type 0} (f : A → ℕ) where
  pub sum_append : (xs ys : List A) → sum (map f (xs ++ ys)) ≡ sum (map f xs) + sum (map f ys)
  sum_append [] ys = omega arith
  sum_append (x ∷ xs) ys = omega (arith, sum_append xs ys)

  -- each member that counts is a member there
  pub sum-within : (xs ys : List A) → NoDup xs → ((x : A) → In x xs → f x ≢ 0 → In x ys) → sum (map f xs) ≤ sum (map f ys)
  sum-within [] ys d h = omega arith
  sum-within (x ∷ xs) ys d h = go (ℕ_discrete (f x) 0) (sum-within xs)
    where
      left : (p q : List A) (y : A) → x ≢ y → In y (p ++ x ∷ q) → In y (p ++ q)
      left p q y n m = back (in_parts y p (x ∷ q) m)
        where
          back : In y p ⊎ In y (x ∷ q) → In y (p ++ q)
          back (inl i) = in_left y p q i
          back (inr (inl e)) = absurd (n (sym e))
          back (inr (inr i)) = in_right y p q i

      cut : (p q : List A) → ys ≡ p ++ x ∷ q → ((zs : List A) → NoDup xs → ((y : A) → In y xs → f y ≢ 0 → In y zs) → sum (map f xs) ≤ sum (map f zs)) → sum (map f (x ∷ xs)) ≤ sum (map f ys)
      cut p q e rest =
          let l : sum (map f xs) ≤ sum (map f (p ++ q)) = rest (p ++ q) d.1 (λ y m n. left p q y (all-at (λ z. x ≢ z) y xs d.0 m) (rw e at (h y (inr m) n))) in
          rw e (omega (arith, sum_append p q, sum_append p (x ∷ q)))

      go : Dec (f x ≡ 0) → ((zs : List A) → NoDup xs → ((y : A) → In y xs → f y ≢ 0 → In y zs) → sum (map f xs) ≤ sum (map f zs)) → sum (map f (x ∷ xs)) ≤ sum (map f ys)
      go (yes e) rest = omega (arith, rest ys d.1 (λ y m n. h y (inr m) n))
      go (no n) rest = let t = in_cut x ys (h x (inl refl) n) in cut t.0 t.1 t.2 rest

  pub sum_same : (xs ys : List A) → NoDup xs → NoDup ys → ((x : A) → In x xs → f x ≢ 0 → In x ys) → ((y : A) → In y ys → f y ≢ 0 → In y xs) → sum (map f xs) ≡ sum (map f ys)
  sum_same xs ys d e g h = omega (arith, sum-within xs ys d g, sum-within ys xs e h)

module _ {A : Type 0} where
  ones : (xs : List A) → sum (map (λ x. 1) xs) ≡ length xs
  ones [] = refl
  ones (x ∷ xs) = omega (arith, ones xs)

  -- two lists with the same members are as long
  pub length-same : (xs ys : List A) → NoDup xs → NoDup ys → ((x : A) → In x xs → In x ys) → ((y : A) → In y ys → In y xs) → length xs ≡ length ys
  length-same xs ys d e g h = sym (ones xs) ∙ sum_same (λ x. 1) xs ys d e (λ x m n. g x m) (λ y m n. h y m) ∙ ones ys

  -- what is kept
  pub keep_in : (test : A → Bool) (x : A) (xs : List A) → In x xs → T (test x) → In x (keep test xs)
  keep_in test x [] m t = elim m [ ]
  keep_in test x (y ∷ ys) m t = go (test y) m (λ e. ap test e) (λ i. keep_in test x ys i t)
    where
      go : (b : Bool) → In x (y ∷ ys) → (x ≡ y → test x ≡ b) → (In x ys → In x (keep test ys)) → In x (if b then y ∷ keep test ys else keep test ys)
      go true (inl e) g f = inl e
      go true (inr i) g f = inr (f i)
      go false (inl e) g f = absurd (rw (g e) at t)
      go false (inr i) g f = f i

  pub keep_of : (test : A → Bool) (x : A) (xs : List A) → In x (keep test xs) → In x xs × T (test x)
  keep_of test x [] m = elim m [ ]
  keep_of test x (y ∷ ys) m = go (test y) refl m (λ i. keep_of test x ys i)
    where
      go : (b : Bool) → test y ≡ b → In x (if b then y ∷ keep test ys else keep test ys) → (In x (keep test ys) → In x ys × T (test x)) → In x (y ∷ ys) × T (test x)
      go true g (inl e) f = (inl e, rw (e, g) tt)
      go true g (inr i) f = let r = f i in (inr r.0, r.1)
      go false g i f = let r = f i in (inr r.0, r.1)

  pub keep-once : (test : A → Bool) (xs : List A) → NoDup xs → NoDup (keep test xs)
  keep-once test [] d = tt
  keep-once test (x ∷ xs) d = go (test x) (keep-once test xs d.1)
    where
      go : (b : Bool) → NoDup (keep test xs) → NoDup (if b then x ∷ keep test xs else keep test xs)
      go true e = (all_of (λ y. x ≢ y) (keep test xs) (λ y m. all-at (λ z. x ≢ z) y xs d.0 (keep_of test y xs m).0), e)
      go false e = e

-- the numbers from `a` on, `n` of them
pub along_in : (n a s : ℕ) → a ≤ s → s < a + n → In s (along suc n a)
along_in zero a s lo hi = absurd (omega arith)
along_in (suc n) a s lo hi = go (ℕ_discrete s a) (λ l. along_in n (suc a) s l (omega arith))
  where
    go : Dec (s ≡ a) → (suc a ≤ s → In s (along suc n (suc a))) → In s (along suc (suc n) a)
    go (yes e) f = inl e
    go (no e) f = inr (f (omega arith))

pub along_of : (n a s : ℕ) → In s (along suc n a) → (a ≤ s) × (s < a + n)
along_of zero a s x' = elim x' [ ]
along_of (suc n) a s (inl e) = (omega arith, omega arith)
along_of (suc n) a s (inr m) = let r = along_of n (suc a) s m in (omega (arith, r.0), omega (arith, r.1))

pub along_once : (n a : ℕ) → NoDup (along suc n a)
along_once zero a = tt
along_once (suc n) a = (all_of (λ y. a ≢ y) (along suc n (suc a)) (λ y m. let r = along_of n (suc a) y m in omega (arith, r.0)), along_once n (suc a))

-- the numbers 1 to `n`
pub up_to-in : (n s : ℕ) → 1 ≤ s → s ≤ n → In s (up_to n)
up_to-in n s lo hi = along_in n 1 s lo (omega arith)

pub up_to-of : (n s : ℕ) → In s (up_to n) → (1 ≤ s) × (s ≤ n)
up_to-of n s m = let r = along_of n 1 s m in (r.0, omega (arith, r.1))

pub up_to-once : (n : ℕ) → NoDup (up_to n)
up_to-once n = along_once n 1
