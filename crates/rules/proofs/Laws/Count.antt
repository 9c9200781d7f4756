-- Counting: what the soundness check rests on. A list of slots, none twice, that is as long as there are slots of a kind, holds them all.
use mathlib.Core.Path.{◌≡◌, refl, sym, ap}
use mathlib.Core.Logic.{◌≢◌, inl, inr}
use mathlib.Core.List.{List, [], ◌∷◌}
use Prim.Native.Nat.{ℕ, zero, suc, ◌+◌, ◌-◌, ◌≤◌, ◌<◌}
use native.Mathlib.Omega.{arith}
use native.Mathlib.Decide.{ℕ_discrete}
use lib.ListN.{length}
use Rattle.rules.proofs.Laws.Lists.{All, In, NoDup, all_both}
use Rattle.rules.proofs.Laws.Columns.{upd, upd_same, upd_other}
use Rattle.rules.proofs.Laws.Pools.{lives, sign, Free, lives_less, lives_in, sign_one}

-- none is left: each is 0
lives-none : (g : ℕ → ℕ) (k : ℕ) → lives g k ≡ 0 → (s : ℕ) → 0 < s → s ≤ k → g s ≡ 0
lives-none g zero e s lo hi = absurd (omega arith)
lives-none g (suc k) e s lo hi = go (ℕ_discrete s (suc k)) (λ l. lives-none g k (omega arith) s lo l)
  where
    sign_zero : (n : ℕ) → sign n ≡ 0 → n ≡ 0
    sign_zero zero e = refl
    sign_zero (suc n) e = absurd (omega arith)

    go : Dec (s ≡ suc k) → (s ≤ k → g s ≡ 0) → g s ≡ 0
    go (yes q) f = rw q (sign_zero (g (suc k)) (omega arith))
    go (no q) f = f (omega arith)

-- one by one they are blotted out
pub full : (xs : List ℕ) (g : ℕ → ℕ) (k : ℕ) → NoDup xs → All (λ s. (g s ≢ 0) × (0 < s) × (s ≤ k)) xs → length xs ≡ lives g k → (s : ℕ) → g s ≢ 0 → 0 < s → s ≤ k → In s xs
full [] g k u h e s l lo hi = absurd (l (lives-none g k (sym e) s lo hi))
full (x ∷ xs) g k u h e s l lo hi =
    go (ℕ_discrete s x) (λ n. full xs (upd g x 0) k u.1
    (all_both (λ y o p. (rw (upd_other g x 0 y (λ q. o (sym q))) p.0, p.1, p.2)) xs u.0 h.1)
    (omega (arith, lives_less g x k h.0.1 h.0.2 h.0.0)) s (rw (upd_other g x 0 s n) l) lo hi)
  where
    go : Dec (s ≡ x) → (s ≢ x → In s xs) → In s (x ∷ xs)
    go (yes q) f = inl q
    go (no q) f = inr (f q)

lives-zero : (g : ℕ → ℕ) (k : ℕ) → ((s : ℕ) → 0 < s → s ≤ k → g s ≡ 0) → lives g k ≡ 0
lives-zero g zero h = refl
lives-zero g (suc k) h = omega (arith, lives-zero g k (λ s lo hi. h s lo (omega arith)), ap sign (h (suc k) (omega arith) (omega arith)))

-- a list that holds exactly the slots of a kind, none twice, is as long as there are such slots
pub exact_within : (xs : List ℕ) (g : ℕ → ℕ) (k : ℕ) → NoDup xs → All (λ s. (g s ≢ 0) × (0 < s) × (s ≤ k)) xs → ((s : ℕ) → 0 < s → s ≤ k → g s ≢ 0 → In s xs) → lives g k ≡ length xs
exact_within [] g k u h w = lives-zero g k (λ s lo hi. zero_of (g s) (w s lo hi))
  where
    zero_of : (n : ℕ) → (n ≢ 0 → ⊥) → n ≡ 0
    zero_of zero f = refl
    zero_of (suc n) f = absurd (f (omega arith))
exact_within (x ∷ xs) g k u h w =
    omega (
      arith,
      lives_in g x 0 k h.0.1 h.0.2,
      sign_one (g x) h.0.0,
      exact_within xs (upd g x 0) k u.1 (all_both (λ y o p. (rw (upd_other g x 0 y (λ q. o (sym q))) p.0, p.1, p.2)) xs u.0 h.1) (λ s lo hi l. rest s lo hi l (ℕ_discrete s x)),
    )
  where
    skip-x : (s : ℕ) → s ≢ x → In s (x ∷ xs) → In s xs
    skip-x s n (inl q) = absurd (n q)
    skip-x s n (inr m) = m

    rest : (s : ℕ) → 0 < s → s ≤ k → upd g x 0 s ≢ 0 → Dec (s ≡ x) → In s xs
    rest s lo hi l (yes q) = absurd (l (rw (q, upd_same)))
    rest s lo hi l (no q) = skip-x s q (w s lo hi (rw (upd_other g x 0 s q) at l))

pub exact : (xs : List ℕ) (g : ℕ → ℕ) (k : ℕ) → NoDup xs → All (λ s. (g s ≢ 0) × (0 < s) × (s ≤ k)) xs → ((s : ℕ) → g s ≢ 0 → In s xs) → lives g k ≡ length xs
exact xs g k u h w = exact_within xs g k u h (λ s lo hi. w s)

-- there are no more of them than slots
pub lives_le : (g : ℕ → ℕ) (k : ℕ) → lives g k ≤ k
lives_le g zero = omega arith
lives_le g (suc k) = omega (arith, lives_le g k, one (g (suc k)))
  where
    one : (n : ℕ) → sign n ≤ 1
    one zero = omega arith
    one (suc n) = omega arith

-- different slots of a kind are no more than there are
pub fewer : (xs : List ℕ) (g : ℕ → ℕ) (k : ℕ) → NoDup xs → All (λ s. (g s ≢ 0) × (0 < s) × (s ≤ k)) xs → length xs ≤ lives g k
fewer [] g k u h = omega arith
fewer (x ∷ xs) g k u h =
    omega (
      arith,
      lives_in g x 0 k h.0.1 h.0.2,
      sign_one (g x) h.0.0,
      fewer xs (upd g x 0) k u.1 (all_both (λ y o p. (rw (upd_other g x 0 y (λ q. o (sym q))) p.0, p.1, p.2)) xs u.0 h.1),
    )

-- where all are of a kind, none is free
pub lives_all : (g : ℕ → ℕ) (n : ℕ) → ((t : ℕ) → 0 < t → t ≤ n → g t ≢ 0) → (k : ℕ) → k ≤ n → lives g k ≡ k
lives_all g n h zero l = refl
lives_all g n h (suc k) l = omega (arith, lives_all g n h k (omega arith), sign_one (g (suc k)) (h (suc k) (omega arith) l))

pub all-used : {g : ℕ → ℕ} {k : ℕ} → lives g k ≡ k → (s : ℕ) → Free g k s → ⊥
all-used {g} {k} e s f = omega (arith, lives_in g s 1 k f.low f.within, ap sign f.free, lives_le (upd g s 1) k)

-- the slots of no kind: 1 where a column is 0, and 0 elsewhere
abbrev pub unused : (ℕ → ℕ) → ℕ → ℕ
unused g s = 1 - sign (g s)

pub unused_free : (g : ℕ → ℕ) (s : ℕ) → g s ≡ 0 → unused g s ≢ 0
unused_free g s e = omega (arith, ap sign e)

pub free_unused : (g : ℕ → ℕ) (s : ℕ) → unused g s ≢ 0 → g s ≡ 0
free_unused g s = go (g s)
  where
    go : (v : ℕ) → 1 - sign v ≢ 0 → v ≡ 0
    go zero h = refl
    go (suc v) h = absurd (h refl)

pub lives_unused : (g : ℕ → ℕ) (k : ℕ) → lives (unused g) k + lives g k ≡ k
lives_unused g zero = refl
lives_unused g (suc k) = omega (arith, lives_unused g k, one (g (suc k)))
  where
    one : (v : ℕ) → sign (1 - sign v) + sign v ≡ 1
    one zero = refl
    one (suc v) = refl
