-- Steps and walks: a book's walk is counted in steps, a working one lists what it meets. They are the same.
use mathlib.Core.Path.{◌≡◌, refl, sym, ap, ◌∙◌, subst⁻¹}
use mathlib.Core.Logic.{◌≢◌, ◌⊎◌, inl, inr}
use mathlib.Core.List.{List, [], ◌∷◌, ◌++◌}
use Prim.Native.Nat.{ℕ, zero, suc, ◌+◌, ◌-◌, ◌≤◌, ◌<◌}
use native.Mathlib.Nat.{zero-add, suc-add}
use native.Mathlib.Omega.{arith}
use lib.ListN.{length}
use Rattle.rules.specs.Notation.{steps, along}
use Rattle.rules.proofs.Laws.Lists.{All, In, NoDup, Walk, all-at}

module _ {A : Type 0} (n : A → A) where
  pub steps_add : (j k : ℕ) (a : A) → steps n (j + k) a ≡ steps n k (steps n j a)
  steps_add zero k a = rw zero-add
  steps_add (suc j) k a = rw suc-add (steps_add j k (n a))

  pub steps-suc : (k : ℕ) (a : A) → steps n (suc k) a ≡ n (steps n k a)
  steps-suc zero a = refl
  steps-suc (suc k) a = steps-suc k (n a)

  pub length-along : (k : ℕ) (a : A) → length (along n k a) ≡ k
  length-along zero a = refl
  length-along (suc k) a = ap suc (length-along k (n a))

  -- so many steps are a walk, and a walk is its steps
  pub along-walk : (k : ℕ) (a : A) → Walk n a (steps n k a) (along n k a)
  along-walk zero a = refl
  along-walk (suc k) a = (refl, along-walk k (n a))

  pub walk-along : (a b : A) (xs : List A) → Walk n a b xs → along n (length xs) a ≡ xs
  walk-along a b [] w = refl
  walk-along a b (x ∷ xs) w = rw (w.0, walk-along (n x) b xs w.1)

  pub walk_end : (a b : A) (xs : List A) → Walk n a b xs → steps n (length xs) a ≡ b
  walk_end a b [] w = w
  walk_end a b (x ∷ xs) w = rw w.0 (walk_end (n x) b xs w.1)

  -- a walk, cut at the place that some steps lead to
  pub walk_at : (a b : A) (xs : List A) (k : ℕ) → Walk n a b xs → k < length xs → (p : List A) × (q : List A) × (xs ≡ p ++ steps n k a ∷ q) × (length p ≡ k)
  walk_at a b [] k w l = absurd (omega arith)
  walk_at a b (x ∷ xs) zero w l = ([], xs, rw w.0, refl)
  walk_at a b (x ∷ xs) (suc k) w l =
      let r = walk_at (n x) b xs k w.1 (omega arith) in
      (x ∷ r.0, r.1, rw w.0 (ap {B = List A} (λ ys. x ∷ ys) r.2), ap suc r.3)

  -- what is met, and after how many steps
  pub met : (k j : ℕ) (a : A) → j < k → In (steps n j a) (along n k a)
  met zero j a h = absurd (omega arith)
  met (suc k) zero a h = inl refl
  met (suc k) (suc j) a h = inr (met k j (n a) (omega arith))

  pub when_met : (k : ℕ) (a x : A) → In x (along n k a) → (j : ℕ) × (j < k) × (steps n j a ≡ x)
  when_met zero a x x3 = elim x3 [ ]
  when_met (suc k) a x (inl e) = (0, omega arith, sym e)
  when_met (suc k) a x (inr m) = let r = when_met k (n a) x m in (suc r.0, omega (arith, r.1), r.2)

  pub all-along : (P : A → Type 0) (k : ℕ) (a : A) → ((j : ℕ) → j < k → P (steps n j a)) → All P (along n k a)
  all-along P zero a h = tt
  all-along P (suc k) a h = (h 0 (omega arith), all-along P k (n a) (λ j l. h (suc j) (omega arith)))

  -- none twice, in both forms
  pub along_once : (k : ℕ) (a : A) → ((i j : ℕ) → i < j → j < k → steps n i a ≢ steps n j a) → NoDup (along n k a)
  along_once zero a h = tt
  along_once (suc k) a h = (all-along (λ y. a ≢ y) k (n a) (λ j l. h 0 (suc j) (omega arith) (omega arith)), along_once k (n a) (λ i j l m. h (suc i) (suc j) (omega arith) (omega arith)))

  pub once-along : (k : ℕ) (a : A) → NoDup (along n k a) → (i j : ℕ) → i < j → j < k → steps n i a ≢ steps n j a
  once-along zero a u i j l m = absurd (omega arith)
  once-along (suc k) a u zero zero l m = absurd (omega arith)
  once-along (suc k) a u zero (suc j) l m = all-at (λ y. a ≢ y) (steps n j (n a)) (along n k (n a)) u.0 (met k j (n a) (omega arith))
  once-along (suc k) a u (suc i) zero l m = absurd (omega arith)
  once-along (suc k) a u (suc i) (suc j) l m = once-along k (n a) u.1 i j (omega arith) (omega arith)

  -- the same of a walk
  pub walk-met : (a b : A) (xs : List A) → Walk n a b xs → (k : ℕ) → k < length xs → In (steps n k a) xs
  walk-met a b xs w k l = rw (walk-along a b xs w) at (met (length xs) k a l)

  pub walk_when : (a b x : A) (xs : List A) → Walk n a b xs → In x xs → (j : ℕ) × (j < length xs) × (steps n j a ≡ x)
  walk_when a b x xs w m = when_met (length xs) a x (rw (walk-along a b xs w) m)

  pub walk-once : (a b : A) (xs : List A) → Walk n a b xs → NoDup xs → (i j : ℕ) → i < j → j < length xs → steps n i a ≢ steps n j a
  walk-once a b xs w u = once-along (length xs) a (rw (walk-along a b xs w) u)

-- a walk that leads back to its start
module _ {A : Type 0} (n : A → A) where
  closed : (a b y : A) (zs : List A) → Walk n a b zs → In y zs → (n y ≡ b) ⊎ In (n y) zs
  closed a b y [] w x'' = elim x'' [ ]
  closed a b y (z ∷ []) w (inl e) = inl (ap n e ∙ w.1)
  closed a b y (z ∷ x ∷ zs) w (inl e) = inr (inr (inl (ap n e ∙ w.1.0)))
  closed a b y (z ∷ zs) w (inr m) = go (closed (n z) b y zs w.1 m)
    where
      go : (n y ≡ b) ⊎ In (n y) zs → (n y ≡ b) ⊎ In (n y) (z ∷ zs)
      go (inl e) = inl e
      go (inr m) = inr (inr m)

  -- it meets whatever any number of steps lead to
  pub reached : (x : A) (xs : List A) → Walk n (n x) x xs → (k : ℕ) → In (steps n k x) (x ∷ xs)
  reached x xs w zero = inl refl
  reached x xs w (suc k) = subst⁻¹ (λ (y : A). In y (x ∷ xs)) (steps-suc n k x) (go (closed x x (steps n k x) (x ∷ xs) (refl, w) (reached x xs w k)))
    where
      go : (n (steps n k x) ≡ x) ⊎ In (n (steps n k x)) (x ∷ xs) → In (n (steps n k x)) (x ∷ xs)
      go (inl e) = inl e
      go (inr m) = m

-- a walk among members of `P`, each step of which `p` undoes
module _ {A : Type 0} (n p : A → A) (P : A → Type 0) (stays : (a : A) → P a → P (n a)) (back : (a : A) → P a → p (n a) ≡ a) where
  pub steps_stay : (k : ℕ) (a : A) → P a → P (steps n k a)
  steps_stay zero a h = h
  steps_stay (suc k) a h = steps_stay k (n a) (stays a h)

  pub steps_cancel : (k : ℕ) (a b : A) → P a → P b → steps n k a ≡ steps n k b → a ≡ b
  steps_cancel zero a b h l e = e
  steps_cancel (suc k) a b h l e = sym (back a h) ∙ ap p (steps_cancel k (n a) (n b) (stays a h) (stays b l) e) ∙ back b l

  -- one that does not come back before `size` steps meets none twice on them
  pub round_none_twice : (size : ℕ) (a : A) → P a → ((k : ℕ) → 1 ≤ k → k < size → steps n k a ≢ a) → (i j : ℕ) → i < j → j < size → steps n i a ≢ steps n j a
  round_none_twice size a h before i j l m e =
      let d = j - i in
      let q : j ≡ d + i = omega arith in
      before d (omega arith) (omega arith) (sym (steps_cancel i a (steps n d a) h (steps_stay d a h) (e ∙ ap (λ k. steps n k a) q ∙ steps_add n d i a)))
