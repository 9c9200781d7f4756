-- Places in a list, a column that ends, and a table that is written row by row: what compression, a copy and a move number slots by.
use Rattle.std.specs.Prelude.{if◌then◌else◌}
use mathlib.Core.Path.{◌≡◌, refl, sym, ap, ◌∙◌, fun_ext, subst₂}
use mathlib.Core.Logic.{◌≢◌, ◌⊎◌, inl, inr}
use mathlib.Core.Bool.{Bool, true, false}
use mathlib.Core.List.{List, [], ◌∷◌, ◌++◌, map}
use Prim.Native.Nat.{ℕ, zero, suc, ◌+◌, ◌*◌, ◌-◌, ◌/◌, ◌%◌, ◌≤◌, ◌<◌}
use native.Mathlib.Nat.{le_of_suc-le-suc, div-add-mod', mod-lt, mul-le-mul_right}
use native.Mathlib.Omega.{arith}
use native.Mathlib.Decide.{dec_lt}
use lib.Dec.{T, eqb, eqb→eq, eqb_refl}
use lib.ListN.{length, get_or, replicate, length-append, length-replicate, get_or-append}
use lib.Seq.{get_or-append-add, ext_get_or}
use Rattle.rules.specs.Notation.{flat}
use Rattle.rules.specs.Tables.{cell}
use Rattle.rules.specs.Compress.{place_of, padded}
use Rattle.rules.proofs.Laws.Columns.{choose, get_d-zeros}
use Rattle.rules.proofs.Laws.Lists.{In, NoDup, all-at}

-- ---- the place of a member

pub place_cases : (ys : List ℕ) (x y : ℕ) → ((x ≡ y) × (place_of (y ∷ ys) x ≡ 1)) ⊎ ((x ≢ y) × (place_of (y ∷ ys) x ≡ suc (place_of ys x)))
unfolding place_of
place_cases ys x y = go (eqb x y) (eqb→eq x y) (λ e. eqb_refl' e)
  where
    eqb_refl' : x ≡ y → T (eqb x y)
    eqb_refl' e = rw e (eqb_refl y)

    go : (b : Bool) → (T b → x ≡ y) → (x ≡ y → T b) → ((x ≡ y) × ((if b then 1 else suc (place_of ys x)) ≡ 1)) ⊎ ((x ≢ y) × ((if b then 1 else suc (place_of ys x)) ≡ suc (place_of ys x)))
    go true f g = inl (f tt, refl)
    go false f g = inr (g, refl)

-- a member stands at its place
pub place_in : (x : ℕ) (xs : List ℕ) → In x xs → (1 ≤ place_of xs x) × (place_of xs x ≤ length xs) × (get_or xs (place_of xs x - 1) 0 ≡ x)
place_in x [] m = elim m [ ]
place_in x (y ∷ ys) m = go (place_cases ys x y) m (λ k. place_in x ys k)
  where
    go : ((x ≡ y) × (place_of (y ∷ ys) x ≡ 1)) ⊎ ((x ≢ y) × (place_of (y ∷ ys) x ≡ suc (place_of ys x))) → In x (y ∷ ys)
        → (In x ys → (1 ≤ place_of ys x) × (place_of ys x ≤ length ys) × (get_or ys (place_of ys x - 1) 0 ≡ x))
        → (1 ≤ place_of (y ∷ ys) x) × (place_of (y ∷ ys) x ≤ suc (length ys)) × (get_or (y ∷ ys) (place_of (y ∷ ys) x - 1) 0 ≡ x)
    go (inl p) m f = rw p.1 (omega arith, omega arith, sym p.0)
    go (inr p) (inl q) f = absurd (p.0 q)
    go (inr p) (inr k) f =
        let r = f k in
        let e : suc (place_of ys x) - 1 ≡ suc (place_of ys x - 1) = omega (arith, r.0) in
        rw p.1 (omega arith, omega (arith, r.1), rw e r.2)

pub in_at : (xs : List ℕ) (i : ℕ) → i < length xs → In (get_or xs i 0) xs
in_at [] i h = absurd (omega arith)
in_at (x ∷ xs) zero h = inl refl
in_at (x ∷ xs) (suc i) h = inr (in_at xs i (le_of_suc-le-suc h))

-- and what stands at a place has that place, where none stands twice
pub place_at : (xs : List ℕ) (i : ℕ) → NoDup xs → i < length xs → place_of xs (get_or xs i 0) ≡ suc i
place_at [] i u h = absurd (omega arith)
place_at (x ∷ xs) zero u h = go (place_cases xs x x)
  where
    go : ((x ≡ x) × (place_of (x ∷ xs) x ≡ 1)) ⊎ ((x ≢ x) × (place_of (x ∷ xs) x ≡ suc (place_of xs x))) → place_of (x ∷ xs) x ≡ 1
    go (inl p) = p.1
    go (inr p) = absurd (p.0 refl)
place_at (x ∷ xs) (suc i) u h = go (place_cases xs (get_or xs i 0) x) (place_at xs i u.1 (le_of_suc-le-suc h))
  where
    go : ((get_or xs i 0 ≡ x) × (place_of (x ∷ xs) (get_or xs i 0) ≡ 1)) ⊎ ((get_or xs i 0 ≢ x) × (place_of (x ∷ xs) (get_or xs i 0) ≡ suc (place_of xs (get_or xs i 0))))
        → place_of xs (get_or xs i 0) ≡ suc i → place_of (x ∷ xs) (get_or xs i 0) ≡ suc (suc i)
    go (inl p) r = absurd (all-at (λ y. x ≢ y) (get_or xs i 0) xs u.0 (in_at xs i (le_of_suc-le-suc h)) (sym p.0))
    go (inr p) r = p.1 ∙ ap suc r

-- ---- a column that ends: `f` from 1 to `n`, and 0 elsewhere

unfoldable pub upto : ℕ → (ℕ → ℕ) → ℕ → ℕ
upto n f zero = 0
upto n f (suc t) = choose (dec_lt t n) (f (suc t)) 0

pub upto_in : (n : ℕ) (f : ℕ → ℕ) (t : ℕ) → 0 < t → t ≤ n → upto n f t ≡ f t
unfolding upto
upto_in n f zero lo hi = absurd (omega arith)
upto_in n f (suc t) lo hi = go (dec_lt t n)
  where
    go : (d : Dec (t < n)) → choose d (f (suc t)) 0 ≡ f (suc t)
    go (yes l) = refl
    go (no l) = absurd (l hi)

pub upto_out : (n : ℕ) (f : ℕ → ℕ) (t : ℕ) → n < t → upto n f t ≡ 0
unfolding upto
upto_out n f zero h = refl
upto_out n f (suc t) h = go (dec_lt t n)
  where
    go : (d : Dec (t < n)) → choose d (f (suc t)) 0 ≡ 0
    go (yes l) = absurd (omega arith)
    go (no l) = refl

pub upto_none : (n : ℕ) (f : ℕ → ℕ) → upto n f 0 ≡ 0
unfolding upto
upto_none n f = refl

-- a column with these values is that column
pub upto_is : (n : ℕ) (f col : ℕ → ℕ) → col 0 ≡ 0 → ((u : ℕ) → u < n → col (suc u) ≡ f (suc u)) → ((u : ℕ) → n ≤ u → col (suc u) ≡ 0) → col ≡ upto n f
upto_is n f col z h k = fun_ext go
  where
    one : (u : ℕ) → Dec (u < n) → col (suc u) ≡ upto n f (suc u)
    one u (yes l) = h u l ∙ sym (upto_in n f (suc u) (omega arith) l)
    one u (no l) = k u (omega arith) ∙ sym (upto_out n f (suc u) (omega arith))

    go : (s : ℕ) → col s ≡ upto n f s
    go zero = z ∙ sym (upto_none n f)
    go (suc u) = one u (dec_lt u n)

-- where it is not 0
pub upto_live : (n : ℕ) (f : ℕ → ℕ) (t : ℕ) → upto n f t ≢ 0 → (0 < t) × (t ≤ n)
upto_live n f zero h = absurd (h (upto_none n f))
upto_live n f (suc t) h = go (dec_lt n (suc t))
  where
    go : Dec (n < suc t) → (0 < suc t) × (suc t ≤ n)
    go (yes l) = absurd (h (upto_out n f (suc t) l))
    go (no l) = (omega arith, omega arith)

-- one column is 0 only past `n`: then another is 0 there too
pub upto_zero : (n : ℕ) (f f' : ℕ → ℕ) → ((t : ℕ) → 0 < t → t ≤ n → f t ≢ 0) → (t : ℕ) → upto n f t ≡ 0 → upto n f' t ≡ 0
upto_zero n f f' h zero e = upto_none n f'
upto_zero n f f' h (suc t) e = go (dec_lt n (suc t))
  where
    go : Dec (n < suc t) → upto n f' (suc t) ≡ 0
    go (yes l) = upto_out n f' (suc t) l
    go (no l) = absurd (h (suc t) (omega arith) (omega arith) (sym (upto_in n f (suc t) (omega arith) (omega arith)) ∙ e))

pub upto_le : (n b : ℕ) (f : ℕ → ℕ) → ((t : ℕ) → f t ≤ b) → (t : ℕ) → upto n f t ≤ b
upto_le n b f h zero = rw (upto_none n f) (omega arith)
upto_le n b f h (suc t) = go (dec_lt n (suc t))
  where
    go : Dec (n < suc t) → upto n f (suc t) ≤ b
    go (yes l) = rw (upto_out n f (suc t) l) (omega arith)
    go (no l) = rw (upto_in n f (suc t) (omega arith) (omega arith)) (h (suc t))

-- ---- tables by their columns

-- two tables of whole slots with the same columns
pub cells_ext : (w n : ℕ) (t t' : List ℕ) → 0 < w → length t ≡ n * w → length t' ≡ n * w → ((f : ℕ) → f < w → cell w t f ≡ cell w t' f) → t ≡ t'
unfolding cell
cells_ext w n t t' pos l l' h =
    ext_get_or 0 t t' (l ∙ sym l') (λ i b.
    subst₂ (λ (a b : ℕ). get_or t a 0 ≡ get_or t' b 0) (div-add-mod' i w) (div-add-mod' i w) (ap (λ (col : ℕ → ℕ). col (suc (i / w))) (h (i % w) (mod-lt i pos))))

-- the rest of a table is zero
module _ (w n : ℕ) (t : List ℕ) (long : length t ≡ n * w) where
  pub padded-long : (m : ℕ) → n ≤ m → length (padded (m * w) t) ≡ m * w
  unfolding padded
  padded-long m l = rw (length-append, length-replicate) (omega (arith, long, mul-le-mul_right w l))

  pub padded-at : (room i f : ℕ) → f < w → i < n → get_or (padded room t) (i * w + f) 0 ≡ get_or t (i * w + f) 0
  unfolding padded
  padded-at room i f h l = get_or-append t (replicate (room - length t) 0) 0 (i * w + f) (rw long (omega (arith, mul-le-mul_right w l)))

  pub padded-past : (room j : ℕ) → n * w ≤ j → get_or (padded room t) j 0 ≡ 0
  unfolding padded
  padded-past room j l =
      let rest : List ℕ = replicate (room - length t) 0 in
      let e : length t + (j - n * w) ≡ j = omega (arith, long) in
      ap (λ (k : ℕ). get_or (t ++ rest) k 0) (sym e) ∙ get_or-append-add t rest (j - n * w) 0 ∙ get_d-zeros (room - length t) (j - n * w)

-- rows of one width, one for each of a list
module _ {A : Type 0} (d : A) (w : ℕ) (row : A → List ℕ) (wide : (x : A) → length (row x) ≡ w) where
  pub rows_long : (xs : List A) → length (flat (map row xs)) ≡ length xs * w
  rows_long [] = omega arith
  rows_long (x ∷ xs) = rw (length-append, wide x, rows_long xs) (omega arith)

  pub rows_at : (xs : List A) (i f : ℕ) → f < w → i < length xs → get_or (flat (map row xs)) (i * w + f) 0 ≡ get_or (row (get_or xs i d)) f 0
  rows_at [] i f h l = absurd (omega arith)
  rows_at (x ∷ xs) zero f h l =
      let e : zero * w + f ≡ f = omega arith in
      rw e (get_or-append (row x) (flat (map row xs)) 0 f (rw (wide x) h))
  rows_at (x ∷ xs) (suc i) f h l =
      let e : suc i * w + f ≡ length (row x) + (i * w + f) = omega (arith, wide x) in
      rw e (get_or-append-add (row x) (flat (map row xs)) (i * w + f) 0 ∙ rows_at xs i f h (omega arith))

module _ (w : ℕ) (row : ℕ → List ℕ) (wide : (x : ℕ) → length (row x) ≡ w) where
  pub length_rows : (xs : List ℕ) → length (flat (map row xs)) ≡ length xs * w
  length_rows = rows_long 0 w row wide

  pub get_d_rows : (xs : List ℕ) (i f : ℕ) → f < w → i < length xs → get_or (flat (map row xs)) (i * w + f) 0 ≡ get_or (row (get_or xs i 0)) f 0
  get_d_rows = rows_at 0 w row wide

  pub length-padded : (n : ℕ) (xs : List ℕ) → length xs ≤ n → length (padded (n * w) (flat (map row xs))) ≡ n * w
  length-padded n xs l = padded-long w (length xs) (flat (map row xs)) (length_rows xs) n l

  -- THE COLUMNS of a table written row by row
  pub cell-padded : (long : ℕ) (xs : List ℕ) (f : ℕ) → f < w → cell w (padded long (flat (map row xs))) f ≡ upto (length xs) (λ t. get_or (row (get_or xs (t - 1) 0)) f 0)
  unfolding cell
  cell-padded long xs f h = upto_is (length xs) (λ t. get_or (row (get_or xs (t - 1) 0)) f 0) (cell w (padded long (flat (map row xs))) f) refl inside past
    where
      inside : (u : ℕ) → u < length xs → cell w (padded long (flat (map row xs))) f (suc u) ≡ get_or (row (get_or xs (suc u - 1) 0)) f 0
      inside u l = let e : suc u - 1 ≡ u = omega arith in rw e (padded-at w (length xs) (flat (map row xs)) (length_rows xs) long u f h l ∙ get_d_rows xs u f h l)

      past : (u : ℕ) → length xs ≤ u → cell w (padded long (flat (map row xs))) f (suc u) ≡ 0
      past u l = padded-past w (length xs) (flat (map row xs)) (length_rows xs) long (u * w + f) (omega (arith, mul-le-mul_right w l))
