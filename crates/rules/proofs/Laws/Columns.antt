-- Columns, over any width: a field of a table is a function of the slot, and a store changes it at one slot.
use mathlib.Core.Path.{◌≡◌, refl, sym, ap, ◌∙◌, fun_ext}
use mathlib.Core.Logic.{◌≢◌}
use mathlib.Core.List.{List, [], ◌∷◌}
use Prim.Native.Nat.{ℕ, zero, suc, ◌+◌, ◌*◌, ◌-◌, ◌≤◌, ◌<◌}
use native.Mathlib.Nat.{mul-le-mul_right, le_of_suc-le-suc}
use native.Mathlib.Omega.{arith}
use native.Mathlib.Decide.{ℕ_discrete, dec_lt}
use mathlib.Core.Bool.{not}
use lib.Dec.{T, eqb, lit<, eqb_refl, T_not}
use lib.ListN.{length, get_or, set, length-set, get_or-eq_default, replicate, length-replicate, get_or-replicate}
use lib.Seq.{sets, length-sets, get_or-set_same, get_or-set_other}
use Rattle.rules.specs.Tables.{cell, put, row}

abbrev pub choose : {A : Type 0} → Dec A → ℕ → ℕ → ℕ
choose (yes e) v u = v
choose (no e) v u = u

-- slot 0 holds nothing
pub cell-none : (w : ℕ) (t : List ℕ) (f : ℕ) → cell w t f 0 ≡ 0
unfolding cell
cell-none w t f = refl

-- `f` with `v` at `a`
unfoldable pub upd : (ℕ → ℕ) → ℕ → ℕ → ℕ → ℕ
upd f a v s = choose (ℕ_discrete s a) v (f s)

pub upd_same : (f : ℕ → ℕ) (a v : ℕ) → upd f a v a ≡ v
unfolding upd
upd_same f a v = go (ℕ_discrete a a)
  where
    go : (d : Dec (a ≡ a)) → choose d v (f a) ≡ v
    go (yes e) = refl
    go (no e) = absurd (e refl)

pub upd_at : (f : ℕ → ℕ) (a v s : ℕ) → s ≡ a → upd f a v s ≡ v
upd_at f a v s e = rw e (upd_same f a v)

pub upd_other : (f : ℕ → ℕ) (a v s : ℕ) → s ≢ a → upd f a v s ≡ f s
unfolding upd
upd_other f a v s h = go (ℕ_discrete s a)
  where
    go : (d : Dec (s ≡ a)) → choose d v (f s) ≡ f s
    go (yes e) = absurd (h e)
    go (no e) = refl

-- a function that has `v` at `a` and is `f` elsewhere is `upd f a v`
pub upd_is : (f g : ℕ → ℕ) (a v : ℕ) → g a ≡ v → ((s : ℕ) → s ≢ a → g s ≡ f s) → g ≡ upd f a v
upd_is f g a v same other = fun_ext λ s. go s (ℕ_discrete s a)
  where
    go : (s : ℕ) → Dec (s ≡ a) → g s ≡ upd f a v s
    go s (yes e) = rw e (same ∙ sym (upd_same f a v))
    go s (no e) = other s e ∙ sym (upd_other f a v s e)

-- `x` is passed over: it becomes `y`
unfoldable pub skip : ℕ → ℕ → ℕ → ℕ
skip x y = upd (λ z. z) x y

pub skip-here : (x y : ℕ) → skip x y x ≡ y
unfolding skip
skip-here x y = upd_same (λ z. z) x y

pub skip-past : (x y z : ℕ) → z ≢ x → skip x y z ≡ z
unfolding skip
skip-past x y z e = upd_other (λ k. k) x y z e

-- two places of a table
apart : (w s s' f f' : ℕ) → f < w → s < s' → s * w + f < s' * w + f'
apart w s s' f f' h l = omega (arith, mul-le-mul_right w l)

pub place-slot : (w s s' f f' : ℕ) → f < w → f' < w → s ≢ s' → s * w + f ≢ s' * w + f'
place-slot w s s' f f' h h' n = go (dec_lt s s')
  where
    go : Dec (s < s') → s * w + f ≢ s' * w + f'
    go (yes l) = omega (arith, apart w s s' f f' h l)
    go (no l) = omega (arith, apart w s' s f' f h' (omega arith))

pub place-field : (w s f f' : ℕ) → f ≢ f' → s * w + f ≢ s * w + f'
place-field w s f f' n = omega arith

module _ (w : ℕ) (t : List ℕ) where
  pub length-put : (a f v : ℕ) → length (put w t a f v) ≡ length t
  unfolding put
  length-put zero f v = refl
  length-put (suc a) f v = length-set t (a * w + f) v

  pub length-row : (a : ℕ) (vs : List ℕ) → length (row w t a vs) ≡ length t
  unfolding row
  length-row zero vs = refl
  length-row (suc a) vs = length-sets t (a * w) vs

  in_range : (a f : ℕ) → f < w → suc a * w ≤ length t → a * w + f < length t
  in_range a f h fits = omega arith

  put_same : (a f v : ℕ) → f < w → suc a * w ≤ length t → cell w (put w t (suc a) f v) f (suc a) ≡ v
  unfolding cell put
  put_same a f v h fits = get_or-set_same t (a * w + f) v 0 (in_range a f h fits)

  put-apart : (a f v g s : ℕ) → f < w → g < w → s ≢ suc a → cell w (put w t (suc a) f v) g s ≡ cell w t g s
  unfolding cell put
  put-apart a f v g zero h k n = refl
  put-apart a f v g (suc s) h k n = get_or-set_other t (a * w + f) (s * w + g) v 0 (place-slot w s a g f k h (omega arith))

  put-beside : (a f v g s : ℕ) → f < w → g < w → g ≢ f → cell w (put w t (suc a) f v) g s ≡ cell w t g s
  unfolding cell put
  put-beside a f v g zero h k n = refl
  put-beside a f v g (suc s) h k n = go (ℕ_discrete s a)
    where
      go : Dec (s ≡ a) → get_or (set t (a * w + f) v) (s * w + g) 0 ≡ get_or t (s * w + g) 0
      go (yes e) = get_or-set_other t (a * w + f) (s * w + g) v 0 (rw e (place-field w a g f n))
      go (no e) = get_or-set_other t (a * w + f) (s * w + g) v 0 (place-slot w s a g f k h e)

  -- THE LAWS of a store
  pub put-at : (a f v : ℕ) → f < w → 0 < a → a * w ≤ length t → cell w (put w t a f v) f ≡ upd (cell w t f) a v
  put-at zero f v h pos fits = absurd (omega arith)
  put-at (suc a) f v h pos fits = upd_is (cell w t f) (cell w (put w t (suc a) f v) f) (suc a) v (put_same a f v h fits) (λ s n. put-apart a f v f s h h n)

  pub put_off : (a f v g : ℕ) → f < w → g < w → g ≢ f → cell w (put w t a f v) g ≡ cell w t g
  unfolding put
  put_off zero f v g h k n = refl
  put_off (suc a) f v g h k n = fun_ext λ s. put-beside a f v g s h k n

-- another slot does not change
pub put_elsewhere : (w : ℕ) (t : List ℕ) (a f v g s : ℕ) → f < w → g < w → 0 < a → a * w ≤ length t → s ≢ a → cell w (put w t a f v) g s ≡ cell w t g s
put_elsewhere w t a f v g s h k pos fits n = go (ℕ_discrete g f)
  where
    go : Dec (g ≡ f) → cell w (put w t a f v) g s ≡ cell w t g s
    go (yes e) = rw (e, put-at w t a f v h pos fits) (upd_other (cell w t f) a v s n)
    go (no e) = ap (λ (col : ℕ → ℕ). col s) (put_off w t a f v g h k e)

-- a run of stores
get_d-sets_out : (vs t : List ℕ) (i j : ℕ) → ((d : ℕ) → d < length vs → j ≢ i + d) → get_or (sets t i vs) j 0 ≡ get_or t j 0
get_d-sets_out [] t i j h = refl
get_d-sets_out (v ∷ vs) t i j h =
    get_d-sets_out vs (set t i v) (suc i) j (λ d l. omega (arith, h (suc d) (omega arith))) ∙ get_or-set_other t i j v 0 (omega (arith, h 0 (omega arith)))

get_d-sets_in : (vs t : List ℕ) (i j f : ℕ) → j ≡ i + f → f < length vs → j < length t → get_or (sets t i vs) j 0 ≡ get_or vs f 0
get_d-sets_in [] t i j f e h fits = absurd (omega arith)
get_d-sets_in (v ∷ vs) t i j zero e h fits =
    let e' : j ≡ i = omega arith in
    get_d-sets_out vs (set t i v) (suc i) j (λ d l. omega arith) ∙ rw e' (get_or-set_same t i v 0 (omega arith))
get_d-sets_in (v ∷ vs) t i j (suc f) e h fits = get_d-sets_in vs (set t i v) (suc i) j f (omega arith) (omega arith) (rw length-set fits)

module _ (w : ℕ) (t vs : List ℕ) (wide : length vs ≡ w) where
  row_in : (a f : ℕ) → f < w → suc a * w ≤ length t → cell w (row w t (suc a) vs) f (suc a) ≡ get_or vs f 0
  unfolding cell row
  row_in a f h fits = get_d-sets_in vs t (a * w) (a * w + f) f (omega arith) (omega arith) (omega arith)

  row_out : (a f s : ℕ) → f < w → s ≢ suc a → cell w (row w t (suc a) vs) f s ≡ cell w t f s
  unfolding cell row
  row_out a f zero h n = refl
  row_out a f (suc s) h n = get_d-sets_out vs t (a * w) (s * w + f) (λ d l. omega (arith, place-slot w s a f d h (omega arith) (omega arith)))

  -- THE LAW of a slot written whole
  pub row_at : (a f : ℕ) → f < w → 0 < a → a * w ≤ length t → cell w (row w t a vs) f ≡ upd (cell w t f) a (get_or vs f 0)
  row_at zero f h pos fits = absurd (omega arith)
  row_at (suc a) f h pos fits = upd_is (cell w t f) (cell w (row w t (suc a) vs) f) (suc a) (get_or vs f 0) (row_in a f h fits) (λ s n. row_out a f s h n)

pub lit≢ : {m n : ℕ} → T (not (eqb m n)) → m ≢ n
lit≢ {m} {n} t e = T_not (eqb m n) t (rw e (eqb_refl n))

-- `search cols` proves what a column is after stores at fields that are numerals
pub ruleset cols = (put_off, put-at, row_at, length-put, length-row, lit<, lit≢)

-- past the table there is nothing
pub cell_out : (w : ℕ) (t : List ℕ) (f s capacity : ℕ) → length t ≡ capacity * w → capacity < s → cell w t f s ≡ 0
unfolding cell
cell_out w t f zero capacity e h = refl
cell_out w t f (suc s) capacity e h = get_or-eq_default t 0 (omega (arith, mul-le-mul_right w (le_of_suc-le-suc h)))

-- nor is there in a table of zeros
pub get_d-zeros : (n i : ℕ) → get_or {A = ℕ} (replicate n 0) i 0 ≡ 0
get_d-zeros n i = go (dec_lt i n)
  where
    go : Dec (i < n) → get_or {A = ℕ} (replicate n 0) i 0 ≡ 0
    go (yes l) = get_or-replicate n i 0 0 l
    go (no l) = get_or-eq_default (replicate n 0) 0 (rw length-replicate (omega arith))

pub cell-zeros : (w n f s : ℕ) → cell w (replicate n 0) f s ≡ 0
unfolding cell
cell-zeros w n f zero = refl
cell-zeros w n f (suc s) = get_d-zeros n (s * w + f)

-- where the code finds a field
pub cell_index : (w : ℕ) (t : List ℕ) (f s : ℕ) → 0 < s → cell w t f s ≡ get_or t ((s - 1) * w + f) 0
unfolding cell
cell_index w t f zero h = absurd (omega arith)
cell_index w t f (suc s) h = let e : suc s - 1 ≡ s = omega arith in rw e

pub put_index : (w : ℕ) (t : List ℕ) (s f v : ℕ) → 0 < s → put w t s f v ≡ set t ((s - 1) * w + f) v
unfolding put
put_index w t zero f v h = absurd (omega arith)
put_index w t (suc s) f v h = let e : suc s - 1 ≡ s = omega arith in rw e
