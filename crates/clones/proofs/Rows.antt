-- A slot copied, and a slot freed in the copy.
use mathlib.Core.Path.{◌≡◌, refl, sym, ap, ◌∙◌}
use mathlib.Core.Logic.{◌≢◌}
use mathlib.Core.List.{List}
use Prim.Native.Nat.{ℕ, zero, suc, ◌+◌, ◌*◌, ◌≤◌, ◌<◌}
use native.Mathlib.Nat.{mul-le-mul_right}
use native.Mathlib.Omega.{arith}
use native.Mathlib.Decide.{ℕ_discrete}
use lib.ListN.{length, get_or}
use Rattle.rules.specs.Tables.{cell, put}
use Rattle.rules.proofs.Laws.Columns.{put_elsewhere, upd_same, length-put, put-at, put_off, cell-none}
use Rattle.slots.specs.Asked.{Within}
use Rattle.copies.specs.Parts.{Zeroed}
use Rattle.clones.specs.Clones.{Cleared, CloneOne, free}

-- ---- the loops of `copy_row` and `clear_row`, with `i` fields written, each `value` of its own
pub record Rowing (w : ℕ) (t₀ : List ℕ) (b : ℕ) (value : ℕ → ℕ) (t : List ℕ) (i : ℕ) : Type 0 where
  pub long : length t ≡ length t₀
  pub there : (f : ℕ) → f < i → cell w t f b ≡ value f
  pub still : (f u : ℕ) → f < w → u ≢ b → cell w t f u ≡ cell w t₀ f u

pub rowing_start : (w : ℕ) (t : List ℕ) (b : ℕ) (value : ℕ → ℕ) → Rowing w t b value t 0
rowing_start w t b value = record { long = refl; there = λ f h. absurd (omega arith); still = λ f u h k. refl }

module _ (w : ℕ) (t₀ : List ℕ) (b : ℕ) (A : Within w t₀ b) (value : ℕ → ℕ) (t : List ℕ) (i : ℕ) (R : Rowing w t₀ b value t i) (l : i < w) where
  rowing_to : Within w t b
  rowing_to = record { some = A.some; inside = rw R.long A.inside }

  pub rowing_next : (t' : List ℕ) (v : ℕ) → v ≡ value i → t' ≡ put w t b i v → Rowing w t₀ b value t' (i + 1)
  rowing_next t' v e q = rw q (record {
    long = length-put w t b i v ∙ R.long;
    there = λ f h. there f h (ℕ_discrete f i);
    still = λ f u h n. put_elsewhere w t b i v f u l h rowing_to.some rowing_to.inside n ∙ R.still f u h n;
  })
    where
      there : (f : ℕ) → f < i + 1 → Dec (f ≡ i) → cell w (put w t b i v) f b ≡ value f
      there f h (yes z) = rw (z, put-at w t b i v l rowing_to.some rowing_to.inside) (upd_same (cell w t i) b v ∙ e)
      there f h (no z) = ap (λ (col : ℕ → ℕ). col b) (put_off w t b i v f l (omega arith) z) ∙ R.there f (omega arith)

-- ---- a part zeroed, by slots
pub cell_of : (w : ℕ) (t t' : List ℕ) (f u : ℕ) → get_or t' (u * w + f) 0 ≡ get_or t (u * w + f) 0 → cell w t' f (suc u) ≡ cell w t f (suc u)
unfolding cell
cell_of w t t' f u e = e

pub cell-zero : (w : ℕ) (t : List ℕ) (f u : ℕ) → get_or t (u * w + f) 0 ≡ 0 → cell w t f (suc u) ≡ 0
unfolding cell
cell-zero w t f u e = e

pub zeroed_slots : (w : ℕ) (t : List ℕ) (a b : ℕ) (t' : List ℕ) → Zeroed t (a * w) (b * w) t' → (f u : ℕ) → f < w → a ≤ u → u < b → cell w t' f (suc u) ≡ 0
zeroed_slots w t a b t' Z f u h lo hi = cell-zero w t' f u (Z.within (u * w + f) (omega (arith, mul-le-mul_right w lo)) (omega (arith, mul-le-mul_right w hi)))

pub zeroed_below : (w : ℕ) (t : List ℕ) (a b : ℕ) (t' : List ℕ) → Zeroed t (a * w) (b * w) t' → (f s : ℕ) → f < w → s ≤ a → cell w t' f s ≡ cell w t f s
zeroed_below w t a b t' Z f zero h l = cell-none w t' f ∙ sym (cell-none w t f)
zeroed_below w t a b t' Z f (suc u) h l = cell_of w t t' f u (Z.below (u * w + f) (omega (arith, mul-le-mul_right w l)))

pub zeroed_past : (w : ℕ) (t : List ℕ) (a b : ℕ) (t' : List ℕ) → Zeroed t (a * w) (b * w) t' → (f s : ℕ) → f < w → b < s → cell w t' f s ≡ cell w t f s
zeroed_past w t a b t' Z f zero h l = absurd (omega arith)
zeroed_past w t a b t' Z f (suc u) h l = let k : b ≤ u = omega arith in cell_of w t t' f u (Z.past (u * w + f) (omega (arith, mul-le-mul_right w k)))

-- ---- a free slot of the copy
pub clone_free : (w : ℕ) (t from : List ℕ) (used link s root : ℕ) (t₁ t₂ : List ℕ) → Within w t s → link < w → cell w from used s ≡ 0 → Cleared w t s t₁ → t₂ ≡ put w t₁ s link root → CloneOne w t from used link s root t₂ s
clone_free w t from used link s root t₁ t₂ W h e C q =
    rw q (free e (length-put w t₁ s link root ∙ C.long)
    (ap (λ (col : ℕ → ℕ). col s) (put-at w t₁ s link root h W.some fits) ∙ upd_same (cell w t₁ link) s root)
    (λ f i n. ap (λ (col : ℕ → ℕ). col s) (put_off w t₁ s link root f h i n) ∙ C.none f i)
    (λ f u i n. put_elsewhere w t₁ s link root f u h i W.some fits n ∙ C.still f u i n) refl)
  where
    fits : s * w ≤ length t₁
    fits = rw C.long W.inside
