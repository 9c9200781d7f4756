-- A lent buffer in which rows are written from its start: the rows, and the rest as it was.
use mathlib.Core.Path.{◌≡◌, refl, sym, ap, ◌∙◌}
use mathlib.Core.List.{List, ◌++◌, map}
use Prim.Native.Nat.{ℕ, suc, ◌+◌, ◌*◌, ◌-◌, ◌/◌, ◌%◌, ◌≤◌, ◌<◌}
use native.Mathlib.Nat.{div-add-mod', mod-lt, mul-le-mul_right}
use native.Mathlib.Omega.{arith}
use native.Mathlib.Decide.{dec_lt}
use lib.ListN.{length, get_or, drop, length-append, length-drop, get_or-append}
use lib.Seq.{ext_get_or, get_or-append-add, get_or-drop}
use Rattle.rules.specs.Notation.{flat}
use Rattle.rules.specs.Tables.{cell}
use Rattle.rules.proofs.Laws.Places.{length_rows, get_d_rows}

cell_get_d : (w : ℕ) (t : List ℕ) (f u : ℕ) → cell w t f (suc u) ≡ get_or t (u * w + f) 0
unfolding cell
cell_get_d w t f u = refl

module _ (w : ℕ) (row : ℕ → List ℕ) (wide : (x : ℕ) → length (row x) ≡ w) (pos : 0 < w) (xs t t' : List ℕ) (long : length t' ≡ length t) (room : length xs * w ≤ length t)
    (there : (u f : ℕ) → u < length xs → f < w → cell w t' f (suc u) ≡ get_or (row (get_or xs u 0)) f 0)
    (past : (f s : ℕ) → f < w → length xs < s → cell w t' f s ≡ cell w t f s) where
  abbrev ys : List ℕ
  ys = flat (map row xs)

  -- a number of the buffer, by row and field
  at : (j : ℕ) → Dec (j / w < length xs) → get_or t' j 0 ≡ get_or (ys ++ drop (length ys) t) j 0
  at j (yes l) =
      let q : j / w * w + j % w ≡ j = div-add-mod' j w in
      let m : j % w < w = mod-lt j pos in
      let b : j < length ys = rw (length_rows w row wide xs) (omega (arith, mul-le-mul_right w l)) in
      rw q at (sym (cell_get_d w t' (j % w) (j / w)) ∙ there (j / w) (j % w) l m ∙ sym (get_d_rows w row wide xs (j / w) (j % w) m l))
      ∙ sym (get_or-append ys (drop (length ys) t) 0 j b)
  at j (no l) =
      let q : j / w * w + j % w ≡ j = div-add-mod' j w in
      let k : length xs ≤ j / w = omega arith in
      let n : length ys ≤ j = rw (length_rows w row wide xs) (omega (arith, mul-le-mul_right w k)) in
      let y : length ys + (j - length ys) ≡ j = omega arith in
      rw q at (sym (cell_get_d w t' (j % w) (j / w)) ∙ past (j % w) (suc (j / w)) (mod-lt j pos) (omega arith) ∙ cell_get_d w t (j % w) (j / w))
      ∙ sym (ap (λ (i : ℕ). get_or (ys ++ drop (length ys) t) i 0) (sym y) ∙ get_or-append-add ys (drop (length ys) t) (j - length ys) 0 ∙ get_or-drop (length ys) t (j - length ys) 0 ∙ ap (λ (i : ℕ). get_or t i 0) y)

  pub rows_then : t' ≡ flat (map row xs) ++ drop (length (flat (map row xs))) t
  rows_then = ext_get_or 0 t' (ys ++ drop (length ys) t) (long ∙ rw (length-append, length-drop) (omega (arith, length_rows w row wide xs))) (λ j b. at j (dec_lt (j / w) (length xs)))
