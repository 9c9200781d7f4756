-- Places that are written one after another: what is left gives the whole.
use Prim.Native.Nat.{ℕ, suc, ◌+◌, ◌*◌, ◌-◌, ◌≤◌}
use mathlib.Core.Path.{◌≡◌, sym, ap, ◌∙◌}
use mathlib.Core.List.{List, [], ◌∷◌, ◌++◌}
use native.Mathlib.Omega.{arith}
use native.Mathlib.Nat.{add-zero, add-suc, suc-add, add-mul}
use native.Mathlib.Numerals.{add-one}
use lib.ListN.{length, set, take, drop}
use lib.Seq.{sets, sets-eq, drop-drop}
use borrow.Rule.Slice.PartMut.{put_mid}
use Rattle.std.proofs.lemmas.List.{append_assoc}
use Rattle.rules.specs.Tables.{row}
use Rattle.slots.specs.Asked.{Within}

pub sets_append : (vs ws t : List ℕ) (i : ℕ) → sets t i (vs ++ ws) ≡ sets (sets t i vs) (i + length vs) ws
sets_append [] ws t i = rw add-zero
sets_append (v ∷ vs) ws t i = rw (add-suc, ← suc-add) (sets_append vs ws (set t i v) (suc i))

-- one place, of `w` numbers, after `i` of them
pub written_row : (w : ℕ) (t : List ℕ) (i : ℕ) (vs : List ℕ) → row w t (i + 1) vs ≡ sets t (i * w) vs
unfolding row
written_row w t i vs = rw add-one

-- the numbers of a place, copied over it
pub row_copied : (w : ℕ) (t : List ℕ) (place : ℕ) (vs : List ℕ) → length vs ≡ w → Within w t place → put_mid ((place - 1) * w) w t vs ≡ row w t place vs
row_copied w t place vs l h =
    let i = place - 1 in
    let p : i + 1 ≡ place = omega (arith, h.some) in
    let all : (i + 1) * w ≤ length t = rw p h.inside in
    let fits : i * w + length vs ≤ length t = omega (arith, l, all, add-mul i 1 w) in
    rw (sets-eq vs t (i * w) fits, l, drop-drop w (i * w) t) (sym (append_assoc (take (i * w) t) vs (drop (i * w + w) t))) ∙ sym (written_row w t i vs) ∙ ap (λ (k : ℕ). row w t k vs) p

pub written_more : (w : ℕ) (t : List ℕ) (i n : ℕ) (vs ws : List ℕ) → length vs ≡ n * w → sets (sets t (i * w) vs) ((i + n) * w) ws ≡ sets t (i * w) (vs ++ ws)
written_more w t i n vs ws e =
    let p : (i + n) * w ≡ i * w + length vs = omega (arith, e, add-mul i n w) in
    rw p (sym (sets_append vs ws t (i * w)))

pub written_next : (w : ℕ) (t : List ℕ) (i : ℕ) (vs ws : List ℕ) → length vs ≡ w → sets (row w t (i + 1) vs) ((i + 1) * w) ws ≡ sets t (i * w) (vs ++ ws)
written_next w t i vs ws e = rw (written_row w t i vs) (written_more w t i 1 vs ws (omega arith))

-- from the first place on: the rest of the buffer is as it was
pub written_all : (vs t : List ℕ) → length vs ≤ length t → sets t 0 vs ≡ vs ++ drop (length vs) t
written_all vs t h =
    let z : 0 + length vs ≡ length vs = omega arith in
    sets-eq vs t 0 (rw z h) ∙ rw z
