-- Zeros past the extent, slot by slot and place by place; a table that is wiped up to the extent is all zero.
use mathlib.Core.Path.{◌≡◌, refl, sym, subst, ◌∙◌}
use mathlib.Core.List.{List, ◌++◌}
use Prim.Native.Nat.{ℕ, zero, suc, ◌+◌, ◌*◌, ◌-◌, ◌/◌, ◌%◌, ◌≤◌, ◌<◌}
use native.Mathlib.Nat.{mul-le-mul_right, le_of_suc-le-suc, div-add-mod', mod-lt}
use native.Mathlib.Omega.{arith}
use native.Mathlib.Decide.{dec_lt}
use lib.ListN.{length, get_or, get_or-eq_default, drop, replicate, length-replicate, length-drop, replicate-append-replicate}
use lib.Seq.{ext_get_or, get_or-drop}
use Rattle.rules.specs.Tables.{cell, frame_width, header_width, State}
use Rattle.rules.specs.Calls.{Ready}
use Rattle.rules.proofs.Laws.Columns.{cell_out, get_d-zeros}
use Rattle.rules.proofs.Laws.Soundness.{shaped_of}

-- no slot past the extent holds anything
abbrev pub Empty : ℕ → List ℕ → ℕ → Type 0
Empty w t extent = (f s : ℕ) → f < w → extent < s → cell w t f s ≡ 0

-- nothing but zeros from a place on
abbrev pub ZerosFrom : List ℕ → ℕ → Type 0
ZerosFrom t from = (i : ℕ) → from ≤ i → get_or t i 0 ≡ 0

pub empty_of : (w : ℕ) (t : List ℕ) (extent : ℕ) → ZerosFrom t (extent * w) → Empty w t extent
unfolding cell
empty_of w t extent z f zero h l = refl
empty_of w t extent z f (suc s) h l = z (s * w + f) (omega (arith, mul-le-mul_right w (le_of_suc-le-suc l)))

pub zeros_of : (w : ℕ) (t : List ℕ) (extent : ℕ) → 0 < w → Empty w t extent → ZerosFrom t (extent * w)
unfolding cell
zeros_of w t extent pos z i h = subst (λ (k : ℕ). get_or t k 0 ≡ 0) (div-add-mod' i w) (z (i % w) (suc (i / w)) (mod-lt i pos) (go (dec_lt (i / w) extent)))
  where
    go : Dec (i / w < extent) → extent < suc (i / w)
    go (yes l) = absurd (omega (arith, mul-le-mul_right w l, div-add-mod' i w, mod-lt i pos))
    go (no l) = omega arith

-- what is zero from a place on is so many zeros
zeros-rest : (t : List ℕ) (from : ℕ) → ZerosFrom t from → drop from t ≡ replicate (length t - from) 0
zeros-rest t from z =
    ext_get_or 0 (drop from t) (replicate (length t - from) 0) (length-drop from t ∙ sym (length-replicate (length t - from) 0))
    (λ i b. get_or-drop from t i 0 ∙ z (from + i) (omega arith) ∙ sym (get_d-zeros (length t - from) i))

-- the places up to the extent wiped, a table is all zero
pub wiped_whole : (w : ℕ) (t : List ℕ) (capacity extent : ℕ) → length t ≡ capacity * w → extent ≤ capacity → ZerosFrom t (extent * w)
    → replicate (extent * w) 0 ++ drop (extent * w) t ≡ replicate (capacity * w) 0
wiped_whole w t capacity extent long within z =
    let e : extent * w + (length t - extent * w) ≡ capacity * w = omega (arith, mul-le-mul_right w within) in
    rw (zeros-rest t (extent * w) z, replicate-append-replicate, e) refl

-- from its end on, a table has nothing
pub zeros-end : (t : List ℕ) (from : ℕ) → length t ≤ from → ZerosFrom t from
zeros-end t from l i h = get_or-eq_default t 0 (omega arith)

-- Sound 6, of a whole table: past its capacity there is nothing
pub empty-past : (w : ℕ) (t : List ℕ) (capacity extent : ℕ) → length t ≡ capacity * w
    → ((s f : ℕ) → extent < s → s ≤ capacity → f < w → cell w t f s ≡ 0) → Empty w t extent
empty-past w t capacity extent long past f s h l = go (dec_lt capacity s)
  where
    go : Dec (capacity < s) → cell w t f s ≡ 0
    go (yes o) = cell_out w t f s capacity long o
    go (no i) = past s f l (omega arith) h

-- of a ready state: both tables are zero past their extents
pub past-elems : (st : State) → Ready st → ZerosFrom st.elems (st.head.elems.extent * frame_width)
past-elems st r =
    zeros_of frame_width st.elems st.head.elems.extent (omega arith)
    (empty-past frame_width st.elems st.head.elems.capacity st.head.elems.extent (shaped_of st r.shape).elems.long r.sound.zeros.past.0)

pub past-shared : (st : State) → Ready st → ZerosFrom st.shared (st.head.shared.extent * header_width)
past-shared st r =
    zeros_of header_width st.shared st.head.shared.extent (omega arith)
    (empty-past header_width st.shared st.head.shared.capacity st.head.shared.extent (shaped_of st r.shape).shared.long r.sound.zeros.past.1)
