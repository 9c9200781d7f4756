-- A ring copied to the scratch rows: the loop of `copy_ring`.
use mathlib.Core.Path.{◌≡◌, refl, sym, ap, ◌∙◌}
use mathlib.Core.Logic.{◌≢◌, ◌⊎◌, inl, inr}
use mathlib.Core.List.{List}
use Prim.Native.Nat.{ℕ, suc, ◌+◌, ◌≤◌, ◌<◌}
use native.Mathlib.Omega.{arith}
use native.Mathlib.Numerals.{add-one}
use native.Mathlib.Decide.{ℕ_discrete}
use lib.ListN.{length, get_or}
use Rattle.rules.specs.Notation.{steps}
use Rattle.rules.specs.Tables.{frame_width, frame_at, cell, put, row, generation_of, payload_of, class_of, next_of, bytes_of}
use Rattle.rules.specs.Runs.{frame}
use Rattle.rules.proofs.Laws.Columns.{upd, upd_at, upd_other, length-put, length-row, put-at, put_off, row_at}
use Rattle.rules.proofs.Laws.Steps.{steps-suc}
use Rattle.rules.specs.ReadFile.{before_in, after_in}
use Rattle.slots.specs.Asked.{Within}
use Rattle.copies.specs.Parts.{Holds, Copiable, copied_frame, Copied}

-- the loop, at the `suc i`-th frame
pub record Copying (e₀ sc₀ : List ℕ) (x a n g : ℕ) (e sc : List ℕ) (i at : ℕ) : Type 0 where
  pub copied : Copied e₀ sc₀ x a i n g e sc
  pub here : at ≡ steps (next_of e₀) i x

module _ (e₀ sc₀ : List ℕ) (x a n g : ℕ) (e sc : List ℕ) (i at : ℕ) (C : Copiable e₀ sc₀ x a n) (R : Copying e₀ sc₀ x a n g e sc i at) (l : i < n) where
  pub copying_at : Within frame_width e at
  copying_at = rw R.here (record { some = (C.slots i l).some; inside = rw R.copied.long (C.slots i l).inside })

  pub copying_row : Within frame_width sc (a + i + 1)
  copying_row = record { some = omega arith; inside = rw R.copied.wide (omega (arith, C.room)) }

  -- one more frame
  module _ (vs : List ℕ) (six : length vs ≡ frame_width) (same : vs ≡ copied_frame e₀ x a n g i) where
    new : List ℕ
    new = row frame_width sc (a + i + 1) vs

    abbrev old : List ℕ
    old = put frame_width e at frame_at.generation 0

    column : (f : ℕ) → f < frame_width → cell frame_width new f ≡ upd (cell frame_width sc f) (a + i + 1) (get_or vs f 0)
    unfolding new
    column f h = row_at frame_width sc vs six (a + i + 1) f h copying_row.some copying_row.inside

    gens : generation_of old ≡ upd (generation_of e) at 0
    gens = put-at frame_width e at frame_at.generation 0 (omega arith) copying_at.some copying_at.inside

    hit' : (j : ℕ) → j < suc i → Dec (steps (next_of e₀) j x ≡ at) → generation_of old (steps (next_of e₀) j x) ≡ 0
    hit' j h (yes z) = rw gens (upd_at (generation_of e) at 0 (steps (next_of e₀) j x) z)
    hit' j h (no z) =
        let y : j ≢ i = λ k. z (ap (λ (m : ℕ). steps (next_of e₀) m x) k ∙ sym R.here) in
        rw gens (upd_other (generation_of e) at 0 (steps (next_of e₀) j x) z ∙ R.copied.hit j (omega arith))

    frames' : (j : ℕ) → j < suc i → Dec (j ≡ i) → Holds frame_width new (suc (a + j)) (copied_frame e₀ x a n g j)
    frames' j h (yes z) f k =
        let s : suc (a + j) ≡ a + i + 1 = omega arith in
        rw (column f k) (upd_at (cell frame_width sc f) (a + i + 1) (get_or vs f 0) (suc (a + j)) s ∙ ap (λ (us : List ℕ). get_or us f 0) (same ∙ ap (λ (m : ℕ). copied_frame e₀ x a n g m) (sym z)))
    frames' j h (no z) f k = rw (column f k) (upd_other (cell frame_width sc f) (a + i + 1) (get_or vs f 0) (suc (a + j)) (omega arith) ∙ R.copied.frames j (omega arith) f k)

    still' : (f s : ℕ) → f < frame_width → (s ≤ a) ⊎ (a + suc i < s) → cell frame_width new f s ≡ cell frame_width sc₀ f s
    still' f s h (inl k) = rw (column f h) (upd_other (cell frame_width sc f) (a + i + 1) (get_or vs f 0) s (omega arith) ∙ R.copied.still f s h (inl k))
    still' f s h (inr k) = rw (column f h) (upd_other (cell frame_width sc f) (a + i + 1) (get_or vs f 0) s (omega arith) ∙ R.copied.still f s h (inr (omega arith)))

    next-copied : Copied e₀ sc₀ x a (suc i) n g old new
    unfolding new
    next-copied = record {
      long = length-put frame_width e at frame_at.generation 0 ∙ R.copied.long;
      others = λ f h k. put_off frame_width e at frame_at.generation 0 f (omega arith) h k ∙ R.copied.others f h k;
      hit = λ j h. hit' j h (ℕ_discrete (steps (next_of e₀) j x) at);
      miss = λ s h. rw gens (upd_other (generation_of e) at 0 s (λ q. h i (omega arith) (q ∙ R.here)) ∙ R.copied.miss s (λ j k. h j (omega arith)));
      frames = λ j h. frames' j h (ℕ_discrete j i);
      still = still';
      wide = length-row frame_width sc (a + i + 1) vs ∙ R.copied.wide;
    }

  pub copying_next : (e' sc' : List ℕ) (y c p q nx z : ℕ) → y ≡ payload_of e at → c ≡ class_of e at → nx ≡ next_of e at → z ≡ bytes_of e at → p ≡ before_in a n i → q ≡ after_in a n i
      → sc' ≡ row frame_width sc (a + i + 1) (frame g y c p q z) → e' ≡ put frame_width e at frame_at.generation 0 → Copying e₀ sc₀ x a n g e' sc' (i + 1) nx
  unfolding new
  copying_next e' sc' y c p q nx z ey ec en ez ep eq w v = record {
    copied = rw (w, v, add-one) (next-copied (frame g y c p q z) refl same);
    here = rw (en, add-one, steps-suc, R.copied.others frame_at.next (omega arith) (omega arith), R.here);
  }
    where
      same : frame g y c p q z ≡ copied_frame e₀ x a n g i
      same = rw (ey, ec, ez, ep, eq, R.copied.others frame_at.payload (omega arith) (omega arith), R.copied.others frame_at.class (omega arith) (omega arith), R.copied.others frame_at.size (omega arith) (omega arith), R.here)
