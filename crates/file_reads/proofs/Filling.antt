-- The loop over the frames of a run: what is stored, and what is left to store.
use Prim.Native.Nat.{ℕ, suc, ◌+◌, ◌*◌, ◌-◌, ◌≤◌, ◌<◌}
use mathlib.Core.Path.{◌≡◌, sym, ap, ◌∙◌, subst}
use mathlib.Core.List.{List, ◌++◌}
use native.Mathlib.Omega.{arith}
use lib.ListN.{length, drop}
use lib.Seq.{sets, length-sets, drop-drop}
use Rattle.rules.specs.Tables.{most_slots, frame_width, row}
use Rattle.rules.specs.Runs.{frame}
use Rattle.rules.specs.Bytes.{value}
use Rattle.rules.specs.RunFile.{StoredFrame, frame_length}
use Rattle.rules.specs.ReadFile.{before_in, after_in, read_frame, read_frames}
use Rattle.rules.proofs.Laws.Fixed.{each, each_step, frame_here, frames_here}
use Rattle.littles.proofs.Cells.{sets_append}

abbrev pub rows_from : List ℕ → (class a n i place : ℕ) → List ℕ
rows_from b c a n i place = read_frames c a n i (frames_here 1 (n - i) (drop place b))

pub record Filling (b : List ℕ) (at n c a : ℕ) (t₀ t : List ℕ) (i place : ℕ) : Type 0 where
  pub few : i ≤ n
  pub slots : a + n ≤ most_slots
  pub rows : (a + n) * frame_width ≤ length t
  pub room : place + (n - i) * frame_length 1 ≤ length b
  pub rest : sets t ((a + i) * frame_width) (rows_from b c a n i place) ≡ sets t₀ (a * frame_width) (rows_from b c a n 0 at)
  pub long : length t ≡ length t₀

module _ {b : List ℕ} {at n c a : ℕ} {t₀ t : List ℕ} {i place : ℕ} (f : Filling b at n c a t₀ t i place) where
  module _ (h : i < n) where
    pub filling_next : (p z pv nx : ℕ) (t₁ : List ℕ) → p ≡ value 8 (drop place b) → z ≡ value 4 (drop (place + 8) b) → pv ≡ before_in a n i → nx ≡ after_in a n i
        → t₁ ≡ row frame_width t (a + i + 1) (frame 1 p c pv nx z) → Filling b at n c a t₀ t₁ (i + 1) (place + 12)
    unfolding read_frames frame_here row
    filling_next p z pv nx t₁ ep ez eb ea en =
        let s : StoredFrame = record { payload = p; size = z } in
        let one : a + i + 1 ≡ suc (a + i) = omega arith in
        let et : t₁ ≡ sets t ((a + i) * frame_width) (read_frame c a n i s) = en ∙ ap (λ (y : ℕ). row frame_width t y (frame 1 p c pv nx z)) one ∙ λ j. sets t ((a + i) * frame_width) (frame 1 p c (eb j) (ea j) z) in
        let is : s ≡ frame_here 1 (drop place b) = λ j. record { payload = ep j; size = (ez ∙ ap (value 4) (sym (drop-drop 8 place b))) j } in
        let m : n - i - 1 ≡ n - (i + 1) = omega arith in
        let d : i + 1 ≡ suc i = omega arith in
        let more : List ℕ = read_frames c a n (suc i) (frames_here 1 (n - (i + 1)) (drop (place + 12) b)) in
        let u : rows_from b c a n i place ≡ read_frame c a n i (frame_here 1 (drop place b)) ++ more = ap (read_frames c a n i) (each_step 12 (frame_here 1) (n - i) (drop place b) (omega arith)) ∙ rw (m, drop-drop 12 place b) in
        let k : (a + i) * frame_width + frame_width ≡ (a + (i + 1)) * frame_width = omega arith in
        let g : sets t₁ ((a + (i + 1)) * frame_width) more ≡ sets t ((a + i) * frame_width) (read_frame c a n i s ++ more) =
        ap (λ (y : ℕ). sets t₁ y more) (sym k) ∙ ap (λ (y : List ℕ). sets y ((a + i) * frame_width + frame_width) more) et ∙ sets_append t ((a + i) * frame_width) (read_frame c a n i s) more in
        let x : rows_from b c a n (i + 1) (place + 12) ≡ more = ap (λ (y : ℕ). read_frames c a n y (frames_here 1 (n - (i + 1)) (drop (place + 12) b))) d in
        let o : length t₁ ≡ length t = ap length et ∙ length-sets t ((a + i) * frame_width) (read_frame c a n i s) in
        record {
          few = omega arith;
          slots = f.slots;
          rows = omega (arith, f.rows, o);
          room = omega (arith, f.room);
          rest = ap (sets t₁ ((a + (i + 1)) * frame_width)) x ∙ g ∙ ap (λ (y : StoredFrame). sets t ((a + i) * frame_width) (read_frame c a n i y ++ more)) is ∙ ap (sets t ((a + i) * frame_width)) (sym u) ∙ f.rest;
          long = o ∙ f.long;
        }

  pub filling_last : n ≤ i → t ≡ sets t₀ (a * frame_width) (read_frames c a n 0 (frames_here 1 n (drop at b)))
  unfolding read_frames each
  filling_last h =
      let z : n - i ≡ 0 = omega arith in
      let whole : n - 0 ≡ n = omega arith in
      subst (λ (y : ℕ). sets t ((a + i) * frame_width) (read_frames c a n i (frames_here 1 y (drop place b))) ≡ sets t₀ (a * frame_width) (rows_from b c a n 0 at)) z f.rest
      ∙ ap (λ (y : ℕ). sets t₀ (a * frame_width) (read_frames c a n 0 (frames_here 1 y (drop at b)))) whole
