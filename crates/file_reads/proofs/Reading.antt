-- The loop over the runs: what is stored, and what is left to store.
use Prim.Native.Nat.{ℕ, suc, ◌+◌, ◌*◌, ◌≤◌, ◌<◌}
use mathlib.Core.Path.{◌≡◌, sym, ap, ◌∙◌, subst}
use mathlib.Core.List.{List, [], ◌∷◌, map}
use native.Mathlib.Omega.{arith}
use lib.ListN.{length, drop}
use lib.Seq.{sets, length-sets}
use Rattle.rules.specs.Notation.{flat}
use Rattle.rules.specs.Tables.{most_slots, frame_width, header_width, row}
use Rattle.rules.specs.Bytes.{value}
use Rattle.rules.specs.RunFile.{StoredRun, total, frame_length, body_length, frame_count}
use Rattle.rules.specs.ReadFile.{read_frames, read_header, read_runs}
use Rattle.rules.proofs.Laws.Fixed.{frames_here}
use Rattle.rules.proofs.Laws.ReadCells.{frames-long}
use Rattle.littles.proofs.Cells.{sets_append}
use Rattle.file_reads.specs.Fills.{Stands, Standing}

-- both tables, with the runs `left` to come: the next header is the `suc k`-th, the next frame goes past the `a`-th slot
pub record Reading (b e₀ s₀ e s : List ℕ) (all : List StoredRun) (at k a : ℕ) (left : List StoredRun) : Type 0 where
  pub standing : Standing b at left
  pub runs : k + length left ≡ length all
  pub frames : a + frame_count left ≡ frame_count all
  pub elems : sets e (a * frame_width) (read_runs (suc k) a left) ≡ sets e₀ 0 (read_runs 1 0 all)
  pub shared : sets s (k * header_width) (flat (map read_header left)) ≡ sets s₀ 0 (flat (map read_header all))
  pub elems-long : length e ≡ length e₀
  pub shared_long : length s ≡ length s₀
  pub elems-room : frame_count all * frame_width ≤ length e₀
  pub shared-room : length all * header_width ≤ length s₀
  pub frames-few : frame_count all ≤ most_slots
  pub runs-few : length all ≤ most_slots
  pub within : at ≤ length b

pub record Left (b e₀ s₀ e s : List ℕ) (all : List StoredRun) (at k a : ℕ) : Type 0 where
  pub left : List StoredRun
  pub reading : Reading b e₀ s₀ e s all at k a left

-- the next run, while one is left
pub record Comes (b e₀ s₀ e s : List ℕ) (all : List StoredRun) (at k a : ℕ) : Type 0 where
  pub run : StoredRun
  pub more : List StoredRun
  pub reading : Reading b e₀ s₀ e s all at k a (run ∷ more)

pub comes : {b e₀ s₀ e s : List ℕ} {all : List StoredRun} {at k a : ℕ} → Left b e₀ s₀ e s all at k a → k < length all → Comes b e₀ s₀ e s all at k a
comes {b} {e₀} {s₀} {e} {s} {all} {at} {k} {a} L h = go L.left L.reading
  where
    go : (left : List StoredRun) → Reading b e₀ s₀ e s all at k a left → Comes b e₀ s₀ e s all at k a
    go [] R = absurd (omega (arith, R.runs))
    go (r ∷ rs) R = record { run = r; more = rs; reading = R }

module _ {b e₀ s₀ e s : List ℕ} {all : List StoredRun} {at k a : ℕ} (C : Comes b e₀ s₀ e s all at k a) where
  abbrev r : StoredRun
  r = C.run

  abbrev R : Reading b e₀ s₀ e s all at k a (C.run ∷ C.more)
  R = C.reading

  pub run_room : at + 20 + length C.run.frames * frame_length 1 ≤ length b
  run_room = omega (arith, R.standing.0.within)

  pub run-slots : a + length C.run.frames ≤ most_slots
  run-slots = omega (arith, R.frames, R.frames-few)

  pub run_rows : (a + length C.run.frames) * frame_width ≤ length e
  run_rows = omega (arith, R.frames, R.elems-room, R.elems-long)

  pub reading_next : (v z n : ℕ) (e₁ s₁ : List ℕ) → v ≡ value 8 (drop at b) → z ≡ value 8 (drop (at + 8) b) → n ≡ value 4 (drop (at + 16) b)
      → s₁ ≡ row header_width s (k + 1) (n ∷ v ∷ 0 ∷ 0 ∷ z ∷ []) → e₁ ≡ sets e (a * frame_width) (read_frames (k + 1) a n 0 (frames_here 1 n (drop (at + 20) b)))
      → Left b e₀ s₀ e₁ s₁ all (at + 20 + n * 12) (k + 1) (a + n)
  unfolding read_runs row
  reading_next v z n e₁ s₁ ev ez en es ee =
      let S : Stands b at r = R.standing.0 in
      let m : ℕ = length r.frames in
      let iv : v ≡ r.value = ev ∙ S.first in
      let iz : z ≡ total r.frames = ez ∙ S.summed in
      let im : n ≡ m = en ∙ S.count in
      let k₁ : k + 1 ≡ suc k = omega arith in
      let at₁ : at + body_length 1 r ≡ at + 20 + n * 12 = omega (arith, im) in
      let fs : frames_here 1 n (drop (at + 20) b) ≡ r.frames = ap (λ (x : ℕ). frames_here 1 x (drop (at + 20) b)) im ∙ S.frames in
      let rows : List ℕ = read_frames (suc k) a m 0 r.frames in
      let later : List ℕ = read_runs (suc (suc k)) (a + m) C.more in
      let ee' : e₁ ≡ sets e (a * frame_width) rows = ee ∙ λ j. sets e (a * frame_width) (read_frames (k₁ j) a (im j) 0 (fs j)) in
      let es' : s₁ ≡ sets s (k * header_width) (read_header r) = es ∙ ap (λ (y : ℕ). row header_width s y (n ∷ v ∷ 0 ∷ 0 ∷ z ∷ [])) k₁ ∙ λ j. sets s (k * header_width) (im j ∷ iv j ∷ 0 ∷ 0 ∷ iz j ∷ []) in
      let q : a * frame_width + length rows ≡ (a + m) * frame_width = omega (arith, frames-long (suc k) a m 0 r.frames) in
      let p : k * header_width + length (read_header r) ≡ suc k * header_width = omega arith in
      let E : sets e₁ ((a + m) * frame_width) later ≡ sets e₀ 0 (read_runs 1 0 all) =
      ap (λ (y : ℕ). sets e₁ y later) (sym q) ∙ ap (λ (y : List ℕ). sets y (a * frame_width + length rows) later) ee' ∙ sets_append e (a * frame_width) rows later ∙ R.elems in
      let H : sets s₁ (suc k * header_width) (flat (map read_header C.more)) ≡ sets s₀ 0 (flat (map read_header all)) =
      ap (λ (y : ℕ). sets s₁ y (flat (map read_header C.more))) (sym p) ∙ ap (λ (y : List ℕ). sets y (k * header_width + length (read_header r)) (flat (map read_header C.more))) es' ∙ sets_append s (k * header_width) (read_header r) (flat (map read_header C.more)) ∙ R.shared in
      record {
        left = C.more;
        reading = record {
          standing = subst (λ (x : ℕ). Standing b x C.more) at₁ R.standing.1;
          runs = omega (arith, R.runs);
          frames = omega (arith, R.frames, im);
          elems = (λ j. sets e₁ ((a + im j) * frame_width) (read_runs (suc (k₁ j)) (a + im j) C.more)) ∙ E;
          shared = ap (λ (y : ℕ). sets s₁ (y * header_width) (flat (map read_header C.more))) k₁ ∙ H;
          elems-long = ap length ee' ∙ length-sets e (a * frame_width) rows ∙ R.elems-long;
          shared_long = ap length es' ∙ length-sets s (k * header_width) (read_header r) ∙ R.shared_long;
          elems-room = R.elems-room;
          shared-room = R.shared-room;
          frames-few = R.frames-few;
          runs-few = R.runs-few;
          within = omega (arith, S.within, at₁);
        };
      }

pub reading_last : {b e₀ s₀ e s : List ℕ} {all : List StoredRun} {at k a : ℕ} → Left b e₀ s₀ e s all at k a → length all ≤ k → (e ≡ sets e₀ 0 (read_runs 1 0 all)) × (s ≡ sets s₀ 0 (flat (map read_header all)))
unfolding read_runs
reading_last {b} {e₀} {s₀} {e} {s} {all} {at} {k} {a} L h = go L.left L.reading
  where
    go : (left : List StoredRun) → Reading b e₀ s₀ e s all at k a left → (e ≡ sets e₀ 0 (read_runs 1 0 all)) × (s ≡ sets s₀ 0 (flat (map read_header all)))
    go [] R = (R.elems, R.shared)
    go (r ∷ rs) R = absurd (omega (arith, R.runs))
