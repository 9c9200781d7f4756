-- The loop over the frames of a body: what is summed.
use Prim.Native.Nat.{ℕ, zero, suc, ◌+◌, ◌*◌}
use mathlib.Core.Path.{◌≡◌, refl, ap, ◌∙◌}
use mathlib.Core.List.{List}
use native.Mathlib.Omega.{arith}
use native.Mathlib.Nat.{suc-mul}
use lib.ListN.{drop}
use lib.Seq.{drop-drop}
use Rattle.rules.specs.Bytes.{value}
use Rattle.rules.specs.RunFile.{total, frame_length}
use Rattle.rules.proofs.Laws.Fixed.{each, frame_here, frames_here}

total_last : (v n : ℕ) (b : List ℕ) → total (frames_here v (suc n) b) ≡ total (frames_here v n b) + value 4 (drop (n * frame_length v + 8) b)
unfolding each frame_here
total_last v zero b = omega arith
total_last v (suc n) b =
    let w = frame_length v in
    let p : drop (n * w + 8) (drop w b) ≡ drop (suc n * w + 8) b = drop-drop (n * w + 8) w b ∙ ap (λ (k : ℕ). drop k b) (omega (arith, suc-mul n w)) in
    omega (arith, total_last v n (drop w b), ap (value 4) p)

pub total_more : (b : List ℕ) (at i : ℕ) → total (frames_here 1 (i + 1) (drop at b)) ≡ total (frames_here 1 i (drop at b)) + value 4 (drop (at + i * 12 + 8) b)
total_more b at i =
    let n : i + 1 ≡ suc i = omega arith in
    let p : drop (i * 12 + 8) (drop at b) ≡ drop (at + i * 12 + 8) b = drop-drop (i * 12 + 8) at b ∙ ap (λ (k : ℕ). drop k b) (omega arith) in
    rw (n, ← p) (total_last 1 i (drop at b))

pub total_none : (b : List ℕ) (at : ℕ) → 0 ≡ total (frames_here 1 0 (drop at b))
unfolding each
total_none b at = refl
