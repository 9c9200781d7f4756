-- One body: each way out of its check is what the rules read there.
use Rattle.std.specs.Prelude.{if◌then◌else◌, ◌==◌, None, Some}
use Prim.Native.Nat.{ℕ, zero, suc, ◌+◌, ◌*◌, ◌-◌, ◌≤◌, ◌<◌}
use mathlib.Core.Path.{◌≡◌, refl, sym, ap, ◌∙◌}
use mathlib.Core.Bool.{◌&&◌}
use mathlib.Core.List.{List}
use native.Mathlib.Omega.{arith}
use native.Mathlib.Nat.{mul-le-mul_left}
use borrow.Author.Tests.{le-leb, eq-eqb, ne_eqb}
use lib.ListN.{length, drop, length-drop}
use lib.Seq.{drop-drop}
use Rattle.rules.specs.Notation.{◌≤?◌}
use Rattle.rules.specs.Bytes.{return, reject, value}
use Rattle.rules.specs.RunFile.{total, frame_length, body}
use Rattle.rules.proofs.Laws.Fixed.{each-length, frame_here, frames_here, count_here, body_short, body-cut, body-told}
use Rattle.file_checks.specs.Said.{said_body}

pub product : (n w : ℕ) → w ≤ 16 → n * w ≤ n * 16
product n w h = mul-le-mul_left n h

nonzero : (n : ℕ) → (n ≡ 0 → ⊥) → 1 ≤ n
nonzero zero f = absurd (f refl)
nonzero (suc n) f = omega arith

module _ (v at : ℕ) (b : List ℕ) (h : at ≤ length b) where
  pub body_small : length b - at < 20 → None ≡ said_body v at (body v (drop at b))
  body_small l = rw (body_short v (drop at b) (omega (arith, length-drop at b)))

  pub body_over : (n : ℕ) → n ≡ value 4 (drop (at + 16) b) → 20 ≤ length b - at → length b - at - 20 < n * frame_length v → None ≡ said_body v at (body v (drop at b))
  body_over n e l k =
      let d : List ℕ = drop at b in
      let z : n ≡ count_here d = e ∙ rw (drop-drop 16 at b) in
      let y : n * frame_length v ≡ count_here d * frame_length v = ap (λ (m : ℕ). m * frame_length v) z in
      rw (body-cut v d (omega (arith, length-drop at b)) (omega (arith, length-drop at b)))

  module _ (n said : ℕ) (e : n ≡ value 4 (drop (at + 16) b)) (s : said ≡ value 8 (drop (at + 8) b)) (l : 20 ≤ length b - at) (k : n * frame_length v ≤ length b - at - 20) where
    count-here : count_here (drop at b) ≡ n
    count-here = rw (drop-drop 16 at b) (sym e)

    told : body v (drop at b) ≡ (if (1 ≤? n) && (said == total (frames_here v n (drop (at + 20) b))) then return (record { value = value 8 (drop at b); frames = frames_here v n (drop (at + 20) b) }) else reject) (drop (20 + n * frame_length v) (drop at b))
    told =
        let d : List ℕ = drop at b in
        let z : count_here d * frame_length v ≡ n * frame_length v = ap (λ (m : ℕ). m * frame_length v) count-here in
        body-told v d (omega (arith, length-drop at b)) ∙ rw (count-here, drop-drop 8 at b, drop-drop 20 at b, ← s)

    none : n ≡ 0 → None ≡ said_body v at (body v (drop at b))
    none z = rw (told, z)

    pub body_wrong : (t : ℕ) → t ≡ total (frames_here v n (drop (at + 20) b)) → (said ≡ t → ⊥) → (n ≡ 0 → ⊥) → None ≡ said_body v at (body v (drop at b))
    body_wrong t q f o = rw (told, ← q, le-leb 1 n (nonzero n o), ne_eqb said t f)

    pub body_right : (t : ℕ) → t ≡ total (frames_here v n (drop (at + 20) b)) → said ≡ t → (n ≡ 0 → ⊥) → Some (record { end = at + 20 + n * frame_length v; frames = n }) ≡ said_body v at (body v (drop at b))
    body_right t q f o =
        let ss = frames_here v n (drop (at + 20) b) in
        let len : length ss ≡ n = each-length (frame_length v) (frame_here v) n (drop (at + 20) b) in
        let z : at + 20 + n * frame_length v ≡ at + (20 + n * frame_length v) = omega arith in
        rw (told, le-leb 1 n (nonzero n o), eq-eqb said (total ss) (f ∙ q), len, z)

  pub body_none : (n said : ℕ) → n ≡ value 4 (drop (at + 16) b) → said ≡ value 8 (drop (at + 8) b) → 20 ≤ length b - at → n ≡ 0 → None ≡ said_body v at (body v (drop at b))
  body_none n said e s l z =
      let y : n * frame_length v ≡ 0 * frame_length v = ap (λ (m : ℕ). m * frame_length v) z in
      let x : 0 * frame_length v ≡ 0 = omega arith in
      none n said e s l (omega arith) z
