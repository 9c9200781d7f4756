-- Numbers as the library reads and writes their bytes, at a place of a list of bytes.
use Prim.Native.Nat.{ℕ, zero, suc, ◌+◌, ◌*◌, ◌/◌, ◌%◌, ◌^◌, ◌≤◌, ◌<◌}
use mathlib.Core.Path.{◌≡◌, refl, sym, ap, ◌∙◌}
use mathlib.Core.List.{List, [], ◌∷◌, ◌++◌, append_assoc}
use native.Mathlib.Omega.{arith}
use native.Mathlib.Nat.{div-div-eq-div-mul, pow-suc, mul_assoc, mul_comm}
use lib.ListN.{length, take, drop, get_or, replicate, set}
use lib.Seq.{sets, drop-drop}
use borrow.Rule.Slice.PartMut.{put_mid}
use Rattle.std.specs.Int.{from_le_bytes, to_le_bytes, bytes_low_first, w64}
use Rattle.std.proofs.lemmas.List.Edits.{sets-eq}
use Rattle.rules.specs.Bytes.{little, value, limit}
use Rattle.rules.proofs.Laws.Numbers.{limit-some, length-little}

-- a number by its highest byte
value-last : (w : ℕ) (b : List ℕ) → value (suc w) b ≡ value w b + get_or b w 0 * 256 ^ w
unfolding value
value-last zero [] = refl
value-last zero (x ∷ b) = omega arith
value-last (suc w) [] = omega arith
value-last (suc w) (x ∷ b) =
    let p : get_or b w 0 * 256 ^ suc w ≡ 256 * (get_or b w 0 * 256 ^ w) = rw (pow-suc 256 w) (sym (mul_assoc (get_or b w 0) (256 ^ w) 256) ∙ mul_comm (get_or b w 0 * 256 ^ w) 256) in
    omega (arith, value-last w b, p)

-- a number of as many bytes as the library's, the rest of them zero
value-zeros : (n : ℕ) → value n (replicate n 0) ≡ 0
unfolding value
value-zeros zero = refl
value-zeros (suc n) = omega (arith, value-zeros n)

pub value-padded : (n w : ℕ) (b : List ℕ) → w ≤ n → w ≤ length b → value n (take w b ++ drop w (replicate n 0)) ≡ value w b
unfolding value
value-padded n zero b h l = value-zeros n
value-padded zero (suc w) b h l = absurd (omega arith)
value-padded (suc n) (suc w) [] h l = absurd (omega arith)
value-padded (suc n) (suc w) (x ∷ b) h l = rw (value-padded n w b (omega arith) (omega arith))

pub from_le-value : (b : List ℕ) → from_le_bytes w64 b ≡ value 8 b
from_le-value b =
    let z : value 0 b ≡ 0 = unfold value in refl in
    omega (arith, z, value-last 0 b, value-last 1 b, value-last 2 b, value-last 3 b, value-last 4 b, value-last 5 b, value-last 6 b, value-last 7 b)

pub value-below : (w : ℕ) (b : List ℕ) → ((i : ℕ) → get_or b i 0 < 256) → value w b < limit w
unfolding value
value-below zero b k = omega arith
value-below (suc w) [] k = omega (arith, limit-some w)
value-below (suc w) (x ∷ b) k = omega (arith, k 0, value-below w b (λ i. k (suc i)))

-- the low bytes of a number
low-little : (k i n : ℕ) → bytes_low_first (suc i) k n ≡ little k (n / 256 ^ suc i)
unfolding little
low-little zero i n = refl
low-little (suc k) i n =
    let p : n / 256 ^ suc i / 256 ≡ n / 256 ^ suc (suc i) = div-div-eq-div-mul n (256 ^ suc i) 256 ∙ ap (λ (m : ℕ). n / m) (sym (pow-suc 256 (suc i))) in
    rw p (ap (λ (l : List ℕ). n / 256 ^ suc i % 256 ∷ l) (low-little k (suc i) n))

pub to_le-little : (n : ℕ) → to_le_bytes w64 n ≡ little 8 n
unfolding little
to_le-little n = ap (λ (l : List ℕ). n % 256 ∷ l) (low-little 7 0 n)

pub take-little : (n w m : ℕ) → w ≤ n → take w (little n m) ≡ little w m
unfolding little
take-little n zero m h = refl
take-little zero (suc w) m h = absurd (omega arith)
take-little (suc n) (suc w) m h = rw (take-little n w (m / 256) (omega arith))

pub put_mid-sets : (at w : ℕ) (out x : List ℕ) → length x ≡ w → at + w ≤ length out → put_mid at w out x ≡ sets out at x
put_mid-sets at w out x l h = rw (sets-eq x out at (omega (arith, l, h)), l, drop-drop w at out) (sym (append_assoc (take at out) x (drop (at + w) out)))

-- a run of stores after a run of stores
pub sets_append : (l : List ℕ) (at : ℕ) (a b : List ℕ) → sets (sets l at a) (at + length a) b ≡ sets l at (a ++ b)
sets_append l at [] b = let z : at + 0 ≡ at = omega arith in rw z
sets_append l at (x ∷ a) b = let z : at + suc (length a) ≡ suc at + length a = omega arith in rw z (sets_append (set l at x) (suc at) a b)

-- a number in two parts, and what is stored of it
value-none : (n : ℕ) → value n [] ≡ 0
unfolding value
value-none zero = refl
value-none (suc n) = refl

value_parts : (m n : ℕ) (l : List ℕ) → value (m + n) l ≡ value m l + 256 ^ m * value n (drop m l)
unfolding value
value_parts zero n l = let z : 0 + n ≡ n = omega arith in rw z (omega arith)
value_parts (suc m) n [] = omega (arith, value-none (suc m + n), value-none (suc m), ap (λ (k : ℕ). 256 ^ suc m * k) (value-none n))
value_parts (suc m) n (x ∷ l) =
    let p : 256 ^ suc m * value n (drop m l) ≡ 256 * (256 ^ m * value n (drop m l)) = rw (pow-suc 256 m) (ap (λ (k : ℕ). k * value n (drop m l)) (mul_comm (256 ^ m) 256) ∙ mul_assoc 256 (256 ^ m) (value n (drop m l))) in
    let s : suc m + n ≡ suc (m + n) = omega arith in
    rw s (omega (arith, value_parts m n l, p))

little_parts : (m n k : ℕ) → little (m + n) k ≡ little m k ++ little n (k / 256 ^ m)
unfolding little
little_parts zero n k = let z : 0 + n ≡ n = omega arith in let o : k / 1 ≡ k = omega arith in rw (z, o) refl
little_parts (suc m) n k =
    let p : k / 256 / 256 ^ m ≡ k / 256 ^ suc m = div-div-eq-div-mul k 256 (256 ^ m) ∙ ap (λ (d : ℕ). k / d) (mul_comm 256 (256 ^ m) ∙ sym (pow-suc 256 m)) in
    let s : suc m + n ≡ suc (m + n) = omega arith in
    rw s (ap (λ (l : List ℕ). k % 256 ∷ l) (little_parts m n (k / 256) ∙ ap (λ (d : ℕ). little m (k / 256) ++ little n d) p))

sets_parts : (m n : ℕ) (l l₁ l₂ : List ℕ) (at k : ℕ) → l₁ ≡ sets l at (little m k) → l₂ ≡ sets l₁ (at + m) (little n (k / 256 ^ m)) → l₂ ≡ sets l at (little (m + n) k)
sets_parts m n l l₁ l₂ at k p q =
    let z : sets (sets l at (little m k)) (at + m) (little n (k / 256 ^ m)) ≡ sets (sets l at (little m k)) (at + length (little m k)) (little n (k / 256 ^ m)) = ap (λ (w : ℕ). sets (sets l at (little m k)) (at + w) (little n (k / 256 ^ m))) (sym (length-little m k)) in
    q ∙ ap (λ (x : List ℕ). sets x (at + m) (little n (k / 256 ^ m))) p ∙ z ∙ sets_append l at (little m k) (little n (k / 256 ^ m)) ∙ ap (sets l at) (sym (little_parts m n k))

-- the same at the widths of a file's numbers: halves of eight bytes, and four bytes one by one
pub value_at8 : (b : List ℕ) (at : ℕ) → value 8 (drop at b) ≡ value 4 (drop at b) + 4294967296 * value 4 (drop (at + 4) b)
value_at8 b at = value_parts 4 4 (drop at b) ∙ rw (drop-drop 4 at b)

pub value_at4 : (b : List ℕ) (at : ℕ) → value 4 (drop at b) ≡ value 1 (drop at b) + value 1 (drop (at + 1) b) * 256 + value 1 (drop (at + 2) b) * 65536 + value 1 (drop (at + 3) b) * 16777216
value_at4 b at = omega (arith, value_parts 3 1 (drop at b), value_parts 2 1 (drop at b), value_parts 1 1 (drop at b), ap (value 1) (drop-drop 1 at b), ap (value 1) (drop-drop 2 at b), ap (value 1) (drop-drop 3 at b))

pub little_eight : (n : ℕ) → little 8 n ≡ little 4 n ++ little 4 (n / 256 / 256 / 256 / 256)
unfolding little
little_eight n = refl

pub sets_eight : (l l₁ l₂ : List ℕ) (at n : ℕ) → l₁ ≡ sets l at (little 4 n) → l₂ ≡ sets l₁ (at + 4) (little 4 (n / 256 / 256 / 256 / 256)) → l₂ ≡ sets l at (little 8 n)
sets_eight l l₁ l₂ at n p q =
    let d : n / 256 / 256 / 256 / 256 ≡ n / 256 ^ 4 = omega arith in
    sets_parts 4 4 l l₁ l₂ at n p (rw d at q)

pub sets_bytes : (l l₁ l₂ l₃ l₄ : List ℕ) (at n : ℕ) → l₁ ≡ sets l at (little 1 n) → l₂ ≡ sets l₁ (at + 1) (little 1 (n / 256)) → l₃ ≡ sets l₂ (at + 2) (little 1 (n / 256 / 256)) → l₄ ≡ sets l₃ (at + 3) (little 1 (n / 256 / 256 / 256)) → l₄ ≡ sets l at (little 4 n)
sets_bytes l l₁ l₂ l₃ l₄ at n p q r s =
    let two : n / 256 / 256 ≡ n / 256 ^ 2 = omega arith in
    let three : n / 256 / 256 / 256 ≡ n / 256 ^ 3 = omega arith in
    sets_parts 3 1 l l₃ l₄ at n (sets_parts 2 1 l l₂ l₃ at n (sets_parts 1 1 l l₁ l₂ at n p q) (rw two at r)) (rw three at s)
