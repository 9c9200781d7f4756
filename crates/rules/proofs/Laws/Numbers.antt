-- Numbers: written and read back, read and written back.
use Prim.Native.Nat.{ℕ, zero, suc, ◌+◌, ◌*◌, ◌/◌, ◌%◌, ◌≤◌, ◌<◌}
use mathlib.Core.Path.{◌≡◌, refl, sym, ap, ◌∙◌, subst}
use mathlib.Core.List.{List, [], ◌∷◌, ◌++◌}
use native.Mathlib.Omega.{arith}
use native.Mathlib.Nat.{div-add-mod}
use native.Mathlib.Decide.{dec_lt}
use borrow.Author.Tests.{le-leb, lt-leb}
use lib.ListN.{length, take, drop, length-append}
use lib.Seq.{drop_at}
use Rattle.rules.specs.Bytes.{unread, got, little, value, limit, Bytes, number}

pub length-little : (w n : ℕ) → length (little w n) ≡ w
unfolding little
length-little zero n = refl
length-little (suc w) n = ap suc (length-little w (n / 256))

pub value-little : (w n : ℕ) (rest : List ℕ) → n < limit w → value w (little w n ++ rest) ≡ n
unfolding little value
value-little zero n rest h = omega arith
value-little (suc w) n rest h =
    omega (arith, value-little w (n / 256) rest (omega (arith, div-add-mod n 256)), div-add-mod n 256)

pub limit-some : (w : ℕ) → 1 ≤ limit w
limit-some zero = omega arith
limit-some (suc w) = omega (arith, limit-some w)

pub value-limit : (w : ℕ) (b : List ℕ) → Bytes b → value w b < limit w
unfolding value
value-limit zero b k = omega arith
value-limit (suc w) [] k = omega (arith, limit-some w)
value-limit (suc w) (x ∷ b) k = omega (arith, k.0, value-limit w b k.1)

pub little-value : (w : ℕ) (b : List ℕ) → Bytes b → w ≤ length b → little w (value w b) ++ drop w b ≡ b
unfolding little value
little-value zero b k h = refl
little-value (suc w) [] k h = absurd (omega arith)
little-value (suc w) (x ∷ b) k h =
    let lt : x < 256 = k.0 in
    let v : ℕ = value w b in
    let low : (x + 256 * v) % 256 ≡ x = omega arith in
    let high : (x + 256 * v) / 256 ≡ v = omega arith in
    rw (low, high) (ap (λ (l : List ℕ). x ∷ l) (little-value w b k.1 (omega arith)))

-- the first bytes tell it
pub value-take : (n w : ℕ) (b : List ℕ) → w ≤ n → value w (take n b) ≡ value w b
unfolding value
value-take n zero b h = refl
value-take zero (suc w) b h = absurd (omega arith)
value-take (suc n) (suc w) [] h = refl
value-take (suc n) (suc w) (x ∷ b) h = rw (value-take n w b (omega arith))

pub bytes_drop : (w : ℕ) (b : List ℕ) → Bytes b → Bytes (drop w b)
bytes_drop zero b k = k
bytes_drop (suc w) [] k = k
bytes_drop (suc w) (x ∷ b) k = bytes_drop w b k.1

pub number-some : (w : ℕ) (b : List ℕ) → w ≤ length b → number w b ≡ got (value w b) (drop w b)
unfolding number
number-some w b h = rw (le-leb w (length b) h)

pub number-none : (w : ℕ) (b : List ℕ) → length b < w → number w b ≡ unread
unfolding number
number-none w b h = rw (lt-leb w (length b) h)

pub number-back : (w n : ℕ) (rest : List ℕ) → n < limit w → number w (little w n ++ rest) ≡ got n rest
number-back w n rest h =
    let l : length (little w n) ≡ w = length-little w n in
    rw (number-some w (little w n ++ rest) (omega (arith, length-append (little w n) rest)), value-little w n rest h, drop_at (little w n) rest w l)

-- what a successful reading says
pub record Is {A : Type 0} (write : A → List ℕ) (Good : A → Type 0) (b : List ℕ) (a : A) (rest : List ℕ) : Type 0 where
  pub good : Good a
  pub same : b ≡ write a ++ rest
  pub left : Bytes rest

pub number-forth : (w : ℕ) (b : List ℕ) (n : ℕ) (rest : List ℕ) → Bytes b → number w b ≡ got n rest → Is (little w) (λ n. n < limit w) b n rest
number-forth w b n rest k e = go (dec_lt (length b) w)
  where
    go : Dec (length b < w) → Is (little w) (λ n. n < limit w) b n rest
    go (yes h) = absurd (never (sym (number-none w b h) ∙ e))
      where
        never : unread ≡ got n rest → ⊥
        never q = let z : ◌≡◌ {A = ℕ} 0 1 = cc in omega arith
    go (no h) =
        let q : got (value w b) (drop w b) ≡ got n rest = sym (number-some w b (omega arith)) ∙ e in
        let v : value w b ≡ n = cc in
        let d : drop w b ≡ rest = cc in
        record {
          good = subst (λ (m : ℕ). m < limit w) v (value-limit w b k);
          same = sym (little-value w b k (omega arith)) ∙ (rw (v, d) refl);
          left = subst Bytes d (bytes_drop w b k);
        }
