-- Script: a number's decimal, digit by digit, and which words are numbers.
use Rattle.std.specs.Prelude.{if◌then◌else◌, ◌==◌}
use Prim.Native.Nat.{ℕ, zero, suc, ◌+◌, ◌*◌, ◌-◌, ◌/◌, ◌%◌, ◌^◌, ◌≤◌, ◌<◌}
use mathlib.Core.Path.{◌≡◌, refl, sym, ap, ◌∙◌}
use mathlib.Core.Bool.{Bool, true, false, ◌&&◌}
use mathlib.Core.List.{List, [], ◌∷◌, ◌++◌}
use mathlib.Core.Option.{some, none}
use native.Mathlib.Nat.{le_refl, div-lt_iff_lt-mul, pow-suc}
use native.Mathlib.Decide.{dec_lt}
use native.Mathlib.Omega.{arith}
use borrow.Author.Tests.{le-leb, lt-leb, eq-eqb, eqb-true}
use lib.Arith.{digits_div, digits_mod}
use lib.Dec.{lit<}
use lib.ListN.{length, get_or, length-append, get_or-append}
use Rattle.rules.specs.Notation.{◌≤?◌, every}
use Rattle.rules.specs.Script.{digits, decimal, same_bytes, word_value, number}

-- ---- the decimal of a number

digits_one : (k n : ℕ) → n < 10 → digits (suc k) n ≡ (48 + n) ∷ []
digits_one k n h = simp (le-leb (suc n) 10 h)

digits_last : (k n : ℕ) → 10 ≤ n → digits (suc k) n ≡ digits k (n / 10) ++ (48 + n % 10) ∷ []
digits_last k n h = simp (lt-leb (suc n) 10 (omega arith))

tenth : (k n : ℕ) → n < 10 ^ suc k → n / 10 < 10 ^ k
tenth k n h = (div-lt_iff_lt-mul (lit< tt)).1 (rw pow-suc at h)

-- a fuel that is enough is as good as one more
digits-enough : (k n : ℕ) → n < 10 ^ suc k → digits (suc k) n ≡ digits (suc (suc k)) n
digits-enough zero n h = digits_one 0 n h ∙ sym (digits_one 1 n h)
digits-enough (suc k) n h = go (dec_lt n 10) (digits-enough k (n / 10) (tenth (suc k) n h))
  where
    go : Dec (n < 10) → digits (suc k) (n / 10) ≡ digits (suc (suc k)) (n / 10) → digits (suc (suc k)) n ≡ digits (suc (suc (suc k))) n
    go (yes l) ih = digits_one (suc k) n l ∙ sym (digits_one (suc (suc k)) n l)
    go (no l) ih =
        digits_last (suc k) n (omega arith)
        ∙ ap (λ (ds : List ℕ). ds ++ (48 + n % 10) ∷ []) ih
        ∙ sym (digits_last (suc (suc k)) n (omega arith))

length_digits : (k n : ℕ) → length (digits k n) ≤ k
length_digits zero n = le_refl 0
length_digits (suc k) n = go (dec_lt n 10) (length_digits k (n / 10))
  where
    go : Dec (n < 10) → length (digits k (n / 10)) ≤ k → length (digits (suc k) n) ≤ suc k
    go (yes l) ih = rw (digits_one k n l) (omega arith)
    go (no l) ih = rw (digits_last k n (omega arith)) (simp length-append (omega arith))

pub decimal_one : (n : ℕ) → n < 10 → decimal n ≡ (48 + n) ∷ []
unfolding decimal
decimal_one n h = digits_one 19 n h

pub decimal-last : (n : ℕ) → 10 ≤ n → n < 10 ^ 20 → decimal n ≡ decimal (n / 10) ++ (48 + n % 10) ∷ []
unfolding decimal
decimal-last n h l =
    digits_last 19 n h ∙ ap (λ (ds : List ℕ). ds ++ (48 + n % 10) ∷ []) (digits-enough 18 (n / 10) (tenth 19 n l))

pub length-decimal : (n : ℕ) → length (decimal n) ≤ 20
unfolding decimal
length-decimal n = length_digits 20 n

-- so there is room for one more digit
pub decimal_short : (n : ℕ) → 10 ≤ n → n < 10 ^ 20 → length (decimal (n / 10)) < 20
decimal_short n h l =
    let e : length (decimal n) ≡ length (decimal (n / 10)) + 1 = ap length (decimal-last n h l) ∙ simp length-append in
    omega (arith, length-decimal n)

-- a digit more
pub decimal_more : (n d : ℕ) → 1 ≤ n → d ≤ 9 → n * 10 + d < 10 ^ 20 → decimal (n * 10 + d) ≡ decimal n ++ (48 + d) ∷ []
decimal_more n d h l m =
    let q : (n * 10 + d) / 10 ≡ n = digits_div n (omega arith) in
    let r : (n * 10 + d) % 10 ≡ d = digits_mod n (omega arith) in
    decimal-last (n * 10 + d) (omega arith) m ∙ rw (q, r) refl

-- ---- the first digit

-- a number from 1 on does not begin with 0
digits-first : (k n : ℕ) → 1 ≤ n → n < 10 ^ k → (1 ≤ length (digits k n)) × (get_or (digits k n) 0 0 ≡ 48 → ⊥)
digits-first zero n h l = absurd (omega arith)
digits-first (suc k) n h l = go (dec_lt n 10) (λ q. digits-first k (n / 10) q (tenth k n l))
  where
    go : Dec (n < 10) → (1 ≤ n / 10 → (1 ≤ length (digits k (n / 10))) × (get_or (digits k (n / 10)) 0 0 ≡ 48 → ⊥))
        → (1 ≤ length (digits (suc k) n)) × (get_or (digits (suc k) n) 0 0 ≡ 48 → ⊥)
    go (yes m) ih = rw (digits_one k n m) (le_refl 1, λ e. omega arith)
    go (no m) ih =
        let p = ih (omega arith) in
        rw (digits_last k n (omega arith))
        (simp length-append (omega (arith, p.0)), λ e. p.1 (sym (get_or-append (digits k (n / 10)) ((48 + n % 10) ∷ []) 0 0 p.0) ∙ e))

-- ---- every digit

abbrev pub is_digit : ℕ → Bool
is_digit b = (48 ≤? b) && (b ≤? 57)

every_append : (xs ys : List ℕ) → every is_digit (xs ++ ys) ≡ every is_digit xs && every is_digit ys
every_append [] ys = refl
every_append (x ∷ xs) ys = go (is_digit x) (every_append xs ys)
  where
    go : (t : Bool) → every is_digit (xs ++ ys) ≡ every is_digit xs && every is_digit ys
        → (if t then every is_digit (xs ++ ys) else false) ≡ (if t then every is_digit xs else false) && every is_digit ys
    go true ih = ih
    go false ih = refl

digit : (d : ℕ) → d ≤ 9 → is_digit (48 + d) ≡ true
digit d h = simp (le-leb 48 (48 + d) (omega arith), le-leb (48 + d) 57 (omega arith))

digits-every : (k n : ℕ) → every is_digit (digits k n) ≡ true
digits-every zero n = refl
digits-every (suc k) n = go (dec_lt n 10) (digits-every k (n / 10))
  where
    go : Dec (n < 10) → every is_digit (digits k (n / 10)) ≡ true → every is_digit (digits (suc k) n) ≡ true
    go (yes l) ih = rw (digits_one k n l) (rw (digit n (omega arith)))
    go (no l) ih =
        rw (digits_last k n (omega arith))
        (every_append (digits k (n / 10)) ((48 + n % 10) ∷ []) ∙ rw (ih, digit (n % 10) (omega (arith))) refl)

-- ---- words

same_bytes-refl : (xs : List ℕ) → same_bytes xs xs ≡ true
same_bytes-refl [] = refl
same_bytes-refl (x ∷ xs) = rw (eq-eqb x x refl) (same_bytes-refl xs)

both_true : (a b : Bool) → a && b ≡ true → (a ≡ true) × (b ≡ true)
both_true true b e = (refl, e)
both_true false b e = ((cc), (cc))

and-false : (a : Bool) → a && false ≡ false
and-false true = refl
and-false false = refl

same_bytes_lem : (xs ys : List ℕ) → same_bytes xs ys ≡ true → xs ≡ ys
same_bytes_lem [] [] e = refl
same_bytes_lem [] (y ∷ ys) e = cc
same_bytes_lem (x ∷ xs) [] e = cc
same_bytes_lem (x ∷ xs) (y ∷ ys) e =
    let p = both_true (x == y) (same_bytes xs ys) e in rw (eqb-true x y p.0, same_bytes_lem xs ys p.1)

-- a digit more of a word
pub word_value-append : (v : ℕ) (xs ys : List ℕ) → word_value v (xs ++ ys) ≡ word_value (word_value v xs) ys
word_value-append v [] ys = refl
word_value-append v (x ∷ xs) ys = word_value-append (v * 10 + (x - 48)) xs ys

pub word_value-least : (v : ℕ) (xs : List ℕ) → v ≤ word_value v xs
word_value-least v [] = le_refl v
word_value-least v (x ∷ xs) = omega (arith, word_value-least (v * 10 + (x - 48)) xs)

-- ---- which words are numbers

pub number_is : (most n : ℕ) (word : List ℕ) → word_value 0 word ≡ n → n ≤ most → decimal n ≡ word → number most word ≡ some n
unfolding number
number_is most n word e l d = rw (e, le-leb n most l, d, same_bytes-refl word)

pub number_large : (most : ℕ) (word : List ℕ) → most < word_value 0 word → number most word ≡ none
unfolding number
number_large most word l = rw (lt-leb (word_value 0 word) most l)

pub number-other : (most : ℕ) (word : List ℕ) → (decimal (word_value 0 word) ≡ word → ⊥) → number most word ≡ none
unfolding number
number-other most word d = go (same_bytes (decimal (word_value 0 word)) word) refl
  where
    go : (t : Bool) → same_bytes (decimal (word_value 0 word)) word ≡ t
        → (if (word_value 0 word ≤? most) && same_bytes (decimal (word_value 0 word)) word then some (word_value 0 word) else none) ≡ none
    go true e = absurd (d (same_bytes_lem _ _ e))
    go false e = rw (e, and-false (word_value 0 word ≤? most))

pub number-empty : (most : ℕ) → number most [] ≡ none
unfolding decimal
number-empty most = number-other most [] λ e. omega (arith, ap length e)

apart : (t : Bool) → t ≡ true → t ≡ false → ⊥
apart t p q = let z : ◌≡◌ {A = ℕ} 0 1 = cc in omega arith

every-not : (xs : List ℕ) (b : ℕ) (ys : List ℕ) → is_digit b ≡ false → every is_digit (xs ++ b ∷ ys) ≡ false
every-not xs b ys h = every_append xs (b ∷ ys) ∙ rw h (and-false (every is_digit xs))

pub number_no_digit : (most : ℕ) (xs : List ℕ) (b : ℕ) (ys : List ℕ) → is_digit b ≡ false → number most (xs ++ b ∷ ys) ≡ none
unfolding decimal
number_no_digit most xs b ys h =
    number-other most (xs ++ b ∷ ys)
    λ e. apart (every is_digit (xs ++ b ∷ ys)) (rw e at (digits-every 20 (word_value 0 (xs ++ b ∷ ys)))) (every-not xs b ys h)

-- no leading zeros
pub number_zero_first : (most b : ℕ) (ys : List ℕ) → most < 10 ^ 20 → number most (48 ∷ b ∷ ys) ≡ none
unfolding decimal
number_zero_first most b ys h = go (dec_lt most (word_value 0 (48 ∷ b ∷ ys)))
  where
    first : (n : ℕ) → n ≤ most → decimal n ≡ 48 ∷ b ∷ ys → ⊥
    first zero l e = omega (arith, ap length e)
    first (suc n) l e = (digits-first 20 (suc n) (omega arith) (omega arith)).1 (ap (λ (ds : List ℕ). get_or ds 0 0) e)

    go : Dec (most < word_value 0 (48 ∷ b ∷ ys)) → number most (48 ∷ b ∷ ys) ≡ none
    go (yes l) = number_large most (48 ∷ b ∷ ys) l
    go (no l) = number-other most (48 ∷ b ∷ ys) (first (word_value 0 (48 ∷ b ∷ ys)) (omega arith))
