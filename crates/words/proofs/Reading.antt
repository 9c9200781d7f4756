-- Script: a number read digit by digit. After `i` bytes of the word the value is theirs, and they are its decimal.
use Rattle.std.specs.Prelude.{Some, None}
use Prim.Native.Nat.{ℕ, zero, suc, ◌+◌, ◌*◌, ◌-◌, ◌/◌, ◌^◌, ◌≤◌, ◌<◌}
use mathlib.Core.Path.{◌≡◌, refl, sym, ap, ◌∙◌, subst}
use mathlib.Core.Bool.{false}
use mathlib.Core.List.{List, [], ◌∷◌, ◌++◌}
use mathlib.Core.Option.{some, none}
use native.Mathlib.Decide.{dec_lt}
use native.Mathlib.Numerals.{add-one}
use native.Mathlib.Omega.{arith}
use borrow.Author.Tests.{le-leb, lt-leb}
use lib.ListN.{length, get_or, take, drop, take-append-drop}
use lib.Seq.{drop-cons, take-suc, take_all, length-take-le}
use Rattle.std.specs.List.{slice_get}
use Rattle.std.proofs.lemmas.List.{get_or-take}
use Rattle.std.proofs.lemmas.Option.{none-some}
use Rattle.rules.specs.Script.{decimal, word_value, number}
use Rattle.words.specs.Words.{IsDigit}
use Rattle.words.proofs.Decimals.{decimal_one, decimal_more, word_value-append, word_value-least, is_digit, number-empty, number_is, number_large, number_no_digit, number_zero_first}

no_digit : (b : ℕ) → IsDigit b None → is_digit b ≡ false
no_digit b h = go (dec_lt b 48) (dec_lt 57 b)
  where
    go : Dec (b < 48) → Dec (57 < b) → is_digit b ≡ false
    go (yes g) k = rw (lt-leb 48 b g)
    go (no g) (yes k) = rw (le-leb 48 b (omega arith), lt-leb b 57 k)
    go (no g) (no k) = absurd (h (omega arith, omega arith))

positive : (i v : ℕ) → (v ≡ 0 → i ≤ 0) → 0 < i → 1 ≤ v
positive i zero z l = absurd (omega (arith, z refl))
positive i (suc v) z l = omega arith

-- a word's bytes past the first
abbrev pub past_first : List ℕ → List ℕ
past_first word = take (length word - 1) (drop 1 word)

past_first_at : (word : List ℕ) (i : ℕ) → i < length (past_first word) → (i + 1 < length word) × (get_or (past_first word) i 0 ≡ get_or word (i + 1) 0)
past_first_at [] i l = absurd (omega arith)
past_first_at (b ∷ w) i l =
    let e : take (suc (length w) - 1) w ≡ w = take_all (suc (length w) - 1) w (omega arith) in
    (omega (arith, l, ap length e), rw (e, add-one) refl)

pub length-past_first : (word : List ℕ) (i : ℕ) → length (past_first word) ≤ i → length word ≤ i + 1
length-past_first [] i l = omega arith
length-past_first (b ∷ w) i l =
    let e : take (suc (length w) - 1) w ≡ w = take_all (suc (length w) - 1) w (omega arith) in
    omega (arith, l, ap length e)

module _ (word : List ℕ) (most : ℕ) where
  pub reading_empty : None ≡ slice_get word 0 → number most word ≡ none
  reading_empty e = go word e
    where
      go : (w : List ℕ) → None ≡ slice_get w 0 → number most w ≡ none
      go [] h = number-empty most
      go (b ∷ w) h = absurd (none-some b h)

  -- no leading zeros
  pub reading_zero : most < 10 ^ 20 → get_or word 0 0 ≡ 48 → 1 < length word → number most word ≡ none
  reading_zero m z l = go word z l
    where
      go : (w : List ℕ) → get_or w 0 0 ≡ 48 → 1 < length w → number most w ≡ none
      go [] e h = absurd (omega arith)
      go (b ∷ []) e h = absurd (omega arith)
      go (b ∷ b' ∷ w) e h = rw e (number_zero_first most b' w m)

  pub record Reading (value i : ℕ) : Type 0 where
    pub small : value ≤ most
    pub worth : word_value 0 (take i word) ≡ value
    pub said : 0 < i → decimal value ≡ take i word

  pub reading_start : Reading 0 0
  reading_start = record { small = omega arith; worth = refl; said = λ l. absurd (omega arith) }

  module _ (value i : ℕ) (r : Reading value i) (inside : i < length word) where
    whole : word ≡ take i word ++ get_or word i 0 ∷ drop (suc i) word
    whole = sym (take-append-drop i word) ∙ ap (λ (xs : List ℕ). take i word ++ xs) (drop-cons word i 0 inside)

    pub reading_no_digit : IsDigit (get_or word i 0) None → number most word ≡ none
    reading_no_digit h = rw whole (number_no_digit most (take i word) (get_or word i 0) (drop (suc i) word) (no_digit (get_or word i 0) h))

    -- a value of 0 is that of a first zero, which is then the whole word
    first : (get_or word 0 0 ≡ 48 → length word ≤ 1) → value ≡ 0 → i ≤ 0
    first h z = go (dec_lt 0 i)
      where
        one : take i word ≡ 48 ∷ [] → 0 < i → get_or word 0 0 ≡ 48
        one e l = sym (get_or-take i word 0 0 l) ∙ ap (λ (xs : List ℕ). get_or xs 0 0) e

        go : Dec (0 < i) → i ≤ 0
        go (no l) = omega arith
        go (yes l) =
            let e : take i word ≡ 48 ∷ [] = sym (r.said l) ∙ rw z (decimal_one 0 (omega arith)) in
            absurd (omega (arith, h (one e l), ap length e, length-take-le i word (omega arith)))

    module _ (d : ℕ) (digit : IsDigit (get_or word i 0) (Some d)) where
      pub reading_large : 9 ≤ most → (most - d) / 10 < value → number most word ≡ none
      reading_large n l =
          let e : word_value 0 word ≡ word_value (value * 10 + (get_or word i 0 - 48)) (drop (suc i) word) =
          ap (word_value 0) whole ∙ word_value-append 0 (take i word) (get_or word i 0 ∷ drop (suc i) word)
          ∙ ap (λ (v : ℕ). word_value v (get_or word i 0 ∷ drop (suc i) word)) r.worth in
          number_large most word
          (omega (arith, e, digit, word_value-least (value * 10 + (get_or word i 0 - 48)) (drop (suc i) word)))

      more : value * 10 + d < 10 ^ 20 → (value ≡ 0 → i ≤ 0) → Dec (0 < i) → decimal (value * 10 + d) ≡ take i word ++ (48 + d) ∷ []
      more m z (yes l) =
          decimal_more value d (positive i value z l) digit.0 m ∙ ap (λ (ds : List ℕ). ds ++ (48 + d) ∷ []) (r.said l)
      more m z (no l) =
          let e : i ≡ 0 = omega arith in
          let v : value ≡ 0 = sym r.worth ∙ rw e refl in
          let n : value * 10 + d ≡ d = omega arith in
          rw (n, e) (decimal_one d (omega (arith, digit.0)))

      pub reading_next : most < 10 ^ 20 → (get_or word 0 0 ≡ 48 → length word ≤ 1) → value * 10 + d ≤ most → Reading (value * 10 + d) (i + 1)
      reading_next m h l =
          let s : take (i + 1) word ≡ take i word ++ (48 + d) ∷ [] = rw add-one (take-suc word i 0 inside ∙ rw digit.1) in
          record {
            small = l;
            worth = rw s (word_value-append 0 (take i word) ((48 + d) ∷ []) ∙ rw r.worth (omega arith));
            said = λ g. rw s (more (omega arith) (first h) (dec_lt 0 i));
          }

  -- the first byte
  module _ (inside : 0 < length word) where
    pub reading_other : (b : ℕ) → b ≡ get_or word 0 0 → IsDigit b None → number most word ≡ none
    reading_other b e h = reading_no_digit 0 0 reading_start inside (subst (λ (b : ℕ). IsDigit b None) e h)

    pub reading_first : (b d : ℕ) → b ≡ get_or word 0 0 → IsDigit b (Some d) → 9 ≤ most → most < 10 ^ 20 → (get_or word 0 0 ≡ 48 → length word ≤ 1) → Reading d 1
    reading_first b d e h n m z =
        let v : 0 * 10 + d ≡ d = omega arith in
        rw v at (reading_next 0 0 reading_start inside d (subst (λ (b : ℕ). IsDigit b (Some d)) e h) m z (omega (arith, h.0)))

  -- the bytes past it
  module _ (value i : ℕ) (r : Reading value (i + 1)) (inside : i < length (past_first word)) where
    pub reading_past_no_digit : IsDigit (get_or (past_first word) i 0) None → number most word ≡ none
    reading_past_no_digit h =
        let p = past_first_at word i inside in
        reading_no_digit value (i + 1) r p.0 (subst (λ (b : ℕ). IsDigit b None) p.1 h)

    module _ (d : ℕ) (digit : IsDigit (get_or (past_first word) i 0) (Some d)) where
      pub reading_past_large : 9 ≤ most → (most - d) / 10 < value → number most word ≡ none
      reading_past_large n l =
          let p = past_first_at word i inside in
          reading_large value (i + 1) r p.0 d (subst (λ (b : ℕ). IsDigit b (Some d)) p.1 digit) n l

      pub reading_past : most < 10 ^ 20 → (get_or word 0 0 ≡ 48 → length word ≤ 1) → value * 10 + d ≤ most → Reading (value * 10 + d) (i + 1 + 1)
      reading_past m h l =
          let p = past_first_at word i inside in
          reading_next value (i + 1) r p.0 d (subst (λ (b : ℕ). IsDigit b (Some d)) p.1 digit) m h l

  pub reading_done : (value i : ℕ) → Reading value i → length word ≤ i → 0 < length word → number most word ≡ some value
  reading_done value i r h l =
      let e : take i word ≡ word = take_all i word h in
      number_is most value word (rw e at r.worth) r.small (rw e at (r.said (omega arith)))
