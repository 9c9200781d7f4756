-- Script: a line's words, found by their separators, and the numbers among them.
use Rattle.std.specs.Prelude.{if◌then◌else◌, ◌==◌, position, Some, None}
use Prim.Native.Nat.{ℕ, zero, suc, ◌+◌, ◌-◌, ◌≤◌, ◌<◌}
use mathlib.Core.Path.{◌≡◌, refl, sym, ◌∙◌}
use mathlib.Core.Bool.{Bool, true, false, not}
use mathlib.Core.List.{List, [], ◌∷◌}
use mathlib.Core.Option.{none}
use native.Mathlib.Numerals.{add-one}
use native.Mathlib.Omega.{arith}
use borrow.Author.Tests.{le-leb}
use lib.ListN.{length, get_or, take, drop}
use Rattle.std.proofs.lemmas.List.Quantifiers.{position-Some}
use Rattle.std.proofs.lemmas.Option.{none-some}
use Rattle.std.specs.List.{position_or_len, slice_range}
use lib.Seq.{take_all}
use Rattle.std.proofs.lemmas.List.{length-drop}
use native.Mathlib.Decide.{dec_lt}
use Rattle.rules.specs.Script.{prepend, pieces, numbers}
use Rattle.words.specs.Words.{onto}

-- ---- pieces

prepended : (b : ℕ) (ps : List (List ℕ)) → onto [] (prepend b ps) ≡ prepend b ps
prepended b [] = refl
prepended b (p ∷ ps) = refl

pub onto-nothing : (separator : ℕ) (bs : List ℕ) → onto [] (pieces separator bs) ≡ pieces separator bs
unfolding pieces
onto-nothing separator [] = refl
onto-nothing separator (b ∷ bs) = go (b == separator)
  where
    go : (t : Bool) → onto [] (if t then [] ∷ pieces separator bs else prepend b (pieces separator bs))
        ≡ (if t then [] ∷ pieces separator bs else prepend b (pieces separator bs))
    go true = refl
    go false = prepended b (pieces separator bs)

pub pieces-some : (separator : ℕ) (bs : List ℕ) → (p : List ℕ) × (ps : List (List ℕ)) × (pieces separator bs ≡ p ∷ ps)
unfolding pieces
pieces-some separator [] = ([], [], refl)
pieces-some separator (b ∷ bs) = go (b == separator) (pieces separator bs)
  where
    go : (t : Bool) (rest : List (List ℕ)) → (p : List ℕ) × (ps : List (List ℕ)) × ((if t then [] ∷ rest else prepend b rest) ≡ p ∷ ps)
    go true rest = ([], rest, refl)
    go false [] = (b ∷ [], [], refl)
    go false (p ∷ ps) = (b ∷ p, ps, refl)

-- the first piece ends where the separator first stands
pub pieces_first : (separator : ℕ) (bs : List ℕ) (i : ℕ) → i < length bs → (get_or bs i 0 == separator) ≡ true
    → ((k : ℕ) → k < i → (get_or bs k 0 == separator) ≡ false) → pieces separator bs ≡ take i bs ∷ pieces separator (drop (suc i) bs)
unfolding pieces
pieces_first separator [] i l e n = absurd (omega arith)
pieces_first separator (b ∷ bs) zero l e n = rw e
pieces_first separator (b ∷ bs) (suc i) l e n = rw (n 0 (omega arith), pieces_first separator bs i (omega arith) e (λ k h. n (suc k) (omega arith)))

-- and where it stands nowhere, there is one piece
pieces_one : (separator : ℕ) (bs : List ℕ) → length bs ≤ position_or_len (λ b. b == separator) bs → pieces separator bs ≡ bs ∷ []
unfolding pieces
pieces_one separator [] n = refl
pieces_one separator (b ∷ bs) n = go (b == separator) n (pieces_one separator bs)
  where
    go : (t : Bool) → suc (length bs) ≤ (if not t then 1 + position_or_len (λ b. b == separator) bs else 0) → (length bs ≤ position_or_len (λ b. b == separator) bs → pieces separator bs ≡ bs ∷ [])
        → (if t then [] ∷ pieces separator bs else prepend b (pieces separator bs)) ≡ (b ∷ bs) ∷ []
    go true l more = absurd (omega arith)
    go false l more = rw (more (omega arith))

module _ (separator : ℕ) (bs : List ℕ) where
  pub pieces_at : (end : ℕ) → Some end ≡ position (λ b. b == separator) bs → pieces separator bs ≡ take end bs ∷ pieces separator (slice_range bs (end + 1) (length bs))
  pieces_at end e =
      let p = position-Some (λ b. b == separator) bs end 0 (sym e) in
      let n : length (drop (suc end) bs) ≡ length bs - suc end = length-drop (suc end) bs in
      pieces_first separator bs end p.0 p.1 p.2
      ∙ rw (add-one, take_all (length bs - suc end) (drop (suc end) bs) (omega arith))

  -- what comes after it is shorter
  pub found_shorter : (end : ℕ) → Some end ≡ position (λ b. b == separator) bs → length (slice_range bs (end + 1) (length bs)) < length bs
  found_shorter end e =
      let p = position-Some (λ b. b == separator) bs end 0 (sym e) in
      let n : length (drop (end + 1) bs) ≡ length bs - (end + 1) = length-drop (end + 1) bs in
      rw (take_all (length bs - (end + 1)) (drop (end + 1) bs) (omega arith), n) (omega (arith, p.0))

  pub pieces_whole : None ≡ position (λ b. b == separator) bs → pieces separator bs ≡ bs ∷ []
  pieces_whole e = go (dec_lt (position_or_len (λ b. b == separator) bs) (length bs))
    where
      go : Dec (position_or_len (λ b. b == separator) bs < length bs) → pieces separator bs ≡ bs ∷ []
      go (yes l) = absurd (none-some (position_or_len (λ b. b == separator) bs) (e ∙ rw (le-leb (suc (position_or_len (λ b. b == separator) bs)) (length bs) l)))
      go (no l) = pieces_one separator bs (omega arith)

-- ---- a line ends where its numbers do

pub numbers-over : (separator : ℕ) (bs : List ℕ) → numbers [] (pieces separator bs) ≡ none
unfolding numbers
numbers-over separator bs = let w = pieces-some separator bs in rw w.2
