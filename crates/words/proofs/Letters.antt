-- Script: a line goes by its first word, which has to be one letter.
use Rattle.std.specs.Prelude.{◌==◌}
use Prim.Native.Nat.{ℕ, ◌≤◌, ◌<◌}
use mathlib.Core.Path.{◌≡◌, refl, sym, ap, ◌∙◌}
use mathlib.Core.Bool.{Bool, true, false, ◌&&◌}
use mathlib.Core.List.{List, [], ◌∷◌}
use native.Mathlib.Omega.{arith}
use borrow.Author.Tests.{le-leb, lt-leb, ne_eqb}
use lib.ListN.{length, get_or}
use Rattle.rules.specs.Tables.{State}
use Rattle.rules.specs.Script.{line_most, space, pieces, same_bytes, forms, malformed, reply_to, line_reply}

pub line-long : (st : State) (line : List ℕ) → line_most < length line → line_reply st line ≡ malformed st
unfolding line_reply
line-long st line h = rw (lt-leb (length line) line_most h)

-- a word of another length is no letter
no_letter : (c : ℕ) (word : List ℕ) → (length word ≡ 1 → ⊥) → same_bytes (c ∷ []) word ≡ false
no_letter c [] h = refl
no_letter c (x ∷ []) h = absurd (h refl)
no_letter c (x ∷ y ∷ ys) h = go (c == x)
  where
    go : (t : Bool) → t && false ≡ false
    go true = refl
    go false = refl

words-other : (st : State) (word : List ℕ) (words : List (List ℕ)) → (length word ≡ 1 → ⊥) → reply_to st forms (word ∷ words) ≡ malformed st
unfolding reply_to
words-other st word words h =
    rw (no_letter 110 word h, no_letter 97 word h, no_letter 117 word h, no_letter 108 word h, no_letter 114 word h)

letter-other : (st : State) (b : ℕ) (words : List (List ℕ))
    → (b ≡ 110 → ⊥) → (b ≡ 97 → ⊥) → (b ≡ 117 → ⊥) → (b ≡ 108 → ⊥) → (b ≡ 114 → ⊥) → reply_to st forms ((b ∷ []) ∷ words) ≡ malformed st
unfolding reply_to
letter-other st b words n a u l r = rw (other 110 n, other 97 a, other 117 u, other 108 l, other 114 r)
  where
    other : (c : ℕ) → (b ≡ c → ⊥) → (c == b) ≡ false
    other c h = ne_eqb c b λ e. h (sym e)

one_letter : (word : List ℕ) → length word ≡ 1 → word ≡ get_or word 0 0 ∷ []
one_letter [] e = absurd (omega arith)
one_letter (x ∷ []) e = refl
one_letter (x ∷ y ∷ ys) e = absurd (omega arith)

-- a line's reply, from its words
module _ (st : State) (line : List ℕ) (short : length line ≤ line_most) where
  pub line-words : (words : List (List ℕ)) → pieces space line ≡ words → line_reply st line ≡ reply_to st forms words
  unfolding line_reply
  line-words words w = rw (le-leb (length line) line_most short, w)

  module _ (word : List ℕ) (words : List (List ℕ)) (w : pieces space line ≡ word ∷ words) where
    pub line_other : (length word ≡ 1 → ⊥) → line_reply st line ≡ malformed st
    line_other h = line-words (word ∷ words) w ∙ words-other st word words h

    pub line-letter : length word ≡ 1 → line_reply st line ≡ reply_to st forms ((get_or word 0 0 ∷ []) ∷ words)
    line-letter h = line-words (word ∷ words) w ∙ ap (λ (v : List ℕ). reply_to st forms (v ∷ words)) (one_letter word h)

    -- another letter
    pub line_letter_other : length word ≡ 1 → (get_or word 0 0 ≡ 110 → ⊥) → (get_or word 0 0 ≡ 97 → ⊥) → (get_or word 0 0 ≡ 117 → ⊥)
        → (get_or word 0 0 ≡ 108 → ⊥) → (get_or word 0 0 ≡ 114 → ⊥) → line_reply st line ≡ malformed st
    line_letter_other h n a u l r = line-letter h ∙ letter-other st (get_or word 0 0) words n a u l r
