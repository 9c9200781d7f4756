-- A line's words that are still to be taken, and what a read number is to Script.
use Rattle.std.specs.Prelude.{ℕ, ◌+◌, ◌≤◌, ◌≡◌, List, [], ◌∷◌, ◌++◌, Option as Optional, Some, None}
use Rattle.std.proofs.Math.Option.{Option, some, none}
use Rattle.rules.specs.declared.Key.{Key}
use Rattle.rules.specs.Script.{space, pieces, both}
use Rattle.words.specs.declared.words.Words.{Words}

-- bytes put in front of the first of some pieces
abbrev pub onto : List ℕ → List (List ℕ) → List (List ℕ)
onto xs [] = xs ∷ []
onto xs (p ∷ ps) = (xs ++ p) ∷ ps

-- the words still to be taken: those of what is left of a line, if anything is
abbrev pub left : Words → List (List ℕ)
left w = elim w.rest [ Some line ↦ pieces space line.now | None ↦ [] ]

-- a byte's digit, or none for any other byte
abbrev pub IsDigit : ℕ → Optional ℕ → Type 0
IsDigit b (Some d) = (d ≤ 9) × (b ≡ 48 + d)
IsDigit b None = (48 ≤ b) × (b ≤ 57) → ⊥

abbrev pub option : Optional ℕ → Option ℕ
option (Some n) = some n
option None = none

-- the numbers of a key, and those of the words after it
abbrev pub key_before : Optional Key → Option (List ℕ) → Option (List ℕ)
key_before (Some key) rest = both (some key.slot) (both (some key.generation) rest)
key_before None rest = none
