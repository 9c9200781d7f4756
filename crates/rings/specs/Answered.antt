-- What a walk round a ring answers.
use Rattle.std.specs.Prelude.{ℕ, List, [], ◌∷◌, map}
use Rattle.rules.specs.Notation.{along, flat}
use Rattle.rules.specs.Tables.{generation_of, next_of}

-- a place for each of `n` frames along next from `x`
abbrev pub places_along : (place : ℕ → List ℕ) → List ℕ → (n x : ℕ) → List ℕ
places_along place e n x = flat (map place (along (next_of e) n x))

-- Rules 9: their keys
abbrev pub key_place : List ℕ → (s : ℕ) → List ℕ
key_place e s = s ∷ generation_of e s ∷ []

abbrev pub keys_along : List ℕ → (n x : ℕ) → List ℕ
keys_along e n x = places_along (key_place e) e n x
