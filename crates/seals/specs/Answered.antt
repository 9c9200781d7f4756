-- What a seal writes for each frame.
use Rattle.std.specs.Prelude.{ℕ, List, [], ◌∷◌}
use Rattle.rules.specs.Tables.{generation_of, payload_of}

abbrev pub frame_place : List ℕ → (s : ℕ) → List ℕ
frame_place e s = s ∷ generation_of e s ∷ payload_of e s ∷ []
