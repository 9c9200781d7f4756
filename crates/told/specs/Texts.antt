-- What Script prints of an answer, which goes by what is said and by the lent buffer alone.
use Rattle.std.specs.Prelude.{ℕ, ◌*◌, ◌≤◌, ◌≡◌, List, ◌∷◌, map, length, get_or, if◌then◌else◌, ◌==◌}
use Rattle.rules.specs.declared.Rest.{Rest}
use Rattle.rules.specs.Notation.{flat}
use Rattle.rules.specs.Refusals.{Said, Outcome}
use Rattle.rules.specs.Slots.{empty}
use Rattle.rules.specs.Runs.{rest_values}
use Rattle.rules.specs.Drains.{key_width}
use Rattle.rules.specs.Script.{space, decimal, refused_text, shared_text}

-- an outcome's text, with what is printed if it is accepted
abbrev pub printed : (Outcome → List ℕ) → Outcome → List ℕ
printed print o = if o.said.number == 0 then print o else refused_text o.said.number o.said.values

-- the same of what is said and lent, whatever the state
abbrev pub text_of : (Outcome → List ℕ) → Said → (lent : List ℕ) → List ℕ
text_of print said lent = printed print (record { said = said; state = empty 1 1 1; lent = lent })

abbrev pub rest_text : Rest → List ℕ
rest_text rest = shared_text (rest_values rest)

abbrev pub spaced : List ℕ → List ℕ
spaced values = flat (map (λ v. space ∷ decimal v) values)

-- accepted, as many places as the answered number says
abbrev pub Places : Said → (lent : List ℕ) → Type 0
Places said lent = said.number ≡ 0 → get_or said.values 0 0 * key_width ≤ length lent
