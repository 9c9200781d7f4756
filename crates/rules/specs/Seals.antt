-- Ticket 1 of document 02: seal a run in one call.
use Rattle.std.specs.Prelude.{ℕ, false, List, [], ◌∷◌, ◌++◌, map, if◌then◌else◌}
use Rattle.rules.specs.declared.Key.{Key}
use Rattle.rules.specs.declared.Refusal.TheVariants.{Short, Sealed}
use Rattle.rules.specs.Notation.{flat}
use Rattle.rules.specs.Tables.{header_width, header_at, put, payload_of, class_of, value_of, State, with_shared, forgetting, key_at, size_at, is_sealed}
use Rattle.rules.specs.Refusals.{Ruling, refuse, accept, with_live}
use Rattle.rules.specs.Runs.{key_values}
use Rattle.rules.specs.Drains.{ring, is_short}

-- a place holds a key and the frame's payload (docs/LAYOUT.md)
abbrev pub seal_width : ℕ
seal_width = 3

abbrev pub seal_place : State → (x : ℕ) → List ℕ
seal_place st x = key_values (key_at st x) ++ payload_of st.elems x ∷ []

-- the mark of a class is set
unfoldable pub sealed : State → (class : ℕ) → State
sealed st c = forgetting (with_shared st (put header_width st.shared c header_at.mark 1))

-- the answer is the header's value and count; the places are written in ring order from the key
unfoldable pub seal : State → (lent : List ℕ) → Key → Ruling
seal st lent k =
    with_live st k λ x.
    if is_sealed st x then refuse Sealed else
    if is_short lent (size_at st x) seal_width then refuse Short else
    accept (value_of st.shared (class_of st.elems x) ∷ size_at st x ∷ []) false (sealed st (class_of st.elems x)) (flat (map (seal_place st) (ring st x)))
