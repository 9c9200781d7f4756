-- How a lent head and an answer stand as numbers (docs/LAYOUT.md).
use Rattle.std.specs.Prelude.{ℕ, ◌+◌, ◌*◌, ◌≡◌, Bool, List, [], ◌∷◌, ◌++◌, get_or, if◌then◌else◌, ◌==◌}
use Rattle.rules.specs.declared.Head.{Head}
use Rattle.rules.specs.Refusals.{Said}

-- the thirteen numbers of a lent head
unfoldable pub head_of : List ℕ → Head
head_of h =
    record {
      elems = record { capacity = get_or h 0 0; extent = get_or h 1 0; root = get_or h 2 0; live = get_or h 3 0 };
      shared = record { capacity = get_or h 4 0; extent = get_or h 5 0; root = get_or h 6 0; live = get_or h 7 0 };
      generation = get_or h 8 0;
      undo = record { kept = get_or h 9 0; gone = get_or h 10 0; moved = get_or h 11 0; value = get_or h 12 0 };
    }

-- the numbers of an answer: its values; those and the overflow mark; a removal's payload, whether it was the last, the shared value, overflow
abbrev pub values : Said → List ℕ
values said = said.values

abbrev pub flag : Bool → ℕ
flag b = if b then 1 else 0

abbrev pub values_over : Said → List ℕ
values_over said = said.values ++ flag said.over ∷ []

abbrev pub removal : (values : List ℕ) → (over : Bool) → List ℕ
removal [] over = []
removal (payload ∷ []) over = payload ∷ 0 ∷ 0 ∷ flag over ∷ []
removal (payload ∷ value ∷ more) over = payload ∷ 1 ∷ value ∷ flag over ∷ []

abbrev pub removal_numbers : Said → List ℕ
removal_numbers said = removal said.values said.over

-- Ticket 5: the result of an answer is its number, and the cause of 3 stands above the low eight bits
abbrev pub result_of : Said → ℕ
result_of said = if said.number == 3 then 3 + 256 * get_or said.values 0 0 else said.number

-- what the result and `out` say of an answer
pub record Answered (numbers : Said → List ℕ) (said : Said) (before : List ℕ) (r : ℕ) (after : List ℕ) : Type 0 where
  pub number : r ≡ result_of said
  pub out : after ≡ (if said.number == 0 then numbers said else before)
