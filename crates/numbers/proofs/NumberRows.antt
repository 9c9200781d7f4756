-- Worked numbers, all different: which number of a lent head is which field, and which numbers stand in `out`.
use Prim.Native.Nat.{ℕ}
use mathlib.Core.Path.{◌≡◌, refl}
use mathlib.Core.Bool.{Bool, true, false}
use mathlib.Core.List.{List, [], ◌∷◌, map}
use Rattle.rules.specs.declared.Head.{Head}
use Rattle.rules.specs.Refusals.{Said}
use Rattle.numbers.specs.Numbers.{head_of, values, values_over, removal_numbers, result_of, Answered}
use Rattle.numbers.proofs.Thirteen.{thirteen_of}

-- the lent head (docs/LAYOUT.md)
abbrev lent : List ℕ
lent = 11 ∷ 12 ∷ 13 ∷ 14 ∷ 15 ∷ 16 ∷ 17 ∷ 18 ∷ 19 ∷ 20 ∷ 21 ∷ 22 ∷ 23 ∷ []

abbrev taken : Head
taken =
    record {
      elems = record { capacity = 11; extent = 12; root = 13; live = 14 };
      shared = record { capacity = 15; extent = 16; root = 17; live = 18 };
      generation = 19;
      undo = record { kept = 20; gone = 21; moved = 22; value = 23 };
    }

head : head_of lent ≡ taken
unfolding head_of
head = refl

thirteen : thirteen_of taken ≡ lent
thirteen = refl

-- what is said, and the numbers in `out`
abbrev said : (number : ℕ) → List ℕ → Bool → Said
said number values over = record { number = number; values = values; over = over }

record Row : Type 0 where
  numbers : Said → List ℕ
  said : Said
  out : List ℕ

abbrev table : List Row
table =
    record { numbers = values; said = said 0 [] true; out = [] } ∷
    record { numbers = values; said = said 0 (21 ∷ 22 ∷ 23 ∷ 24 ∷ []) true; out = 21 ∷ 22 ∷ 23 ∷ 24 ∷ [] } ∷
    record { numbers = values_over; said = said 0 [] false; out = 0 ∷ [] } ∷
    record { numbers = values_over; said = said 0 [] true; out = 1 ∷ [] } ∷
    record { numbers = values_over; said = said 0 (31 ∷ 32 ∷ []) false; out = 31 ∷ 32 ∷ 0 ∷ [] } ∷
    record { numbers = values_over; said = said 0 (31 ∷ 32 ∷ []) true; out = 31 ∷ 32 ∷ 1 ∷ [] } ∷
    record { numbers = removal_numbers; said = said 0 [] true; out = [] } ∷
    record { numbers = removal_numbers; said = said 0 (41 ∷ []) false; out = 41 ∷ 0 ∷ 0 ∷ 0 ∷ [] } ∷
    record { numbers = removal_numbers; said = said 0 (41 ∷ []) true; out = 41 ∷ 0 ∷ 0 ∷ 1 ∷ [] } ∷
    record { numbers = removal_numbers; said = said 0 (41 ∷ 42 ∷ []) false; out = 41 ∷ 1 ∷ 42 ∷ 0 ∷ [] } ∷
    record { numbers = removal_numbers; said = said 0 (41 ∷ 42 ∷ []) true; out = 41 ∷ 1 ∷ 42 ∷ 1 ∷ [] } ∷
    record { numbers = removal_numbers; said = said 0 (41 ∷ 42 ∷ 43 ∷ []) true; out = 41 ∷ 1 ∷ 42 ∷ 1 ∷ [] } ∷
    []

told : map (λ (r : Row). r.numbers r.said) table ≡ map (λ (r : Row). r.out) table
told = refl

-- an accepted answer's numbers replace what `out` held, a refusal's number leaves it
accepted : Answered removal_numbers (said 0 (41 ∷ 42 ∷ []) true) (51 ∷ 52 ∷ 53 ∷ 54 ∷ []) 0 (41 ∷ 1 ∷ 42 ∷ 1 ∷ [])
accepted = record { number = refl; out = refl }

refused : Answered removal_numbers (said 4 (41 ∷ 42 ∷ []) true) (51 ∷ 52 ∷ 53 ∷ 54 ∷ []) 4 (51 ∷ 52 ∷ 53 ∷ 54 ∷ [])
refused = record { number = refl; out = refl }

-- Ticket 5: the result, with the cause of 3 above its low eight bits
results : map result_of (said 0 (1 ∷ []) true ∷ said 2 [] false ∷ said 3 (1 ∷ []) false ∷ said 3 (2 ∷ []) false ∷ said 3 (3 ∷ []) false ∷ said 3 (1 ∷ 9 ∷ []) true ∷ said 4 [] false ∷ said 9 [] false ∷ said 10 [] false ∷ said 11 [] false ∷ said 12 [] false ∷ [])
    ≡ 0 ∷ 2 ∷ 259 ∷ 515 ∷ 771 ∷ 259 ∷ 4 ∷ 9 ∷ 10 ∷ 11 ∷ 12 ∷ []
results = refl
