-- Ticket 10: a study is copied to other tables, every live slot to its own.
use Rattle.std.specs.Prelude.{ℕ, zero, suc, ◌*◌, ◌-◌, false, List, map, replicate, set, if◌then◌else◌}
use Rattle.rules.specs.declared.Pool.{Pool}
use Rattle.rules.specs.declared.Refusal.TheVariants.{NoElement, NoShared}
use Rattle.rules.specs.Notation.{◌<?◌, along, up_to, flat}
use Rattle.rules.specs.Tables.{blank, State, Side, elem_side, shared_side, field_of, is_live}
use Rattle.rules.specs.Compress.{padded}
use Rattle.rules.specs.Undo.{Whole}
use Rattle.rules.specs.TwoTables.{TwoRuling, refuse, accept, TwoOutcome, two_outcome, AtTwoDoors}

-- the last live slot of 1 to `n`; 0 if there is none
unfoldable pub last_to : Side → (n : ℕ) → ℕ
last_to t zero = 0
last_to t (suc n) = if is_live t (suc n) then suc n else last_to t n

abbrev pub last_live : Side → ℕ
last_live t = last_to t t.pool.extent

-- the lowest free slot of the `n` slots from `a` on; 0 if there is none
unfoldable pub free_from : Side → (n a : ℕ) → ℕ
free_from t zero a = 0
free_from t (suc n) a = if is_live t a then free_from t n (suc a) else a

-- a slot of the copy: a live one as it is; a free one names the next free one below the last live slot, and is zero beside
abbrev pub copied_row : Side → (slot : ℕ) → List ℕ
copied_row t s =
    if is_live t s
    then map (λ f. field_of t f s) (along suc t.width 0)
    else set (replicate t.width 0) t.link (free_from t (last_live t - s) (suc s))

-- a table of the copy, and its pool: the extent is the last live slot, free slots below are chained lowest first
unfoldable pub copied_table : (capacity : ℕ) → Side → List ℕ
copied_table capacity t = padded (capacity * t.width) (flat (map (copied_row t) (up_to (last_live t))))

unfoldable pub copied_pool : (capacity : ℕ) → Side → Pool
copied_pool capacity t = record { capacity = capacity; extent = last_live t; root = free_from t (last_live t) 1; live = t.pool.live }

-- the state of the copy, which has nothing to undo
abbrev pub copied : (elems shared : ℕ) → State → State
copied elems shared source =
    record {
      head = record { elems = copied_pool elems (elem_side source); shared = copied_pool shared (shared_side source); generation = source.head.generation; undo = blank };
      elems = copied_table elems (elem_side source);
      shared = copied_table shared (shared_side source);
    }

-- the call: 5, then 6, by the last live slots
unfoldable pub clone_from : (target source : State) → TwoRuling
clone_from target source =
    let elems = target.head.elems.capacity in
    let shared = target.head.shared.capacity in
    if elems <? last_live (elem_side source) then refuse NoElement else
    if shared <? last_live (shared_side source) then refuse NoShared else
    accept false (copied elems shared source) source

-- at the inner door, which rests on the target's shape and the source's soundness
abbrev pub clone_step : (target source : State) → TwoOutcome
clone_step target source = two_outcome target source (clone_from target source)

-- at the host's door: 2 is asked of the source alone
abbrev pub AtCopy : (target source : State) → TwoOutcome → Type 0
AtCopy target source = AtTwoDoors target source (Whole source) (clone_from target source)
