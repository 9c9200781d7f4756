-- Worked numbers, all different: keys and truth values as a host hands them in, what an entry leaves, and a sequence of entries.
use Prim.Native.Nat.{ℕ, ◌+◌, ◌*◌}
use mathlib.Core.Path.{◌≡◌, refl}
use mathlib.Core.Bool.{true, false}
use mathlib.Core.List.{List, [], ◌∷◌, map}
use lib.ListN.{replicate}
use Rattle.rules.specs.declared.Head.{Head}
use Rattle.rules.specs.Tables.{State}
use Rattle.rules.specs.Refusals.{Said, Outcome}
use Rattle.rules.specs.TwoTables.{TwoOutcome}
use Rattle.rules.specs.Calls.{Call, len_surject, in_same_surject, get_element, get_shared, get_size, get_total, lookup, set_element, set_shared, check, new_run, insert, union, remove, remove_shared, list, drain, drain_all, clear, undo, exchange, compress, write_file}
use Rattle.rules.proofs.Cases.{key, pool}
use Rattle.numbers.specs.Numbers.{head_of, values, values_over, removal_numbers}
use Rattle.promises.specs.Host.{key_of, keys_of, is_set, Left, left, shown}
use Rattle.promises.specs.InPlace.{left_at}
use Rattle.promises.specs.Two.{left_two, shown_two}
use Rattle.promises.specs.Sequence.{numbers_of, heard, lent_state}

-- a key's slot, then its generation; four keys one after another
one_key : key_of 5 7 ≡ record { slot = 5; generation = 7 }
one_key = refl

four_keys : keys_of (11 ∷ 12 ∷ 13 ∷ 14 ∷ 15 ∷ 16 ∷ 17 ∷ 18 ∷ []) ≡ key 11 12 ∷ key 13 14 ∷ key 15 16 ∷ key 17 18 ∷ []
four_keys = refl

-- 0 is no, any other number yes
truths : map is_set (0 ∷ 1 ∷ 2 ∷ 18446744073709551615 ∷ []) ≡ false ∷ true ∷ true ∷ true ∷ []
truths = refl

-- what an entry leaves: each of its parts is its own
abbrev lent : List ℕ
lent = 11 ∷ 12 ∷ 13 ∷ 14 ∷ 15 ∷ 16 ∷ 17 ∷ 18 ∷ 19 ∷ 71 ∷ 72 ∷ 73 ∷ 74 ∷ []

abbrev taken : Head
taken = record { elems = pool 11 12 13 14; shared = pool 15 16 17 18; generation = 19; undo = record { kept = 71; gone = 72; moved = 73; value = 74 } }

abbrev leaving : Left
leaving = record { number = 4; state = record { head = taken; elems = 21 ∷ 22 ∷ []; shared = 31 ∷ 32 ∷ [] }; lent = 41 ∷ 42 ∷ []; out = 51 ∷ 52 ∷ [] }

leaves_thirteen : left 4 lent (21 ∷ 22 ∷ []) (31 ∷ 32 ∷ []) (41 ∷ 42 ∷ []) (51 ∷ 52 ∷ []) ≡ leaving
unfolding head_of
leaves_thirteen = refl

leaves_in_place : left_at 4 taken (21 ∷ 22 ∷ []) (31 ∷ 32 ∷ []) (51 ∷ 52 ∷ []) ≡ record { number = 4; state = leaving.state; lent = []; out = 51 ∷ 52 ∷ [] }
leaves_in_place = refl

lends : lent_state lent (21 ∷ 22 ∷ []) (31 ∷ 32 ∷ []) ≡ leaving.state
unfolding head_of
lends = refl

-- by an outcome: accepted, `out` holds the answer's numbers; refused, what it held
abbrev outcome_of : (number : ℕ) → Outcome
outcome_of number = record { said = record { number = number; values = 61 ∷ 62 ∷ []; over = true }; state = leaving.state; lent = 41 ∷ 42 ∷ [] }

shows : map (λ (numbers : Said → List ℕ). (shown numbers (51 ∷ 52 ∷ []) (outcome_of 0)).out) (values ∷ values_over ∷ removal_numbers ∷ []) ≡ (61 ∷ 62 ∷ []) ∷ (61 ∷ 62 ∷ 1 ∷ []) ∷ (61 ∷ 1 ∷ 62 ∷ 1 ∷ []) ∷ []
shows = refl

shows-accepted : shown values (51 ∷ 52 ∷ []) (outcome_of 0) ≡ record { number = 0; state = leaving.state; lent = 41 ∷ 42 ∷ []; out = 61 ∷ 62 ∷ [] }
shows-accepted = refl

shows-refused : shown values (51 ∷ 52 ∷ []) (outcome_of 4) ≡ leaving
shows-refused = refl

-- Ticket 5: the cause of 3, its first value, stands above it
shows-cause : (shown values (51 ∷ 52 ∷ []) (outcome_of 3)).number ≡ 3 + 256 * 61
shows-cause = refl

-- what the host is told of it
hears : heard 3 (51 ∷ 52 ∷ []) ≡ record { number = 3; values = 51 ∷ 52 ∷ []; over = false }
hears = refl

-- which entries tell a removal's numbers, which the overflow mark behind the values, and which the values alone
abbrev told : List Call → List (List ℕ)
told cs = map (λ c. numbers_of c (outcome_of 0).said) cs

tells_removal : told (remove (key 5 7) ∷ []) ≡ (61 ∷ 1 ∷ 62 ∷ 1 ∷ []) ∷ []
tells_removal = refl

tells_over : told (remove_shared (key 5 7) ∷ clear ∷ compress true ∷ []) ≡ replicate 3 (61 ∷ 62 ∷ 1 ∷ [])
tells_over = refl

abbrev plain : List Call
plain =
    new_run 1 2 0 ∷ insert (key 5 7) 1 0 ∷ union (key 5 7) (key 6 8) ∷ undo ∷ drain (key 5 7) ∷ drain_all ∷ list (key 5 7) ∷ len_surject (key 5 7) ∷ in_same_surject (key 5 7) (key 6 8) ∷
    get_element (key 5 7) ∷ get_shared (key 5 7) ∷ get_size (key 5 7) ∷ get_total (key 5 7) ∷ lookup (key 5 7) ∷ set_element (key 5 7) 1 ∷ set_shared (key 5 7) 2 ∷ exchange [] [] ∷ check ∷ write_file ∷ []

tells_values : told plain ≡ replicate 19 (61 ∷ 62 ∷ [])
tells_values = refl

-- two recorders' tables: each part of both sides is its own
abbrev lent_to : List ℕ
lent_to = 71 ∷ 72 ∷ 73 ∷ 74 ∷ 75 ∷ 76 ∷ 77 ∷ 78 ∷ 79 ∷ 83 ∷ 84 ∷ 85 ∷ 86 ∷ []

abbrev source : State
source = record { head = record { elems = pool 71 72 73 74; shared = pool 75 76 77 78; generation = 79; undo = record { kept = 83; gone = 84; moved = 85; value = 86 } }; elems = 81 ∷ []; shared = 82 ∷ [] }

leaves_two : left_two 4 lent (21 ∷ 22 ∷ []) (31 ∷ 32 ∷ []) lent_to (81 ∷ []) (82 ∷ []) (51 ∷ []) ≡ record { number = 4; target = leaving.state; source = source; out = 51 ∷ [] }
unfolding head_of
leaves_two = refl

abbrev two_of : (number : ℕ) → TwoOutcome
two_of number = record { said = record { number = number; values = 61 ∷ []; over = true }; target = leaving.state; source = source }

shows_two : map (λ (n : ℕ). shown_two values_over (51 ∷ []) (two_of n)) (0 ∷ 5 ∷ []) ≡ record { number = 0; target = leaving.state; source = source; out = 61 ∷ 1 ∷ [] } ∷ record { number = 5; target = leaving.state; source = source; out = 51 ∷ [] } ∷ []
shows_two = refl
