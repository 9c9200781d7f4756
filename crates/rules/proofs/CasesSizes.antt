-- Ticket 6, worked: sizes and totals through every call that puts in, takes out, joins or moves; and what is unsound.
use Prim.Native.Nat.{ℕ, ◌+◌, ◌*◌, ◌≤◌}
use mathlib.Core.Path.{◌≡◌, refl}
use mathlib.Core.Bool.{true, false}
use mathlib.Core.List.{List, [], ◌∷◌, ◌++◌, map}
use native.Mathlib.Omega.{arith}
use lib.Dec.{lit<}
use lib.ListN.{replicate}
use Rattle.rules.specs.declared.Key.{Key}
use Rattle.rules.specs.Tables.{most_slots, most_bytes, total_bound, frame_width, header_width, frame_at, header_at, State, cell, is_live, is_free, found}
use Rattle.rules.specs.Sound.{Sound}
use Rattle.rules.specs.Calls.{Call, step, new_run, insert, union, remove, remove_shared, drain, clear, undo, set_element, compress, compress_with, get_size, get_total}
use Rattle.rules.specs.History.{History, Given, noted, nothing, given_for, others_of, runs_but, inserted_runs, joined_runs, removed_runs, sorted, begun_at, ordered, renamed, moved_down}
use Rattle.rules.specs.Demand.{Agrees}
use Rattle.rules.proofs.Cases.{rules, Case, did, says, ◌gives◌, key, ok, dead, pool, at, joined_as, e, ez, s, mz, r, zeros}
use Rattle.rules.proofs.Worked.{fresh43}

abbrev most : ℕ
most = 4294967295

-- the first run grows frame by frame
abbrev one : State
one = at (pool 4 1 0 1) (pool 3 1 0 1) 1 (ez 1 10 1 1 1 7 ++ zeros frame_width 3) (mz 1 100 0 7 ++ zeros header_width 2)

abbrev three : State
three = at (pool 4 3 0 3) (pool 3 1 0 1) 1 (ez 1 10 1 2 3 7 ++ ez 1 11 1 3 1 20 ++ ez 1 12 1 1 2 300 ++ zeros frame_width 1) (mz 3 100 0 327 ++ zeros header_width 2)

abbrev two : State
two = at (pool 4 2 0 2) (pool 3 1 0 1) 1 (ez 1 10 1 2 2 7 ++ ez 1 11 1 1 1 20 ++ zeros frame_width 2) (mz 2 100 0 27 ++ zeros header_width 2)

-- a second run, and both joined from either side
abbrev four : State
four = at (pool 4 4 0 4) (pool 3 2 0 2) 1 (ez 1 10 1 2 3 7 ++ ez 1 11 1 3 1 20 ++ ez 1 12 1 1 2 300 ++ ez 1 20 2 4 4 4000) (mz 3 100 0 327 ++ mz 1 200 0 4000 ++ zeros header_width 1)

abbrev joined : (frames : List ℕ) → State
joined frames = joined_as 1 4 1 200 (at (pool 4 4 0 4) (pool 3 2 2 1) 1 frames (mz 4 100 0 4327 ++ zeros header_width 2))

abbrev from_first : State
from_first = joined (ez 1 10 1 2 4 7 ++ ez 1 11 1 3 1 20 ++ ez 1 12 1 4 2 300 ++ ez 1 20 1 1 3 4000)

-- one frame of the first run goes: the first, the middle one, the last
abbrev less : (slot : ℕ) → (total : ℕ) → (frames : List ℕ) → State
less slot total frames = at (pool 4 3 slot 2) (pool 3 1 0 1) 2 (frames ++ zeros frame_width 1) (mz 2 100 0 total ++ zeros header_width 2)

-- the second run's only frame goes; the first run is drained; freed whole; cleared
abbrev last_gone : State
last_gone = at (pool 4 4 4 3) (pool 3 2 2 1) 2 (ez 1 10 1 2 3 7 ++ ez 1 11 1 3 1 20 ++ ez 1 12 1 1 2 300 ++ e 0 0 0 0 0) (mz 3 100 0 327 ++ zeros header_width 2)

abbrev drained_first : State
drained_first = at (pool 4 4 2 1) (pool 3 2 1 1) 4 (e 0 0 0 0 0 ++ e 0 0 0 0 3 ++ e 0 0 0 0 1 ++ ez 1 20 2 4 4 4000) (s 0 0 0 ++ mz 1 200 0 4000 ++ zeros header_width 1)

abbrev freed_first : State
freed_first = at (pool 4 4 2 1) (pool 3 2 1 1) 2 (e 0 0 0 0 0 ++ e 0 0 0 0 3 ++ e 0 0 0 0 1 ++ ez 1 20 2 4 4 4000) (s 0 0 0 ++ mz 1 200 0 4000 ++ zeros header_width 1)

abbrev emptied : State
emptied = at (pool 4 0 0 0) (pool 3 0 0 0) 2 (zeros frame_width 4) (zeros header_width 3)

-- both compressions, where a slot is free
abbrev holed : State
holed = at (pool 4 4 2 3) (pool 3 2 0 2) 2 (ez 1 10 2 3 3 7 ++ e 0 0 0 0 0 ++ ez 1 12 2 1 1 300 ++ ez 1 20 1 4 4 4000) (mz 1 200 0 4000 ++ mz 2 100 1 307 ++ zeros header_width 1)

abbrev canonical : State
canonical = at (pool 4 3 0 3) (pool 3 2 0 2) 3 (ez 3 10 1 2 2 7 ++ ez 3 12 1 1 1 300 ++ ez 3 20 2 3 3 4000 ++ zeros frame_width 1) (mz 2 100 1 307 ++ mz 1 200 0 4000 ++ zeros header_width 1)

abbrev kept : State
kept = at (pool 4 3 0 3) (pool 3 2 0 2) 3 (ez 3 10 2 2 2 7 ++ ez 3 12 2 1 1 300 ++ ez 3 20 1 3 3 4000 ++ zeros frame_width 1) (mz 1 200 0 4000 ++ mz 2 100 1 307 ++ zeros header_width 1)

-- the greatest size in several frames
abbrev great : (frames : List ℕ) → (live total : ℕ) → State
great frames live total = at (pool 4 live 0 live) (pool 3 1 0 1) 1 frames (mz live 100 0 total ++ zeros header_width 2)

abbrev table : List Case
table =
    step fresh43 [] (new_run 10 100 7) gives ok (1 ∷ 1 ∷ []) one [] ∷
    step one [] (insert (key 1 1) 11 20) gives ok (2 ∷ 1 ∷ []) two [] ∷
    step two [] (insert (key 1 1) 12 300) gives ok (3 ∷ 1 ∷ []) three [] ∷
    step three [] (new_run 20 200 4000) gives ok (4 ∷ 1 ∷ []) four [] ∷
    step four [] (get_size (key 2 1)) gives ok (20 ∷ []) four [] ∷
    step four [] (get_total (key 2 1)) gives ok (327 ∷ []) four [] ∷
    step four [] (get_total (key 4 1)) gives ok (4000 ∷ []) four [] ∷
    step four [] (get_size (key 2 2)) gives dead 3 four [] ∷
    step four [] (get_total (key 0 1)) gives dead 1 four [] ∷
    step four [] (set_element (key 2 1) 11) gives ok (11 ∷ []) four [] ∷
    -- union from either side
    step four [] (union (key 1 1) (key 4 1)) gives ok (200 ∷ 1 ∷ 1 ∷ 1 ∷ []) from_first [] ∷
    step four [] (union (key 4 1) (key 1 1)) gives ok (200 ∷ 1 ∷ 1 ∷ 1 ∷ []) from_first [] ∷
    -- taken back, the total that comes off is summed along the ring
    step from_first [] undo gives ok [] four [] ∷
    -- removal of the first, the middle and the last frame, and of the only one
    step three [] (remove (key 1 1)) gives ok (10 ∷ []) (less 1 320 (e 0 0 0 0 0 ++ ez 1 11 1 3 3 20 ++ ez 1 12 1 2 2 300)) [] ∷
    step three [] (remove (key 3 1)) gives ok (12 ∷ []) (less 3 27 (ez 1 10 1 2 2 7 ++ ez 1 11 1 1 1 20 ++ e 0 0 0 0 0)) [] ∷
    step three [] (remove (key 2 1)) gives ok (11 ∷ []) (less 2 307 (ez 1 10 1 3 3 7 ++ e 0 0 0 0 0 ++ ez 1 12 1 1 1 300)) [] ∷
    step four [] (remove (key 4 1)) gives ok (20 ∷ 200 ∷ []) last_gone [] ∷
    step four (replicate 18 0) (drain (key 1 1)) gives ok (3 ∷ []) drained_first (r 1 1 10 0 0 0 ++ r 3 1 12 0 0 0 ++ r 2 1 11 1 100 0) ∷
    step four [] (remove_shared (key 1 1)) gives ok (100 ∷ []) freed_first [] ∷
    step four [] clear gives ok [] emptied [] ∷
    -- both compressions
    step holed (replicate 24 0) (compress false) gives ok [] canonical (replicate 24 0) ∷
    step holed (replicate 12 0) (compress_with false) gives ok (3 ∷ []) kept (1 ∷ 1 ∷ 1 ∷ 3 ∷ 3 ∷ 1 ∷ 2 ∷ 3 ∷ 4 ∷ 1 ∷ 3 ∷ 3 ∷ []) ∷
    -- the greatest size; what is past it is not kept
    step fresh43 [] (new_run 10 100 most) gives ok (1 ∷ 1 ∷ []) (great (ez 1 10 1 1 1 most ++ zeros frame_width 3) 1 most) [] ∷
    step fresh43 [] (new_run 10 100 4294967296) gives ok (1 ∷ 1 ∷ []) (great (ez 1 10 1 1 1 most ++ zeros frame_width 3) 1 most) [] ∷
    step (great (ez 1 10 1 1 1 most ++ zeros frame_width 3) 1 most) [] (insert (key 1 1) 11 most) gives ok (2 ∷ 1 ∷ []) (great (ez 1 10 1 2 2 most ++ ez 1 11 1 1 1 most ++ zeros frame_width 2) 2 8589934590) [] ∷
    step (great (ez 1 10 1 1 1 most ++ zeros frame_width 3) 1 most) [] (insert (key 1 1) 11 4294967296) gives ok (2 ∷ 1 ∷ []) (great (ez 1 10 1 2 2 most ++ ez 1 11 1 1 1 most ++ zeros frame_width 2) 2 8589934590) [] ∷
    []

pub sizes : map did table ≡ map says table
unfolding rules
sizes = refl

-- ---- what is unsound: a size past a u32, a total one off, whichever way
abbrev single : (size total : ℕ) → State
single size total = at (pool 1 1 0 1) (pool 1 1 0 1) 1 (ez 1 10 1 1 1 size) (mz 1 100 0 total)

pub size-high : Sound (single 4294967296 4294967296) → ⊥
unfolding cell is_live
size-high S = let l : 4294967296 ≤ 4294967295 = S.sizes 1 tt in omega arith

pub total-over : Sound (single 7 8) → ⊥
unfolding cell is_live
total-over S = let z : ◌≡◌ {A = ℕ} 8 7 = S.totals 1 tt in omega arith

pub total_under : Sound (single 7 6) → ⊥
unfolding cell is_live
total_under S = let z : ◌≡◌ {A = ℕ} 6 7 = S.totals 1 tt in omega arith

-- in a ring of two, the size of one frame alone
pub total_of_one : Sound (at (pool 2 2 0 2) (pool 1 1 0 1) 1 (ez 1 10 1 2 2 7 ++ ez 1 11 1 1 1 20) (mz 2 100 0 7)) → ⊥
unfolding cell is_live
total_of_one S = let z : ◌≡◌ {A = ℕ} 7 27 = S.totals 1 tt in omega arith

-- 65,536 frames of the greatest size stay below the bound by 65,536
pub bound : most_slots * most_bytes + most_slots ≡ total_bound
bound = refl

-- a free slot of either table with something in the new field
abbrev holding : (size total : ℕ) → State
holding size total = at (pool 2 2 1 1) (pool 2 2 1 1) 1 (ez 0 0 0 0 0 size ++ ez 1 10 2 2 2 7) (mz 0 0 0 total ++ mz 1 100 0 7)

pub free-size : Sound (holding 5 0) → ⊥
unfolding cell is_live is_free
free-size S = let z : ◌≡◌ {A = ℕ} 5 0 = S.zeros.free.0 1 frame_at.size tt (lit< tt) (λ q. omega (arith, q)) in omega arith

pub free-total : Sound (holding 0 5) → ⊥
unfolding cell is_live is_free
free-total S = let z : ◌≡◌ {A = ℕ} 5 0 = S.zeros.free.1 1 header_at.total tt (lit< tt) (λ q. omega (arith, q)) in omega arith

-- ---- the history's sizes: given at the accepted calls, those of frames that go forgotten
pub sized-by : State → History → List Call → List Given
sized-by st h [] = h.sizes
sized-by st h (c ∷ cs) = let o = step st (replicate 24 0) c in sized-by o.state (noted h c o.said) cs

abbrev given : Key → ℕ → Given
given k z = record { key = k; bytes = z }

abbrev calls : List Call
calls = new_run 10 100 7 ∷ insert (key 1 1) 11 20 ∷ insert (key 2 2) 12 300 ∷ new_run 20 200 4000 ∷ []

pub history-sizes : map (sized-by fresh43 nothing) (calls ∷ (calls ++ union (key 3 1) (key 1 1) ∷ []) ∷ (calls ++ remove (key 1 1) ∷ []) ∷ (calls ++ remove (key 1 1) ∷ compress_with true ∷ []) ∷ (calls ++ drain (key 1 1) ∷ insert (key 3 1) 9 5 ∷ []) ∷ (calls ++ clear ∷ []) ∷ [])
    ≡ (given (key 3 1) 4000 ∷ given (key 2 1) 20 ∷ given (key 1 1) 7 ∷ [])
    ∷ (given (key 3 1) 4000 ∷ given (key 2 1) 20 ∷ given (key 1 1) 7 ∷ [])
    ∷ (given (key 3 1) 4000 ∷ given (key 2 1) 20 ∷ [])
    ∷ (given (key 2 1) 4000 ∷ given (key 1 1) 20 ∷ [])
    ∷ (given (key 2 3) 5 ∷ given (key 3 1) 4000 ∷ [])
    ∷ []
    ∷ []
unfolding rules sized-by others_of runs_but inserted_runs joined_runs removed_runs sorted begun_at ordered renamed moved_down
history-sizes = refl

-- a total that the history does not have: the size of another frame, and one too many
abbrev alone : (size : ℕ) → History
alone z = record { runs = (key 1 1 ∷ []) ∷ []; unjoined = []; sealed = []; sizes = given (key 1 1) z ∷ []; put = 1; taken = 0; generation = 1 }

pub total-given : Agrees (single 7 7) (alone 8) → ⊥
unfolding cell is_live found others_of
total-given A = let z : ◌≡◌ {A = ℕ} 7 8 = A.totals (key 1 1) refl in omega arith

-- in a run of two, the sizes of both frames as they were given, each by its own key
abbrev both : (first second : ℕ) → History
both y z = record { runs = (key 1 1 ∷ key 2 1 ∷ []) ∷ []; unjoined = []; sealed = []; sizes = given (key 2 1) z ∷ given (key 1 1) y ∷ []; put = 2; taken = 0; generation = 1 }

pub total_given_both : Agrees two (both 7 19) → ⊥
unfolding cell is_live found others_of
total_given_both A = let z : ◌≡◌ {A = ℕ} 27 26 = A.totals (key 1 1) refl in omega arith

pub given-each : map (λ k. given_for k (both 7 19).sizes) (key 1 1 ∷ key 2 1 ∷ key 2 2 ∷ []) ≡ 7 ∷ 19 ∷ 0 ∷ []
given-each = refl

-- a size past a u32 is noted as it is kept
pub noted-most : sized-by fresh43 nothing (new_run 10 100 4294967296 ∷ []) ≡ given (key 1 1) most ∷ []
unfolding rules sized-by
noted-most = refl
