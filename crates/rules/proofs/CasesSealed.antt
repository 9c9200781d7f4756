-- Ticket 1 at worked cases: the seal, what it refuses and what it leaves allowed, where the mark goes and where it is dropped; what the answer says; and the history's sealed keys.
use Prim.Native.Nat.{ℕ}
use mathlib.Core.Path.{◌≡◌, refl}
use mathlib.Core.Bool.{true, false}
use mathlib.Core.List.{List, [], ◌∷◌, ◌++◌, map}
use lib.ListN.{replicate}
use Rattle.rules.specs.declared.Key.{Key}
use Rattle.std.specs.Prelude.{Ok, Err}
use Rattle.rules.specs.declared.Cause.TheVariants.{OtherGeneration}
use Rattle.rules.specs.declared.Refusal.TheVariants.{Dead, Short, Sealed}
use Rattle.rules.specs.Tables.{frame_width, header_width, State}
use Rattle.rules.specs.Refusals.{Outcome}
use Rattle.rules.specs.Calls.{Call, len_surject, get_shared, set_element, set_shared, new_run, insert, union, remove, remove_shared, list, drain, seal, drain_all, clear, exchange, compress, step, fresh_step}
use Rattle.rules.specs.Answers.{seal_values, said}
use Rattle.rules.specs.History.{History, noted, noted_fresh, nothing, others_of, runs_but, inserted_runs, joined_runs, removed_runs, sorted, begun_at, ordered, renamed}
use Rattle.rules.proofs.Cases.{rules, Case, ◌gives◌, did, says, key, ok, refused, dead, pool, at, joined_as, e, s, m, r, zeros}
use Rattle.rules.proofs.Worked.{fresh43, three, four}

-- one, three and four with the first run sealed, and four with the second
abbrev one1 : State
one1 =
    at (pool 4 1 0 1) (pool 3 1 0 1) 1
    (e 1 10 1 1 1 ++ zeros frame_width 3)
    (m 1 100 1 ++ zeros header_width 2)

abbrev three1 : State
three1 =
    at (pool 4 3 0 3) (pool 3 1 0 1) 1
    (e 1 10 1 2 3 ++ e 1 11 1 3 1 ++ e 1 12 1 1 2 ++ zeros frame_width 1)
    (m 3 100 1 ++ zeros header_width 2)

abbrev four1 : State
four1 =
    at (pool 4 4 0 4) (pool 3 2 0 2) 1
    (e 1 10 1 2 3 ++ e 1 11 1 3 1 ++ e 1 12 1 1 2 ++ e 1 20 2 4 4)
    (m 3 100 1 ++ s 1 200 0 ++ zeros header_width 1)

abbrev four2 : State
four2 =
    at (pool 4 4 0 4) (pool 3 2 0 2) 1
    (e 1 10 1 2 3 ++ e 1 11 1 3 1 ++ e 1 12 1 1 2 ++ e 1 20 2 4 4)
    (s 3 100 0 ++ m 1 200 1 ++ zeros header_width 1)

-- three runs of one, the last sealed; and after insert at the first, or its union with the second
abbrev trio : State
trio =
    at (pool 4 3 0 3) (pool 3 3 0 3) 1
    (e 1 10 1 1 1 ++ e 1 20 2 2 2 ++ e 1 30 3 3 3 ++ zeros frame_width 1)
    (s 1 100 0 ++ s 1 200 0 ++ m 1 300 1)

abbrev trio_put : State
trio_put =
    at (pool 4 4 0 4) (pool 3 3 0 3) 1
    (e 1 10 1 4 4 ++ e 1 20 2 2 2 ++ e 1 30 3 3 3 ++ e 1 13 1 1 1)
    (s 2 100 0 ++ s 1 200 0 ++ m 1 300 1)

abbrev trio_joined : State
trio_joined =
    joined_as 1 2 1 200 (at (pool 4 3 0 3) (pool 3 3 2 2) 1
    (e 1 10 1 2 2 ++ e 1 20 1 1 1 ++ e 1 30 3 3 3 ++ zeros frame_width 1)
    (s 2 100 0 ++ s 0 0 0 ++ m 1 300 1))

abbrev trio_exchanged : State
trio_exchanged =
    at (pool 4 3 0 3) (pool 3 3 0 3) 1
    (e 1 10 1 1 1 ++ e 1 20 2 2 2 ++ e 1 30 3 3 3 ++ zeros frame_width 1)
    (s 1 100 0 ++ s 1 201 0 ++ m 1 301 1)

-- three1 after remove, drain and remove shared, setting, and a new run in the freed slots
abbrev less : State
less =
    at (pool 4 3 2 2) (pool 3 1 0 1) 2
    (e 1 10 1 3 3 ++ e 0 0 0 0 0 ++ e 1 12 1 1 1 ++ zeros frame_width 1)
    (m 2 100 1 ++ zeros header_width 2)

abbrev drained : State
drained =
    at (pool 4 3 3 0) (pool 3 1 1 0) 4
    (e 0 0 0 0 2 ++ e 0 0 0 0 0 ++ e 0 0 0 0 1 ++ zeros frame_width 1)
    (zeros header_width 3)

abbrev ring_gone : State
ring_gone =
    at (pool 4 3 1 0) (pool 3 1 1 0) 2
    (e 0 0 0 0 2 ++ e 0 0 0 0 3 ++ zeros frame_width 2)
    (zeros header_width 3)

abbrev payload_set : State
payload_set =
    at (pool 4 3 0 3) (pool 3 1 0 1) 1
    (e 1 10 1 2 3 ++ e 1 13 1 3 1 ++ e 1 12 1 1 2 ++ zeros frame_width 1)
    (m 3 100 1 ++ zeros header_width 2)

abbrev value_set : State
value_set =
    at (pool 4 3 0 3) (pool 3 1 0 1) 1
    (e 1 10 1 2 3 ++ e 1 11 1 3 1 ++ e 1 12 1 1 2 ++ zeros frame_width 1)
    (m 3 101 1 ++ zeros header_width 2)

abbrev begun_again : State
begun_again =
    at (pool 4 3 1 1) (pool 3 1 0 1) 4
    (e 0 0 0 0 2 ++ e 0 0 0 0 0 ++ e 4 30 1 3 3 ++ zeros frame_width 1)
    (s 1 300 0 ++ zeros header_width 2)

-- one1 after its last frame has gone
abbrev last_gone : State
last_gone =
    at (pool 4 1 1 0) (pool 3 1 1 0) 2
    (zeros frame_width 4)
    (zeros header_width 3)

-- a sealed run in the second shared slot, and both runs compressed
abbrev low : State
low =
    at (pool 4 3 0 3) (pool 3 2 0 2) 1
    (e 1 10 2 2 2 ++ e 1 20 2 1 1 ++ e 1 30 1 3 3 ++ zeros frame_width 1)
    (s 1 300 0 ++ m 2 200 1 ++ zeros header_width 1)

abbrev low_reset : State
low_reset =
    at (pool 4 3 0 3) (pool 3 2 0 2) 1
    (e 1 10 1 2 2 ++ e 1 20 1 1 1 ++ e 1 30 2 3 3 ++ zeros frame_width 1)
    (m 2 200 1 ++ s 1 300 0 ++ zeros header_width 1)

abbrev emptied : (generation : ℕ) → State
emptied g = at (pool 4 0 0 0) (pool 3 0 0 0) g (zeros frame_width 4) (zeros header_width 3)

abbrev table : List Case
table =
    -- The seal: value and count; slot, generation and payload of each frame in ring order from the key; the mark
    step three (replicate 10 9) (seal (key 2 1)) gives ok (100 ∷ 3 ∷ []) three1 (2 ∷ 1 ∷ 11 ∷ 1 ∷ 1 ∷ 10 ∷ 3 ∷ 1 ∷ 12 ∷ 9 ∷ []) ∷
    step four (replicate 9 9) (seal (key 1 1)) gives ok (100 ∷ 3 ∷ []) four1 (1 ∷ 1 ∷ 10 ∷ 3 ∷ 1 ∷ 12 ∷ 2 ∷ 1 ∷ 11 ∷ []) ∷
    step four (replicate 3 9) (seal (key 4 1)) gives ok (200 ∷ 1 ∷ []) four2 (4 ∷ 1 ∷ 20 ∷ []) ∷
    -- 7: a short buffer, and then neither places nor mark
    step three (replicate 8 9) (seal (key 2 1)) gives refused 7 three (replicate 8 9) ∷
    step three [] (seal (key 2 1)) gives refused 7 three [] ∷
    -- 12: insert, union from either side, and sealing twice
    step three1 [] (insert (key 1 1) 13 0) gives refused 12 three1 [] ∷
    step four1 [] (union (key 1 1) (key 4 1)) gives refused 12 four1 [] ∷
    step four1 [] (union (key 4 1) (key 1 1)) gives refused 12 four1 [] ∷
    step four2 [] (union (key 1 1) (key 4 1)) gives refused 12 four2 [] ∷
    step four2 [] (union (key 4 1) (key 1 1)) gives refused 12 four2 [] ∷
    step three1 (replicate 9 9) (seal (key 3 1)) gives refused 12 three1 (replicate 9 9) ∷
    -- 3 and 4 before 12
    step three1 [] (insert (key 1 2) 13 0) gives dead 3 three1 [] ∷
    step three1 [] (union (key 1 1) (key 4 1)) gives dead 1 three1 [] ∷
    step three1 [] (union (key 4 1) (key 1 1)) gives dead 1 three1 [] ∷
    step three1 (replicate 9 9) (seal (key 4 1)) gives dead 1 three1 (replicate 9 9) ∷
    step three1 [] (union (key 1 1) (key 2 1)) gives refused 4 three1 [] ∷
    -- 12 before 5 and before 7
    step four1 [] (insert (key 1 1) 13 0) gives refused 12 four1 [] ∷
    step four1 [] (insert (key 4 1) 13 0) gives refused 5 four1 [] ∷
    step three1 [] (seal (key 3 1)) gives refused 12 three1 [] ∷
    -- Other runs go on
    step trio [] (insert (key 1 1) 13 0) gives ok (4 ∷ 1 ∷ []) trio_put [] ∷
    step trio [] (union (key 1 1) (key 2 1)) gives ok (200 ∷ 1 ∷ 1 ∷ 1 ∷ []) trio_joined [] ∷
    -- Reading, setting, removing and draining stay allowed; the mark stays as long as the run
    step three1 [] (len_surject (key 1 1)) gives ok (3 ∷ []) three1 [] ∷
    step three1 [] (get_shared (key 1 1)) gives ok (100 ∷ []) three1 [] ∷
    step three1 (replicate 6 0) (list (key 1 1)) gives ok (3 ∷ []) three1 (1 ∷ 1 ∷ 3 ∷ 1 ∷ 2 ∷ 1 ∷ []) ∷
    step three1 [] (set_element (key 2 1) 13) gives ok (11 ∷ []) payload_set [] ∷
    step three1 [] (set_shared (key 2 1) 101) gives ok (100 ∷ []) value_set [] ∷
    step trio [] (exchange (key 3 1 ∷ key 2 1 ∷ []) (301 ∷ 201 ∷ [])) gives ok (300 ∷ 200 ∷ []) trio_exchanged [] ∷
    step three1 [] (remove (key 2 1)) gives ok (11 ∷ []) less [] ∷
    step less [] (insert (key 1 1) 13 0) gives refused 12 less [] ∷
    step three1 (replicate 18 0) (drain (key 2 1)) gives ok (3 ∷ []) drained (r 2 1 11 0 0 0 ++ r 1 1 10 0 0 0 ++ r 3 1 12 1 100 0) ∷
    step three1 [] (remove_shared (key 3 1)) gives ok (100 ∷ []) ring_gone [] ∷
    step one1 [] (remove (key 1 1)) gives ok (10 ∷ 100 ∷ []) last_gone [] ∷
    -- A new run in the freed slot is not sealed
    step drained [] (new_run 30 300 0) gives ok (3 ∷ 4 ∷ []) begun_again [] ∷
    -- Compression carries the mark; clear, fresh and drain all drop it
    step low (replicate 24 0) (compress true) gives ok [] low_reset (replicate 24 0) ∷
    step three1 [] clear gives ok [] (emptied 2) [] ∷
    fresh_step three1 4 3 gives ok [] fresh43 [] ∷
    step one1 (replicate 6 0) drain_all gives ok (1 ∷ []) (emptied 3) (r 1 1 10 1 100 0) ∷
    []

pub sealed : map did table ≡ map says table
unfolding rules
sealed = refl

-- what the answer says
pub spoken : map (λ (o : Outcome). o.said) (step three (replicate 9 0) (seal (key 2 1)) ∷ step three [] (seal (key 2 1)) ∷ step three1 [] (seal (key 2 1)) ∷ step three1 [] (seal (key 2 2)) ∷ [])
    ≡ said seal_values (Ok (record { value = 100; count = 3 })) ∷ said seal_values (Err Short) ∷ said seal_values (Err Sealed) ∷ said seal_values (Err (Dead OtherGeneration)) ∷ []
unfolding rules
spoken = refl

-- ---- the history's sealed keys

-- after some calls, each lent enough
pub recalled : State → History → List Call → List Key
recalled st h [] = h.sealed
recalled st h (c ∷ cs) = let o = step st (replicate 24 0) c in recalled o.state (noted h c o.said) cs

abbrev calls : List Call
calls = new_run 10 100 0 ∷ insert (key 1 1) 11 0 ∷ new_run 20 200 0 ∷ seal (key 2 1) ∷ []

abbrev rows : List (List Call)
rows =
    calls ∷
    -- refused calls change nothing; other runs go on
    (calls ++ insert (key 1 1) 12 0 ∷ union (key 3 1) (key 1 1) ∷ seal (key 1 1) ∷ insert (key 3 1) 21 0 ∷ []) ∷
    (calls ++ new_run 30 300 0 ∷ union (key 3 1) (key 4 1) ∷ []) ∷
    (calls ++ len_surject (key 3 1) ∷ get_shared (key 3 1) ∷ set_element (key 3 1) 9 ∷ set_shared (key 3 1) 9 ∷ exchange (key 3 1 ∷ key 1 1 ∷ []) (9 ∷ 9 ∷ []) ∷ list (key 3 1) ∷ []) ∷
    (calls ++ seal (key 3 1) ∷ []) ∷
    (calls ++ remove (key 2 1) ∷ []) ∷
    (calls ++ remove (key 2 1) ∷ compress false ∷ []) ∷
    (calls ++ remove_shared (key 2 1) ∷ []) ∷
    (calls ++ drain (key 2 1) ∷ []) ∷
    (calls ++ drain (key 3 1) ∷ []) ∷
    (calls ++ compress true ∷ remove (key 3 1) ∷ []) ∷
    -- a key that is given anew is not sealed: the reset brings it back
    (calls ++ drain (key 2 1) ∷ compress true ∷ new_run 40 400 0 ∷ []) ∷
    (calls ++ drain_all ∷ []) ∷
    (calls ++ clear ∷ []) ∷
    []

pub recalls : map (recalled fresh43 nothing) rows
    ≡ (key 2 1 ∷ key 1 1 ∷ [])
    ∷ (key 2 1 ∷ key 1 1 ∷ [])
    ∷ (key 2 1 ∷ key 1 1 ∷ [])
    ∷ (key 2 1 ∷ key 1 1 ∷ [])
    ∷ (key 3 1 ∷ key 2 1 ∷ key 1 1 ∷ [])
    ∷ (key 1 1 ∷ [])
    ∷ (key 1 3 ∷ [])
    ∷ []
    ∷ []
    ∷ (key 2 1 ∷ key 1 1 ∷ [])
    ∷ (key 2 1 ∷ key 1 1 ∷ [])
    ∷ []
    ∷ []
    ∷ []
    ∷ []
unfolding rules recalled others_of runs_but inserted_runs joined_runs removed_runs sorted begun_at ordered renamed
recalls = refl

pub freshened : noted_fresh (record { runs = (key 1 1 ∷ []) ∷ []; unjoined = (key 7 7 ∷ []) ∷ []; sealed = key 1 1 ∷ []; sizes = record { key = key 1 1; bytes = 9 } ∷ []; put = 1; taken = 0; generation = 2 }) (ok [] fresh43 []).said ≡ record { runs = []; unjoined = (key 7 7 ∷ []) ∷ []; sealed = []; sizes = []; put = 1; taken = 1; generation = 1 }
freshened = refl
