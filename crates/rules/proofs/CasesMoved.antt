-- Ticket 3 at worked cases: frames and headers move down in slot order and the new keys are told; beside it canonical compression of the same states; what the history makes of it; and each field of SameRuns, refuted where it should be.
use Prim.Native.Nat.{ℕ}
use mathlib.Core.Path.{◌≡◌, refl}
use mathlib.Core.Bool.{Bool, true, false}
use mathlib.Core.List.{List, [], ◌∷◌, ◌++◌, map}
use lib.ListN.{replicate}
use Rattle.rules.specs.declared.Key.{Key}
use Rattle.std.specs.Prelude.{Ok, Err}
use Rattle.rules.specs.declared.Refusal.TheVariants.{Short}
use Rattle.rules.specs.Tables.{frame_width, header_width, State}
use Rattle.rules.specs.Refusals.{Outcome}
use Rattle.rules.specs.Compress.{packed, place_of}
use Rattle.rules.specs.Calls.{compress, compress_with, Ready, step}
use Rattle.rules.specs.Renaming as by-compress
use Rattle.rules.specs.Renaming.{SameRuns, frames_by, classes_by, Renaming}
use Rattle.rules.specs.Answers.{one_value, said_step}
use Rattle.rules.specs.History.{History, Given, noted, sorted, begun_at, ordered, renamed, moved_down}
use Rattle.rules.proofs.Cases.{rules, Case, ◌gives◌, did, says, key, ok, over, refused, pool, at, e, s, m, zeros}
use Rattle.rules.proofs.Worked.{fresh43, drained, zeroed, reused, canonical}

-- holes on both sides: the frames 2 and 5 are a run, 4 is a sealed one whose header stands first; with any generation in the head
abbrev holed : (generation : ℕ) → State
holed g =
    at (pool 6 5 3 3) (pool 4 3 2 2) g
    (e 0 0 0 0 0 ++ e 1 20 3 5 5 ++ e 0 0 0 0 1 ++ e 2 40 1 4 4 ++ e 3 50 3 2 2 ++ zeros frame_width 1)
    (m 1 200 1 ++ s 0 0 0 ++ s 2 300 0 ++ zeros header_width 1)

-- moved down in slot order, and in canonical order
abbrev down : (generation : ℕ) → State
down g =
    at (pool 6 3 0 3) (pool 4 2 0 2) g
    (e g 20 2 3 3 ++ e g 40 1 2 2 ++ e g 50 2 1 1 ++ zeros frame_width 3)
    (m 1 200 1 ++ s 2 300 0 ++ zeros header_width 2)

abbrev by_runs : (generation : ℕ) → State
by_runs g =
    at (pool 6 3 0 3) (pool 4 2 0 2) g
    (e g 20 1 2 2 ++ e g 50 1 1 1 ++ e g 40 2 3 3 ++ zeros frame_width 3)
    (s 2 300 0 ++ m 1 200 1 ++ zeros header_width 2)

abbrev pairs : (generation : ℕ) → List ℕ
pairs g = 2 ∷ 1 ∷ 1 ∷ g ∷ 4 ∷ 2 ∷ 2 ∷ g ∷ 5 ∷ 3 ∷ 3 ∷ g ∷ []

-- a ring of three whose order is not that of the slots
abbrev crossed : State
crossed =
    at (pool 6 5 4 3) (pool 4 1 0 1) 7
    (e 0 0 0 0 0 ++ e 1 20 1 3 5 ++ e 2 30 1 5 2 ++ e 0 0 0 0 1 ++ e 3 50 1 2 3 ++ zeros frame_width 1)
    (s 3 100 0 ++ zeros header_width 3)

abbrev crossed_down : State
crossed_down =
    at (pool 6 3 0 3) (pool 4 1 0 1) 1
    (e 1 20 1 2 3 ++ e 1 30 1 3 1 ++ e 1 50 1 1 2 ++ zeros frame_width 3)
    (s 3 100 0 ++ zeros header_width 3)

-- nothing in it
abbrev bare : State
bare = at (pool 4 0 0 0) (pool 3 0 0 0) 2 (zeros frame_width 4) (zeros header_width 3)

abbrev table : List Case
table =
    -- Exactly enough places, with reset and without; more, and the rest is as it was; one number short
    step (holed 7) (replicate 12 9) (compress_with false) gives ok (3 ∷ []) (down 8) (pairs 8) ∷
    step (holed 7) (replicate 12 9) (compress_with true) gives ok (3 ∷ []) (down 1) (pairs 1) ∷
    step (holed 7) (replicate 14 9) (compress_with false) gives ok (3 ∷ []) (down 8) (pairs 8 ++ 9 ∷ 9 ∷ []) ∷
    step (holed 7) (replicate 11 9) (compress_with false) gives refused 7 (holed 7) (replicate 11 9) ∷
    step (holed 7) (replicate 11 9) (compress_with true) gives refused 7 (holed 7) (replicate 11 9) ∷
    -- The last generation: overflow is said, but not with reset
    step (holed 4294967295) (replicate 12 9) (compress_with false) gives over (3 ∷ []) (down 1) (pairs 1) ∷
    step (holed 4294967295) (replicate 12 9) (compress_with true) gives ok (3 ∷ []) (down 1) (pairs 1) ∷
    -- Links by name, not by place
    step crossed (replicate 12 9) (compress_with true) gives ok (3 ∷ []) crossed_down (2 ∷ 1 ∷ 1 ∷ 1 ∷ 3 ∷ 2 ∷ 2 ∷ 1 ∷ 5 ∷ 3 ∷ 3 ∷ 1 ∷ []) ∷
    -- Nothing to tell
    step fresh43 [] (compress_with false) gives ok (0 ∷ []) bare [] ∷
    step drained (9 ∷ []) (compress_with false) gives ok (0 ∷ []) zeroed (9 ∷ []) ∷
    -- P11's state under both: the tables are the same, the answers differ
    step reused (replicate 24 0) (compress false) gives ok [] canonical (replicate 24 0) ∷
    step reused (replicate 8 0) (compress_with false) gives ok (2 ∷ []) canonical (1 ∷ 2 ∷ 1 ∷ 3 ∷ 2 ∷ 1 ∷ 2 ∷ 3 ∷ []) ∷
    -- Canonical order is another one where runs lie across each other
    step (holed 7) (replicate 36 9) (compress false) gives ok [] (by_runs 8) (replicate 36 0) ∷
    []

pub moved : map did table ≡ map says table
unfolding rules
moved = refl

-- what the answer says
pub spoken : map (λ (o : Outcome). o.said) (step (holed 7) (replicate 12 0) (compress_with false) ∷ step (holed 4294967295) (replicate 12 0) (compress_with false) ∷ step (holed 7) [] (compress_with true) ∷ [])
    ≡ said_step one_value (Ok (record { head = fresh43.head; answer = 3; over = false })) ∷ said_step one_value (Ok (record { head = fresh43.head; answer = 3; over = true })) ∷ said_step one_value (Err Short) ∷ []
unfolding rules
spoken = refl

-- ---- the history
abbrev runs : List (List Key)
runs = (key 5 3 ∷ key 2 1 ∷ []) ∷ (key 4 2 ∷ []) ∷ []

abbrev given : Key → ℕ → Given
given k z = record { key = k; bytes = z }

abbrev before : History
before = record { runs = runs; unjoined = []; sealed = key 4 2 ∷ []; sizes = given (key 4 2) 9 ∷ given (key 5 3) 7 ∷ given (key 2 1) 8 ∷ []; put = 5; taken = 2; generation = 7 }

abbrev after : List (List Key) → List Key → List Given → (generation : ℕ) → History
after rs ks gs g = record { runs = rs; unjoined = []; sealed = ks; sizes = gs; put = 5; taken = 2; generation = g }

pub renamed_by_slot : map (λ (reset : Bool). noted before (compress_with reset) (step (holed 7) (replicate 12 0) (compress_with reset)).said) (false ∷ true ∷ [])
    ≡ after ((key 3 8 ∷ key 1 8 ∷ []) ∷ (key 2 8 ∷ []) ∷ []) (key 2 8 ∷ []) (given (key 2 8) 9 ∷ given (key 3 8) 7 ∷ given (key 1 8) 8 ∷ []) 8 ∷ after ((key 3 1 ∷ key 1 1 ∷ []) ∷ (key 2 1 ∷ []) ∷ []) (key 2 1 ∷ []) (given (key 2 1) 9 ∷ given (key 3 1) 7 ∷ given (key 1 1) 8 ∷ []) 1 ∷ []
unfolding rules moved_down
renamed_by_slot = refl

pub renamed_by_run : noted before (compress false) (step (holed 7) (replicate 36 0) (compress false)).said ≡ after ((key 2 8 ∷ key 1 8 ∷ []) ∷ (key 3 8 ∷ []) ∷ []) (key 3 8 ∷ []) (given (key 3 8) 9 ∷ given (key 2 8) 7 ∷ given (key 1 8) 8 ∷ []) 8
unfolding rules sorted begun_at ordered renamed
renamed_by_run = refl

pub refused_renames_none : noted before (compress_with false) (step (holed 7) [] (compress_with false)).said ≡ before
unfolding rules
refused_renames_none = refl

-- ---- the orders of both compressions, and what the claim over both says of these states
pub orders : frames_by (holed 7) (by-compress.canonical true) ∷ frames_by (holed 7) (by-compress.kept true) ∷ classes_by (holed 7) (by-compress.canonical true) ∷ classes_by (holed 7) (by-compress.kept true) ∷ []
    ≡ (2 ∷ 5 ∷ 4 ∷ []) ∷ (2 ∷ 4 ∷ 5 ∷ []) ∷ (3 ∷ 1 ∷ []) ∷ (1 ∷ 3 ∷ []) ∷ []
unfolding rules
orders = refl

pub claimed : Renaming → Ready (holed 7) → SameRuns (holed 7) (down 8) (place_of (2 ∷ 4 ∷ 5 ∷ [])) (place_of (1 ∷ 3 ∷ []))
unfolding rules
claimed claim R = claim (holed 7) R (replicate 12 9) (compress_with false) (by-compress.kept false) refl

pub claimed_canonical : Renaming → Ready (holed 7) → SameRuns (holed 7) (by_runs 8) (place_of (2 ∷ 5 ∷ 4 ∷ [])) (place_of (3 ∷ 1 ∷ []))
unfolding rules
claimed_canonical claim R = claim (holed 7) R (replicate 36 9) (compress false) (by-compress.canonical false) refl

-- an extent becomes the live number and a root 0; the capacity stays
pub packs : packed (pool 6 5 3 2) ≡ pool 6 2 0 2
packs = refl
