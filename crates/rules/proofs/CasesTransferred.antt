-- Ticket 12 at worked cases: each refusal and each order, exact room and one short, an empty source with a full target, a source at the last generation, undo on either side; the door; what the histories of both sides make of it.
use Prim.Native.Nat.{ℕ, ◌-◌}
use mathlib.Core.Path.{◌≡◌, refl}
use mathlib.Core.Bool.{Bool, true, false}
use mathlib.Core.List.{List, [], ◌∷◌, ◌++◌, map}
use Rattle.rules.specs.declared.Key.{Key}
use Rattle.std.specs.Prelude.{Ok, Err}
use Rattle.rules.specs.declared.Refusal.TheVariants.{NoShared}
use Rattle.rules.specs.Tables.{frame_width, header_width, State}
use Rattle.rules.specs.Slots.{empty}
use Rattle.rules.specs.TwoTables.{TwoOutcome, two_outcome, after_both, two_doors}
use Rattle.rules.specs.Move
use Rattle.rules.specs.Move.{is_none, transfer, transfer_step}
use Rattle.rules.specs.History.{History, Given, sorted, begun_at, ordered, renamed, nothing, moved_into, noted_to, noted_from}
use Rattle.rules.proofs.Cases.{rules, key, pool, at, joined_as, ez, mz, zeros}
use Rattle.rules.proofs.CasesUndo.{first_kept}
use Rattle.rules.proofs.Worked.{fresh43, drained}
use Rattle.rules.proofs.Apart.{none}
use Rattle.rules.proofs.Sounds.{trap}
use Rattle.rules.proofs.CasesCopied.{copying, CopyCase, ◌copies◌, made, meant, study, dirty, full, first, took, left}

-- what a row computes with, beside the other rules
unfoldable pub moves : Type 0
unfolding Move.is_none Move.transfer
moves = Unit {0}

-- the runs of the study in canonical order: 2 and 5, then 4, which is sealed; with these payloads of the first and the last
abbrev pub landed : (elems shared g first last : ℕ) → State
landed a b g first last =
    at (pool a 3 0 3) (pool b 2 0 2) g
    (ez g first 1 2 2 7 ++ ez g 51 1 1 1 14 ++ ez g last 2 3 3 11 ++ zeros frame_width (a - 3))
    (mz 2 200 0 21 ++ mz 1 400 1 11 ++ zeros header_width (b - 2))

abbrev pub lands : (elems shared g : ℕ) → State
lands a b g = landed a b g 20 40

abbrev last_of : (generation : ℕ) → State
last_of g = at (pool 1 1 0 1) (pool 1 1 0 1) g (ez g 10 1 1 1 0) (mz 1 100 0 0)

-- where a source goes that is just after a union
abbrev joined_lands : State
joined_lands = at (pool 5 3 0 3) (pool 5 2 0 2) 3 (ez 3 10 1 2 2 0 ++ ez 3 20 1 1 1 0 ++ ez 3 30 2 3 3 0 ++ zeros frame_width 2) (mz 2 100 0 0 ++ mz 1 300 0 0 ++ zeros header_width 3)

-- accepted, with overflow said of the source
abbrev pub overflowed : (target source : State) → TwoOutcome
overflowed t s = record { said = record { number = 0; values = []; over = true }; target = t; source = s }

abbrev table : List CopyCase
table =
    -- Room to spare, exact room by live numbers, one short: 5, 6, and 5 before 6; the source is as clear leaves it
    transfer_step (dirty 8 6) study 3 copies took (lands 8 6 3) (empty 7 5 6) ∷
    transfer_step (dirty 3 2) study 3 copies took (lands 3 2 3) (empty 7 5 6) ∷
    transfer_step (dirty 2 2) study 3 copies left 5 (dirty 2 2) study ∷
    transfer_step (dirty 3 1) study 3 copies left 6 (dirty 3 1) study ∷
    transfer_step (dirty 2 1) study 3 copies left 5 (dirty 2 1) study ∷
    -- 13 for a generation of 0, before 5; the last generation is one, the next is none
    transfer_step (dirty 8 6) study 0 copies left 13 (dirty 8 6) study ∷
    transfer_step (dirty 2 1) study 0 copies left 13 (dirty 2 1) study ∷
    transfer_step (dirty 3 2) study 4294967295 copies took (lands 3 2 4294967295) (empty 7 5 6) ∷
    transfer_step (dirty 3 2) study 4294967296 copies left 13 (dirty 3 2) study ∷
    -- An empty source is not touched, and leaves an empty target with the generation given; so does a drained one, whose slots are free; refused 13 it leaves the target alone
    transfer_step full fresh43 9 copies took (empty 2 1 9) fresh43 ∷
    transfer_step study drained 9 copies took (empty 7 5 9) drained ∷
    transfer_step full fresh43 0 copies left 13 full fresh43 ∷
    transfer_step full (empty 4 3 4294967295) 1 copies took (empty 2 1 1) (empty 4 3 4294967295) ∷
    -- The source's generation is the last one: its overflow is said
    transfer_step (dirty 1 1) first 2 copies overflowed (last_of 2) (empty 3 2 1) ∷
    -- Whatever the target held goes; also to tables as its own
    transfer_step study full 5 copies took (at (pool 7 2 0 2) (pool 5 1 0 1) 5 (ez 5 10 1 2 2 0 ++ ez 5 11 1 1 1 0 ++ zeros frame_width 5) (mz 2 100 0 0 ++ zeros header_width 4)) (empty 2 1 10) ∷
    transfer_step study study 5 copies took (lands 7 5 5) (empty 7 5 6) ∷
    -- Neither side has anything to undo then; refused, both keep what they had
    transfer_step (dirty 5 5) first_kept 3 copies took joined_lands (empty 5 5 2) ∷
    transfer_step (joined_as 1 2 1 7 (dirty 5 5)) first_kept 3 copies took joined_lands (empty 5 5 2) ∷
    transfer_step first_kept fresh43 4 copies took (empty 5 5 4) fresh43 ∷
    transfer_step (joined_as 1 2 1 7 (dirty 2 5)) first_kept 3 copies left 5 (joined_as 1 2 1 7 (dirty 2 5)) first_kept ∷
    []

pub transferred : map made table ≡ map meant table
unfolding rules copying moves
transferred = refl

-- of the numbers that a u32 can be only 0 is no generation
pub generations : map is_none (0 ∷ 1 ∷ 2 ∷ 4294967295 ∷ 4294967296 ∷ []) ≡ true ∷ false ∷ false ∷ false ∷ true ∷ []
unfolding rules moves
generations = refl

-- ---- the door: 1 of the source, 1 of the target before 2, 2 before 13, 13 before 5. The 2 of the source and that of the target are one number: which of them was tested first is not seen
abbrev at_door : (target source : State) → (g : ℕ) → (sound : Bool) → TwoOutcome
at_door t s g sound = two_outcome t s (two_doors t s sound (transfer t s g))

abbrev doors : List CopyCase
doors =
    at_door study full 3 true copies took (at (pool 7 2 0 2) (pool 5 1 0 1) 3 (ez 3 10 1 2 2 0 ++ ez 3 11 1 1 1 0 ++ zeros frame_width 5) (mz 2 100 0 0 ++ zeros header_width 4)) (empty 2 1 10) ∷
    at_door study none 3 true copies left 1 study none ∷
    at_door none study 3 true copies left 1 none study ∷
    at_door none trap 0 false copies left 1 none trap ∷
    at_door study trap 0 false copies left 2 study trap ∷
    at_door trap study 0 false copies left 2 trap study ∷
    at_door trap trap 0 false copies left 2 trap trap ∷
    at_door full study 0 true copies left 13 full study ∷
    at_door full study 1 true copies left 5 full study ∷
    []

pub at-door : map made doors ≡ map meant doors
unfolding rules copying moves
at-door = refl

-- ---- the histories: for the target all old frames go and the moved ones come, for the source all go; nothing if refused, and not for an empty source
abbrev given : Key → ℕ → Given
given k z = record { key = k; bytes = z }

abbrev before : History
before = record { runs = (key 5 4 ∷ key 2 1 ∷ []) ∷ (key 4 1 ∷ []) ∷ []; unjoined = (key 5 4 ∷ []) ∷ (key 2 1 ∷ []) ∷ (key 4 1 ∷ []) ∷ []; sealed = key 4 1 ∷ []; sizes = given (key 5 4) 14 ∷ given (key 4 1) 11 ∷ given (key 2 1) 7 ∷ []; put = 7; taken = 4; generation = 5 }

-- a target that had one frame, of six put in
abbrev held : History
held = record { runs = (key 1 2 ∷ []) ∷ []; unjoined = (key 3 1 ∷ []) ∷ []; sealed = key 1 2 ∷ []; sizes = given (key 1 2) 9 ∷ []; put = 6; taken = 5; generation = 2 }

abbrev after : (unjoined : List (List Key)) → (put taken : ℕ) → History
after un p t = record { runs = (key 2 3 ∷ key 1 3 ∷ []) ∷ (key 3 3 ∷ []) ∷ []; unjoined = un; sealed = key 3 3 ∷ []; sizes = given (key 2 3) 14 ∷ given (key 3 3) 11 ∷ given (key 1 3) 7 ∷ []; put = p; taken = t; generation = 3 }

pub moved_in : moved_into nothing before 3 ∷ moved_into held before 3 ∷ [] ≡ after [] 3 0 ∷ after held.unjoined 9 6 ∷ []
unfolding rules sorted begun_at ordered renamed
moved_in = refl

pub noted-to : noted_to held before 3 (transfer_step (dirty 3 2) study 3).said ∷ noted_to held before 3 (transfer_step (dirty 2 2) study 3).said ∷ [] ≡ after held.unjoined 9 6 ∷ held ∷ []
unfolding rules copying moves sorted begun_at ordered renamed
noted-to = refl

abbrev bare : History
bare = record { runs = []; unjoined = (key 5 4 ∷ []) ∷ []; sealed = []; sizes = []; put = 7; taken = 7; generation = 5 }

pub noted-from : noted_from before (transfer_step (dirty 3 2) study 3).said ∷ noted_from before (transfer_step (dirty 2 2) study 3).said ∷ noted_from bare (transfer_step (dirty 1 1) drained 9).said ∷ []
    ≡ record { runs = []; unjoined = before.unjoined; sealed = []; sizes = []; put = 7; taken = 7; generation = 6 } ∷ before ∷ bare ∷ []
unfolding rules copying moves
noted-from = refl

-- ---- the code's result as an outcome
pub results : after_both full.head full.head (Ok (record { head = fresh43.head; source = first.head; over = true })) (1 ∷ []) (2 ∷ []) (3 ∷ []) (4 ∷ []) ∷ after_both full.head first.head (Err NoShared) (5 ∷ []) (6 ∷ []) (7 ∷ []) (8 ∷ []) ∷ []
    ≡ overflowed (record { head = fresh43.head; elems = 1 ∷ []; shared = 2 ∷ [] }) (record { head = first.head; elems = 3 ∷ []; shared = 4 ∷ [] })
    ∷ left 6 (record { head = full.head; elems = 5 ∷ []; shared = 6 ∷ [] }) (record { head = first.head; elems = 7 ∷ []; shared = 8 ∷ [] }) ∷ []
results = refl
