-- Ticket 10 at worked cases: holes on both sides and past the last live slot, exact room and one short, dirty targets, empty sources, sealed and sized runs, a source just after a union; the door's order; reads of the copy, and what the history makes of it.
use Prim.Native.Nat.{ℕ, ◌*◌, ◌-◌}
use mathlib.Core.Path.{◌≡◌, refl}
use mathlib.Core.Bool.{Bool, true, false}
use mathlib.Core.List.{List, [], ◌∷◌, ◌++◌, map}
use lib.ListN.{replicate}
use Rattle.rules.specs.declared.Key.{Key}
use Rattle.std.specs.Prelude.{Ok, Err}
use Rattle.rules.specs.declared.Refusal.TheVariants.{NoShared}
use Rattle.rules.specs.Tables.{frame_width, header_width, State, elem_side, shared_side}
use Rattle.rules.specs.Refusals.{Outcome}
use Rattle.rules.specs.Slots.{empty}
use Rattle.rules.specs.Calls.{len_surject, in_same_surject, get_element, get_shared, get_size, get_total, lookup, new_run, list, undo, step}
use Rattle.rules.specs.TwoTables
use Rattle.rules.specs.TwoTables.{TwoOutcome, two_outcome, after_target}
use Rattle.rules.specs.Copy
use Rattle.rules.specs.Copy.{last_live, free_from, clone_from, clone_step}
use Rattle.rules.specs.History.{Given, begun_with}
use Rattle.rules.proofs.Cases.{rules, key, ok, dead, refused, pool, at, joined_as, e, ez, s, mz, zeros}
use Rattle.rules.proofs.Worked.{fresh43, drained}
use Rattle.rules.proofs.Apart.{none}
use Rattle.rules.proofs.Sounds.{trap}
use Rattle.rules.proofs.CasesUndo.{trio, first_kept}

-- what a row computes with, beside the other rules
unfoldable pub copying : Type 0
unfolding TwoTables.two_doors Copy.last_to Copy.free_from Copy.copied_table Copy.copied_pool Copy.clone_from
copying = Unit {0}

-- ---- the source: the frames 2 and 5 are a run, 4 is a sealed one; 1 and 3 are free below them, 6 past them, chained highest first, and so it is with the headers
abbrev pub study : State
study =
    at (pool 7 6 6 3) (pool 5 5 5 2) 5
    (e 0 0 0 0 0 ++ ez 1 20 2 5 5 7 ++ e 0 0 0 0 1 ++ ez 1 40 4 4 4 11 ++ ez 4 51 2 2 2 14 ++ e 0 0 0 0 3 ++ zeros frame_width 1)
    (s 0 0 0 ++ mz 2 200 0 21 ++ s 0 0 1 ++ mz 1 400 1 11 ++ s 0 0 3)

-- a target of these capacities that holds numbers which mean nothing, and the copy there
abbrev pub dirty : (elems shared : ℕ) → State
dirty a b = at (pool a 99 98 97) (pool b 96 95 94) 93 (replicate (a * frame_width) 9) (replicate (b * header_width) 8)

abbrev pub into : (elems shared : ℕ) → State
into a b =
    at (pool a 5 1 3) (pool b 4 1 2) 5
    (e 0 0 0 0 3 ++ ez 1 20 2 5 5 7 ++ e 0 0 0 0 0 ++ ez 1 40 4 4 4 11 ++ ez 4 51 2 2 2 14 ++ zeros frame_width (a - 5))
    (s 0 0 3 ++ mz 2 200 0 21 ++ s 0 0 0 ++ mz 1 400 1 11 ++ zeros header_width (b - 4))

-- a source whose every slot is live, and one where only the first is
abbrev pub full : State
full = at (pool 2 2 0 2) (pool 1 1 0 1) 9 (e 9 10 1 2 2 ++ e 8 11 1 1 1) (s 2 100 0)

abbrev pub first : State
first = at (pool 3 3 2 1) (pool 2 1 0 1) 4294967295 (e 7 10 1 1 1 ++ e 0 0 0 0 3 ++ e 0 0 0 0 0) (s 1 100 0 ++ zeros header_width 1)

-- the copy of a source just after a union
abbrev reviewed : State
reviewed = at (pool 5 3 0 3) (pool 5 3 2 2) 1 (e 1 10 1 2 2 ++ e 1 20 1 1 1 ++ e 1 30 3 3 3 ++ zeros frame_width 2) (s 2 100 0 ++ s 0 0 0 ++ s 1 300 0 ++ zeros header_width 2)

-- accepted and refused: the target then, and the source
abbrev pub took : (target source : State) → TwoOutcome
took t s = record { said = record { number = 0; values = []; over = false }; target = t; source = s }

abbrev pub left : (number : ℕ) → (target source : State) → TwoOutcome
left n t s = record { said = record { number = n; values = []; over = false }; target = t; source = s }

infix 90 ◌copies◌
pub data CopyCase : Type 0 where
  ◌copies◌ : (did says : TwoOutcome) → CopyCase

abbrev pub made : CopyCase → TwoOutcome
made (d copies s) = d

abbrev pub meant : CopyCase → TwoOutcome
meant (d copies s) = s

abbrev table : List CopyCase
table =
    -- Larger tables, its own capacities, exactly the last live slots
    clone_step (dirty 8 6) study copies took (into 8 6) study ∷
    clone_step (dirty 7 5) study copies took (into 7 5) study ∷
    clone_step (dirty 5 4) study copies took (into 5 4) study ∷
    -- One smaller: 5, 6, and 5 before 6; the live numbers, 3 and 2, would fit
    clone_step (dirty 4 4) study copies left 5 (dirty 4 4) study ∷
    clone_step (dirty 5 3) study copies left 6 (dirty 5 3) study ∷
    clone_step (dirty 4 3) study copies left 5 (dirty 4 3) study ∷
    clone_step (dirty 3 2) study copies left 5 (dirty 3 2) study ∷
    -- Nothing free, and nothing but the first slot live: the generation is the last one, and stays
    clone_step (dirty 2 1) full copies took full full ∷
    clone_step (dirty 1 1) full copies left 5 (dirty 1 1) full ∷
    clone_step (dirty 1 1) first copies took (at (pool 1 1 0 1) (pool 1 1 0 1) 4294967295 (e 7 10 1 1 1) (s 1 100 0)) first ∷
    clone_step (dirty 2 3) first copies took (at (pool 2 1 0 1) (pool 3 1 0 1) 4294967295 (e 7 10 1 1 1 ++ zeros frame_width 1) (s 1 100 0 ++ zeros header_width 2)) first ∷
    -- An empty source, never used and drained: extents and roots 0, the generation along
    clone_step (dirty 1 1) fresh43 copies took (empty 1 1 1) fresh43 ∷
    clone_step (dirty 2 3) drained copies took (empty 2 3 6) drained ∷
    -- A source just after a union stays so; the copy has nothing to undo, also where the target had; refused, the target keeps its own
    clone_step (dirty 5 5) first_kept copies took reviewed first_kept ∷
    clone_step first_kept first_kept copies took reviewed first_kept ∷
    clone_step (joined_as 1 2 1 7 (dirty 2 5)) first_kept copies left 5 (joined_as 1 2 1 7 (dirty 2 5)) first_kept ∷
    -- The copy of a copy, and a copy to itself
    clone_step (dirty 7 5) (into 5 4) copies took (into 7 5) (into 5 4) ∷
    clone_step study study copies took (into 7 5) study ∷
    []

pub copied : map made table ≡ map meant table
unfolding rules copying
copied = refl

-- ---- the door: 1 for the source, 1 for the target, 2, and then the rule
abbrev at_door : (target source : State) → (sound : Bool) → TwoOutcome
at_door t s sound = two_outcome t s (TwoTables.two_doors t s sound (clone_from t s))

abbrev doors : List CopyCase
doors =
    at_door (dirty 7 5) study true copies took (into 7 5) study ∷
    at_door (dirty 7 5) none true copies left 1 (dirty 7 5) none ∷
    at_door none study true copies left 1 none study ∷
    at_door none trap false copies left 1 none trap ∷
    at_door (dirty 7 5) trap false copies left 2 (dirty 7 5) trap ∷
    at_door (dirty 1 1) trap false copies left 2 (dirty 1 1) trap ∷
    at_door (dirty 4 3) study true copies left 5 (dirty 4 3) study ∷
    []

pub at-door : map made doors ≡ map meant doors
unfolding rules copying
at-door = refl

-- ---- what a ruling on two tables leaves: accepted, both are the ruling's own; refused, both are as they were
pub ruled_both : two_outcome study full (TwoTables.accept true first (into 7 5)) ∷ two_outcome study full (TwoTables.refuse NoShared) ∷ []
    ≡ record { said = record { number = 0; values = []; over = true }; target = first; source = into 7 5 } ∷ left 6 study full ∷ []
ruled_both = refl

-- ---- the last live slot and the lowest free one, at each end
pub lasts : map (λ (st : State). last_live (elem_side st) ∷ last_live (shared_side st) ∷ []) (study ∷ full ∷ first ∷ drained ∷ []) ≡ (5 ∷ 4 ∷ []) ∷ (2 ∷ 1 ∷ []) ∷ (1 ∷ 1 ∷ []) ∷ (0 ∷ 0 ∷ []) ∷ []
unfolding rules copying
lasts = refl

pub frees : map (λ n. free_from (elem_side study) n 2) (0 ∷ 1 ∷ 2 ∷ 3 ∷ []) ≡ 0 ∷ 0 ∷ 3 ∷ 3 ∷ []
unfolding rules copying
frees = refl

-- ---- calls on the copy: reads as on the source; a dead key past the last live slot is past the extent; the next frame takes the lowest free slot
abbrev reads : State → List Outcome
reads st =
    step st [] (len_surject (key 2 1)) ∷ step st [] (in_same_surject (key 2 1) (key 5 4)) ∷ step st [] (get_element (key 5 4)) ∷ step st [] (get_shared (key 5 4)) ∷ step st [] (get_size (key 5 4)) ∷ step st [] (get_total (key 2 1)) ∷
    step st [] (lookup (key 4 1)) ∷ step st (replicate 4 9) (list (key 5 4)) ∷ step st [] (lookup (key 3 1)) ∷ step st [] (lookup (key 5 1)) ∷ step st [] (lookup (key 6 1)) ∷ []

abbrev answers : (cause : ℕ) → State → List Outcome
answers cause st =
    ok (2 ∷ []) st [] ∷ ok (1 ∷ []) st [] ∷ ok (51 ∷ []) st [] ∷ ok (200 ∷ []) st [] ∷ ok (14 ∷ []) st [] ∷ ok (21 ∷ []) st [] ∷
    ok [] st [] ∷ ok (2 ∷ []) st (5 ∷ 4 ∷ 2 ∷ 1 ∷ []) ∷ dead 2 st [] ∷ dead 3 st [] ∷ dead cause st [] ∷ []

pub reads-alike : reads study ++ reads (into 7 5) ≡ answers 2 study ++ answers 1 (into 7 5)
unfolding rules
reads-alike = refl

pub goes_on : map (λ (o : Outcome). o.said.values) (step (into 7 5) [] (new_run 70 700 3) ∷ step study [] (new_run 70 700 3) ∷ []) ≡ (1 ∷ 5 ∷ []) ∷ (6 ∷ 5 ∷ []) ∷ []
unfolding rules
goes_on = refl

-- the source's last union can still be taken back, and not in the copy
pub undo-stays : step first_kept [] undo ∷ step reviewed [] undo ∷ [] ≡ ok [] trio [] ∷ refused 10 reviewed [] ∷ []
unfolding rules
undo-stays = refl

-- ---- the history begins anew, with the frames put in
abbrev given : Key → ℕ → Given
given k z = record { key = k; bytes = z }

pub begun : begun_with (record { runs = (key 5 4 ∷ key 2 1 ∷ []) ∷ (key 4 1 ∷ []) ∷ []; unjoined = (key 5 4 ∷ []) ∷ (key 2 1 ∷ []) ∷ (key 4 1 ∷ []) ∷ []; sealed = key 4 1 ∷ []; sizes = given (key 5 4) 14 ∷ given (key 4 1) 11 ∷ given (key 2 1) 7 ∷ []; put = 7; taken = 4; generation = 5 })
    ≡ record { runs = (key 5 4 ∷ key 2 1 ∷ []) ∷ (key 4 1 ∷ []) ∷ []; unjoined = []; sealed = key 4 1 ∷ []; sizes = given (key 5 4) 14 ∷ given (key 4 1) 11 ∷ given (key 2 1) 7 ∷ []; put = 3; taken = 0; generation = 5 }
begun = refl

-- ---- the code's result as an outcome
pub results : after_target full.head (Ok (record { head = fresh43.head; answer = tt; over = false })) (1 ∷ []) (2 ∷ []) study ∷ after_target full.head (Err NoShared) (3 ∷ []) (4 ∷ []) first ∷ []
    ≡ took (record { head = fresh43.head; elems = 1 ∷ []; shared = 2 ∷ [] }) study ∷ left 6 (record { head = full.head; elems = 3 ∷ []; shared = 4 ∷ [] }) first ∷ []
results = refl
