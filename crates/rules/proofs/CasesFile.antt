-- Ticket 11 at worked cases: the whole case as bytes, holes and sealed runs, exact room and one short on both sides, every cut of a small file, each kind of departure from the layout, and what the history makes of a read.
use Prim.Native.Nat.{ℕ, suc, ◌-◌}
use mathlib.Core.Path.{◌≡◌, refl}
use mathlib.Core.Bool.{true, false}
use mathlib.Core.List.{List, [], ◌∷◌, ◌++◌, map}
use lib.ListN.{length, take, drop, replicate}
use Rattle.rules.specs.declared.Key.{Key}
use Rattle.rules.specs.Notation.{along}
use Rattle.rules.specs.Tables.{frame_width, header_width, State}
use Rattle.rules.specs.Refusals.{outcome, door}
use Rattle.rules.specs.Slots.{empty}
use Rattle.rules.specs.Calls.{new_run, write_file, ruling, step}
use Rattle.rules.specs.Bytes
use Rattle.rules.specs.Bytes.{Got, unread, got, little, value, limit, number, times}
use Rattle.rules.specs.RunFile
use Rattle.rules.specs.RunFile.{StoredFrame, StoredRun, Entry, Parsed, departs, holds, total, frame_count, frame_length, body_length, entries, first_body, file, parse}
use Rattle.rules.specs.WriteFile
use Rattle.rules.specs.WriteFile.{runs_in, bytes_in}
use Rattle.rules.specs.ReadFile
use Rattle.rules.specs.ReadFile.{before_in, after_in, is_in, read_file, read_step, runs_of}
use Rattle.rules.specs.Filing.{file_length, most_file}
use Rattle.rules.specs.History.{History, Given, nothing, noted_read, read_into}
use Rattle.rules.proofs.Cases.{rules, Case, ◌gives◌, did, says, key, ok, refused, pool, at, joined_as, e, ez, s, mz, zeros}
use Rattle.rules.proofs.Worked.{fresh43, joined, goes_on, drained}
use Rattle.rules.proofs.Apart.{none}
use Rattle.rules.proofs.CasesCopied.{study, dirty}

-- what a row computes with, beside the other rules
unfoldable pub files : Type 0
unfolding Bytes.times Bytes.little Bytes.value Bytes.number RunFile.frame_bytes RunFile.body_bytes RunFile.entries RunFile.entry_bytes RunFile.after_version RunFile.file RunFile.stored_frame RunFile.body RunFile.entry RunFile.bodies RunFile.runs RunFile.parse WriteFile.runs_in WriteFile.write_file ReadFile.before_in ReadFile.after_in ReadFile.read_frames ReadFile.read_runs ReadFile.read_tables ReadFile.into_room ReadFile.read_file
files = Unit {0}

-- small numbers as bytes, and a frame
abbrev pub u4 : ℕ → List ℕ
u4 n = n ∷ 0 ∷ 0 ∷ 0 ∷ []

abbrev pub u8 : ℕ → List ℕ
u8 n = n ∷ 0 ∷ 0 ∷ 0 ∷ 0 ∷ 0 ∷ 0 ∷ 0 ∷ []

abbrev pub f : (payload size : ℕ) → List ℕ
f t z = u8 t ++ u4 z

-- ---- the writer
-- the whole case, before its removal and after: a ring from its lowest slot
abbrev case_bytes : List ℕ
case_bytes = u4 1 ++ u4 1 ++ u4 16 ++ u4 56 ++ u8 100 ++ u8 0 ++ u4 3 ++ f 10 0 ++ f 12 0 ++ f 11 0

abbrev union_bytes : List ℕ
union_bytes = u4 1 ++ u4 1 ++ u4 16 ++ u4 68 ++ u8 100 ++ u8 0 ++ u4 4 ++ f 10 0 ++ f 20 0 ++ f 12 0 ++ f 11 0

-- two runs, found by their lowest slots, the sealed one no other than the rest; 400 is 144 and 1 times 256
abbrev pub study_file : List ℕ
study_file = u4 1 ++ u4 2 ++ u4 24 ++ u4 44 ++ u4 68 ++ u4 32 ++ u8 200 ++ u8 21 ++ u4 2 ++ f 20 7 ++ f 51 14 ++ (144 ∷ 1 ∷ 0 ∷ 0 ∷ 0 ∷ 0 ∷ 0 ∷ 0 ∷ []) ++ u8 11 ++ u4 1 ++ f 40 11

abbrev writes : List Case
writes =
    -- Exactly enough room; more, and the bytes past are untouched; one byte short
    step goes_on (replicate 72 9) write_file gives ok (72 ∷ []) goes_on case_bytes ∷
    step goes_on (replicate 74 9) write_file gives ok (72 ∷ []) goes_on (case_bytes ++ 9 ∷ 9 ∷ []) ∷
    step goes_on (replicate 71 9) write_file gives refused 7 goes_on (replicate 71 9) ∷
    -- Just after a union, which can be undone then
    step joined (replicate 84 9) write_file gives ok (84 ∷ []) joined union_bytes ∷
    -- No runs: eight bytes
    step fresh43 (replicate 8 9) write_file gives ok (8 ∷ []) fresh43 (u4 1 ++ u4 0) ∷
    step fresh43 (replicate 7 9) write_file gives refused 7 fresh43 (replicate 7 9) ∷
    step drained (replicate 9 9) write_file gives ok (8 ∷ []) drained (u4 1 ++ u4 0 ++ 9 ∷ []) ∷
    -- Holes, sizes and a seal
    step study (replicate 100 9) write_file gives ok (100 ∷ []) study study_file ∷
    step study (replicate 99 9) write_file gives refused 7 study (replicate 99 9) ∷
    step study [] write_file gives refused 7 study [] ∷
    -- At the door
    outcome none [] (door none true (ruling none [] write_file)) gives refused 1 none [] ∷
    outcome study [] (door study false (ruling study [] write_file)) gives refused 2 study [] ∷
    []

pub written : map did writes ≡ map says writes
unfolding rules files
written = refl

-- ---- the reader
-- the study's runs in canonical order, in tables of these capacities
abbrev pub in_order : (elems shared : ℕ) → State
in_order a b =
    at (pool a 3 0 3) (pool b 2 0 2) 1
    (ez 1 20 1 2 2 7 ++ ez 1 51 1 1 1 14 ++ ez 1 40 2 3 3 11 ++ zeros frame_width (a - 3))
    (mz 2 200 0 21 ++ mz 1 400 0 11 ++ zeros header_width (b - 2))

abbrev reads : List Case
reads =
    -- Its own capacities, larger ones, exactly the frames and runs; whatever the target held
    read_step study study_file gives ok [] (in_order 7 5) [] ∷
    read_step (dirty 9 6) study_file gives ok [] (in_order 9 6) [] ∷
    read_step (dirty 3 2) study_file gives ok [] (in_order 3 2) [] ∷
    read_step (joined_as 1 2 1 7 (dirty 3 2)) study_file gives ok [] (in_order 3 2) [] ∷
    -- One smaller: 5, 6, and 6 before 5
    read_step (dirty 2 2) study_file gives refused 5 (dirty 2 2) [] ∷
    read_step (dirty 3 1) study_file gives refused 6 (dirty 3 1) [] ∷
    read_step (dirty 2 1) study_file gives refused 6 (dirty 2 1) [] ∷
    read_step (joined_as 1 2 1 7 (dirty 2 2)) study_file gives refused 5 (joined_as 1 2 1 7 (dirty 2 2)) [] ∷
    -- The whole case, a run of three in slots 1 to 3; and no runs
    read_step (dirty 4 3) case_bytes gives ok [] (at (pool 4 3 0 3) (pool 3 1 0 1) 1 (e 1 10 1 3 2 ++ e 1 12 1 1 3 ++ e 1 11 1 2 1 ++ zeros frame_width 1) (s 3 100 0 ++ zeros header_width 2)) [] ∷
    read_step (dirty 4 3) (u4 1 ++ u4 0) gives ok [] (empty 4 3 1) [] ∷
    -- Tables that do not fit, before all else
    read_step none [] gives refused 1 none [] ∷
    read_step none study_file gives refused 1 none [] ∷
    -- Less than eight bytes, before the version; the version, before any other departure
    read_step study [] gives refused 9 study [] ∷
    read_step study (u4 2 ++ 0 ∷ 0 ∷ 0 ∷ []) gives refused 9 study [] ∷
    read_step study (u4 2 ++ u4 9) gives refused 11 study [] ∷
    read_step study (u4 0 ++ u4 0) gives refused 11 study [] ∷
    read_step study (255 ∷ 255 ∷ 255 ∷ 255 ∷ u4 0) gives refused 11 study [] ∷
    read_step (dirty 2 1) (u4 2 ++ drop 4 study_file) gives refused 11 (dirty 2 1) [] ∷
    []

pub read_out : map did reads ≡ map says reads
unfolding rules files
read_out = refl

-- the versions known
pub versions : map (λ v. (outcome fresh43 [] (read_file (1 ∷ 2 ∷ []) fresh43 (u4 v ++ u4 0))).said.number) (0 ∷ 1 ∷ 2 ∷ 3 ∷ []) ≡ 11 ∷ 0 ∷ 0 ∷ 11 ∷ []
unfolding rules files
versions = refl

-- ---- a small file: one run of one frame. Cut at every byte short of its end; and the file itself
abbrev small : List ℕ
small = u4 1 ++ u4 1 ++ u4 16 ++ u4 32 ++ u8 5 ++ u8 7 ++ u4 1 ++ f 6 7

pub cuts : map (λ k. read_step (dirty 1 1) (take k small)) (along suc 48 0) ≡ replicate 48 (refused 9 (dirty 1 1) [])
unfolding rules files
cuts = refl

pub uncut : read_step (dirty 1 1) (take 48 small) ≡ ok [] (at (pool 1 1 0 1) (pool 1 1 0 1) 1 (ez 1 6 1 1 1 7) (mz 1 5 0 7)) []
unfolding rules files
uncut = refl

-- ---- departures, each in one place
-- one run of one frame: how many runs, offset, length, total, how many frames; and what follows
abbrev one : (runs offset long total frames : List ℕ) → (more : List ℕ) → List ℕ
one n o l z c more = u4 1 ++ n ++ o ++ l ++ u8 5 ++ z ++ c ++ f 6 7 ++ more

-- two runs of one frame: their offsets, their lengths, and what stands between
abbrev two : (first second long long' : List ℕ) → (between : List ℕ) → List ℕ
two p q l m between = u4 1 ++ u4 2 ++ p ++ l ++ q ++ m ++ u8 5 ++ u8 7 ++ u4 1 ++ f 6 7 ++ between ++ u8 8 ++ u8 9 ++ u4 1 ++ f 4 9

abbrev top : ℕ → List ℕ
top n = n ∷ 255 ∷ 255 ∷ 255 ∷ []

abbrev departures : List (List ℕ)
departures =
    -- Offset one more, one less, none, and near 2^32
    one (u4 1) (u4 17) (u4 32) (u8 7) (u4 1) [] ∷ one (u4 1) (u4 15) (u4 32) (u8 7) (u4 1) [] ∷ one (u4 1) (u4 0) (u4 32) (u8 7) (u4 1) [] ∷ one (u4 1) (top 255) (u4 32) (u8 7) (u4 1) [] ∷ one (u4 1) (top 240) (u4 32) (u8 7) (u4 1) [] ∷
    -- Length one more, one less, and near 2^32
    one (u4 1) (u4 16) (u4 33) (u8 7) (u4 1) [] ∷ one (u4 1) (u4 16) (u4 31) (u8 7) (u4 1) [] ∷ one (u4 1) (u4 16) (top 255) (u8 7) (u4 1) [] ∷
    -- Bytes after the end
    one (u4 1) (u4 16) (u4 32) (u8 7) (u4 1) (0 ∷ []) ∷ one (u4 1) (u4 16) (u4 33) (u8 7) (u4 1) (0 ∷ []) ∷
    -- A total one off; past a u32
    one (u4 1) (u4 16) (u4 32) (u8 6) (u4 1) [] ∷ one (u4 1) (u4 16) (u4 32) (u8 8) (u4 1) [] ∷ one (u4 1) (u4 16) (u4 32) (7 ∷ 0 ∷ 0 ∷ 0 ∷ 1 ∷ 0 ∷ 0 ∷ 0 ∷ []) (u4 1) [] ∷
    -- No frames, more than the body has, as many as a u32 can tell
    one (u4 1) (u4 16) (u4 32) (u8 7) (u4 0) [] ∷ one (u4 1) (u4 16) (u4 32) (u8 7) (u4 2) [] ∷ one (u4 1) (u4 16) (u4 32) (u8 7) (top 255) [] ∷ (u4 1 ++ u4 1 ++ u4 16 ++ u4 20 ++ u8 5 ++ u8 0 ++ u4 0) ∷
    -- No runs, more than the file has, as many as a u32 can tell
    one (u4 0) (u4 16) (u4 32) (u8 7) (u4 1) [] ∷ one (u4 2) (u4 16) (u4 32) (u8 7) (u4 1) [] ∷ one (top 255) (u4 16) (u4 32) (u8 7) (u4 1) [] ∷ (u4 1 ++ u4 1) ∷
    -- A gap between bodies, with the offset that it gives and without; an overlap; bodies in the other order
    two (u4 24) (u4 57) (u4 32) (u4 32) (0 ∷ []) ∷ two (u4 24) (u4 56) (u4 32) (u4 32) (0 ∷ []) ∷ two (u4 24) (u4 56) (u4 33) (u4 32) (0 ∷ []) ∷ two (u4 24) (u4 24) (u4 32) (u4 32) [] ∷ two (u4 24) (u4 55) (u4 32) (u4 32) [] ∷ two (u4 56) (u4 24) (u4 32) (u4 32) [] ∷
    -- The second length one off; an offset past 2^32 by wrapping
    two (u4 24) (u4 56) (u4 32) (u4 31) [] ∷ two (top 248) (u4 56) (u4 64) (u4 32) [] ∷
    []

-- each is refused 9 and changes nothing, though there is room
pub departs_nine : map (read_step (dirty 2 2)) departures ≡ replicate (length departures) (refused 9 (dirty 2 2) [])
unfolding rules files
departs_nine = refl

-- and in no place departed, both are read
pub in_place : map (λ b. (read_step (dirty 2 2) b).said.number) (one (u4 1) (u4 16) (u4 32) (u8 7) (u4 1) [] ∷ two (u4 24) (u4 56) (u4 32) (u4 32) [] ∷ []) ≡ 0 ∷ 0 ∷ []
unfolding rules files
in_place = refl

-- ---- numbers as bytes, and back
pub littles : little 4 4294967295 ∷ little 4 67305985 ∷ little 2 65536 ∷ little 0 7 ∷ little 8 72623859790382856 ∷ []
    ≡ (255 ∷ 255 ∷ 255 ∷ 255 ∷ []) ∷ (1 ∷ 2 ∷ 3 ∷ 4 ∷ []) ∷ (0 ∷ 0 ∷ []) ∷ [] ∷ (8 ∷ 7 ∷ 6 ∷ 5 ∷ 4 ∷ 3 ∷ 2 ∷ 1 ∷ []) ∷ []
unfolding files
littles = refl

pub values : value 4 (1 ∷ 2 ∷ 3 ∷ 4 ∷ 5 ∷ []) ∷ value 2 (7 ∷ []) ∷ value 0 (9 ∷ []) ∷ value 3 [] ∷ [] ≡ 67305985 ∷ 7 ∷ 0 ∷ 0 ∷ []
unfolding files
values = refl

pub limits : limit 0 ∷ limit 1 ∷ limit 4 ∷ limit 8 ∷ [] ≡ 1 ∷ 256 ∷ 4294967296 ∷ 18446744073709551616 ∷ []
limits = refl

pub numbers : number 2 (1 ∷ 1 ∷ 9 ∷ []) ∷ number 2 (1 ∷ 1 ∷ []) ∷ number 2 (1 ∷ []) ∷ [] ≡ got 257 (9 ∷ []) ∷ got 257 [] ∷ unread ∷ []
unfolding files
numbers = refl

pub twice : times 2 (number 1) (3 ∷ 4 ∷ 5 ∷ []) ∷ times 0 (number 1) (3 ∷ []) ∷ times 2 (number 1) (3 ∷ []) ∷ [] ≡ got (3 ∷ 4 ∷ []) (5 ∷ []) ∷ got [] (3 ∷ []) ∷ unread ∷ []
unfolding files
twice = refl

-- ---- the file as data
abbrev pub run : ℕ → List StoredFrame → StoredRun
run v fs = record { value = v; frames = fs }

abbrev pub fr : (payload size : ℕ) → StoredFrame
fr t z = record { payload = t; size = z }

abbrev pub study_runs : List StoredRun
study_runs = run 200 (fr 20 7 ∷ fr 51 14 ∷ []) ∷ run 400 (fr 40 11 ∷ []) ∷ []

pub as_data : runs_in study ∷ runs_in (in_order 7 5) ∷ runs_of study_file ∷ runs_of (drop 1 study_file) ∷ [] ≡ study_runs ∷ study_runs ∷ study_runs ∷ [] ∷ []
unfolding rules files
as_data = refl

pub as_bytes : file 1 study_runs ∷ bytes_in 1 (in_order 3 2) ∷ file 7 [] ∷ [] ≡ study_file ∷ study_file ∷ (u4 7 ++ u4 0) ∷ []
unfolding rules files
as_bytes = refl

pub parsed : parse 1 study_file ∷ parse 1 (drop 1 study_file) ∷ [] ≡ holds study_runs ∷ departs ∷ []
unfolding files
parsed = refl

pub contents : entries 1 (first_body 2) study_runs ≡ record { offset = 24; long = 44 } ∷ record { offset = 68; long = 32 } ∷ []
unfolding files
contents = refl

pub counted : frame_count study_runs ∷ total (fr 20 7 ∷ fr 51 14 ∷ []) ∷ frame_length 1 ∷ body_length 1 (run 0 (fr 1 2 ∷ [])) ∷ first_body 3 ∷ file_length 1 study ∷ file_length 1 goes_on ∷ most_file 1 ∷ [] ≡ 3 ∷ 21 ∷ 12 ∷ 32 ∷ 32 ∷ 100 ∷ 72 ∷ 2621448 ∷ []
counted = refl

pub known : map (λ n. is_in n (1 ∷ 2 ∷ [])) (0 ∷ 1 ∷ 2 ∷ 3 ∷ []) ≡ false ∷ true ∷ true ∷ false ∷ []
known = refl

pub around : map (before_in 5 3) (0 ∷ 1 ∷ 2 ∷ []) ++ map (after_in 5 3) (0 ∷ 1 ∷ 2 ∷ []) ≡ 8 ∷ 6 ∷ 7 ∷ 7 ∷ 8 ∷ 6 ∷ []
unfolding files
around = refl

-- ---- a call on what was read: the next key is of generation 1, the next slot and class past the last
pub goes_on_lem : (step (in_order 7 5) [] (new_run 70 700 3)).said.values ≡ 4 ∷ 1 ∷ []
unfolding rules
goes_on_lem = refl

-- ---- the history: fresh, and the frames put in, slot by slot
abbrev given : (slot bytes : ℕ) → Given
given k z = record { key = key k 1; bytes = z }

abbrev before : History
before = record { runs = (key 2 9 ∷ key 1 8 ∷ []) ∷ []; unjoined = (key 2 9 ∷ []) ∷ (key 1 8 ∷ []) ∷ []; sealed = key 2 9 ∷ []; sizes = record { key = key 1 8; bytes = 6 } ∷ []; put = 7; taken = 5; generation = 9 }

abbrev read_in : (unjoined : List (List Key)) → (put taken : ℕ) → History
read_in u put taken = record { runs = (key 1 1 ∷ key 2 1 ∷ []) ∷ (key 3 1 ∷ []) ∷ []; unjoined = u; sealed = []; sizes = given 1 7 ∷ given 2 14 ∷ given 3 11 ∷ []; put = put; taken = taken; generation = 1 }

pub noted : read_into nothing study_runs ∷ noted_read before study_runs (read_step study study_file).said ∷ noted_read before study_runs (read_step (dirty 2 1) study_file).said ∷ []
    ≡ read_in [] 3 0 ∷ read_in ((key 2 9 ∷ []) ∷ (key 1 8 ∷ []) ∷ []) 10 7 ∷ before ∷ []
unfolding rules files
noted = refl
