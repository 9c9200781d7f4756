-- A sequence of entries in numbers, in place ones and refused ones among them: what the host lends, is told, and what the history then is.
use Prim.Native.Nat.{ℕ, ◌*◌}
use mathlib.Core.Path.{refl}
use mathlib.Core.List.{List, [], ◌∷◌, ◌++◌}
use lib.ListN.{replicate}
use Rattle.rules.specs.declared.Key.{Key}
use Rattle.rules.specs.Tables.{frame_width, header_width}
use Rattle.rules.specs.Calls.{new_run, insert, union, undo, remove, write_file}
use Rattle.rules.specs.History.{History, Given, others_of, runs_but, inserted_runs, joined_runs, removed_runs, nothing}
use Rattle.rules.proofs.Cases.{rules, key, ez, mz, zeros}
use Rattle.rules.proofs.CasesCopied.{copying}
use Rattle.rules.proofs.CasesFile.{files, u4, u8, f, study_file}
use Rattle.rules.proofs.WitnessFile.{study_bytes}
use Rattle.numbers.specs.Numbers.{head_of}
use Rattle.promises.specs.Sequence.{AfterEntries, freshened, called, called_in_place, begun_read, read_in, copied}
use Rattle.promises.proofs.Sequences.{begins, goes_on, goes_on_in_place, reads_in, copies_to}

abbrev given : Key → ℕ → Given
given k z = record { key = k; bytes = z }

abbrev told : List (List Key) → List Given → (put taken generation : ℕ) → History
told rs zs p t g = record { runs = rs; unjoined = []; sealed = []; sizes = zs; put = p; taken = t; generation = g }

-- with the runs before the union
abbrev apart : List (List Key)
apart = (key 3 1 ∷ []) ∷ (key 1 1 ∷ key 2 1 ∷ []) ∷ []

abbrev told_after : List (List Key) → List Given → (put taken generation : ℕ) → History
told_after rs zs p t g = record { runs = rs; unjoined = apart; sealed = []; sizes = zs; put = p; taken = t; generation = g }

-- fresh over numbers that mean nothing
fresh43 : AfterEntries (4 ∷ 0 ∷ 0 ∷ 0 ∷ 3 ∷ 0 ∷ 0 ∷ 0 ∷ 1 ∷ 0 ∷ 0 ∷ 0 ∷ 0 ∷ []) (zeros frame_width 4) (zeros header_width 3) nothing
unfolding rules
fresh43 = begins 4 3 (99 ∷ 98 ∷ []) (replicate (4 * frame_width) 97) (replicate (3 * header_width) 96) refl

-- P1, the first insert in place
one : AfterEntries (4 ∷ 1 ∷ 0 ∷ 1 ∷ 3 ∷ 1 ∷ 0 ∷ 1 ∷ 1 ∷ 0 ∷ 0 ∷ 0 ∷ 0 ∷ []) (ez 1 10 1 1 1 7 ++ zeros frame_width 3) (mz 1 100 0 7 ++ zeros header_width 2) (told ((key 1 1 ∷ []) ∷ []) (given (key 1 1) 7 ∷ []) 1 0 1)
unfolding rules head_of
one = called fresh43 (new_run 10 100 7) [] (95 ∷ 94 ∷ []) 0 _ _ _ [] (1 ∷ 1 ∷ []) (goes_on fresh43 (new_run 10 100 7) [] (95 ∷ 94 ∷ []))

two : AfterEntries (4 ∷ 2 ∷ 0 ∷ 2 ∷ 3 ∷ 1 ∷ 0 ∷ 1 ∷ 1 ∷ 0 ∷ 0 ∷ 0 ∷ 0 ∷ []) (ez 1 10 1 2 2 7 ++ ez 1 11 1 1 1 20 ++ zeros frame_width 2) (mz 2 100 0 27 ++ zeros header_width 2) (told ((key 1 1 ∷ key 2 1 ∷ []) ∷ []) (given (key 2 1) 20 ∷ given (key 1 1) 7 ∷ []) 2 0 1)
unfolding rules head_of inserted_runs others_of runs_but
two = called_in_place one (insert (key 1 1) 11 20) (95 ∷ 94 ∷ []) 0 _ _ _ (2 ∷ 1 ∷ []) (goes_on_in_place one (insert (key 1 1) 11 20) (95 ∷ 94 ∷ []) refl)

-- a dead key, in place: 3 with its cause, and nothing is noted
still : AfterEntries (4 ∷ 2 ∷ 0 ∷ 2 ∷ 3 ∷ 1 ∷ 0 ∷ 1 ∷ 1 ∷ 0 ∷ 0 ∷ 0 ∷ 0 ∷ []) (ez 1 10 1 2 2 7 ++ ez 1 11 1 1 1 20 ++ zeros frame_width 2) (mz 2 100 0 27 ++ zeros header_width 2) (told ((key 1 1 ∷ key 2 1 ∷ []) ∷ []) (given (key 2 1) 20 ∷ given (key 1 1) 7 ∷ []) 2 0 1)
unfolding rules head_of
still = called_in_place two (insert (key 2 9) 12 9) (93 ∷ 92 ∷ []) 771 _ _ _ (93 ∷ 92 ∷ []) (goes_on_in_place two (insert (key 2 9) 12 9) (93 ∷ 92 ∷ []) refl)

-- a second run, joined to the first; one of its frames removed in place
second : AfterEntries (4 ∷ 3 ∷ 0 ∷ 3 ∷ 3 ∷ 2 ∷ 0 ∷ 2 ∷ 1 ∷ 0 ∷ 0 ∷ 0 ∷ 0 ∷ []) (ez 1 10 1 2 2 7 ++ ez 1 11 1 1 1 20 ++ ez 1 20 2 3 3 4000 ++ zeros frame_width 1) (mz 2 100 0 27 ++ mz 1 200 0 4000 ++ zeros header_width 1) (told ((key 3 1 ∷ []) ∷ (key 1 1 ∷ key 2 1 ∷ []) ∷ []) (given (key 3 1) 4000 ∷ given (key 2 1) 20 ∷ given (key 1 1) 7 ∷ []) 3 0 1)
unfolding rules head_of
second = called still (new_run 20 200 4000) [] (95 ∷ 94 ∷ []) 0 _ _ _ [] (3 ∷ 1 ∷ []) (goes_on still (new_run 20 200 4000) [] (95 ∷ 94 ∷ []))

joined : AfterEntries (4 ∷ 3 ∷ 0 ∷ 3 ∷ 3 ∷ 2 ∷ 2 ∷ 1 ∷ 1 ∷ 1 ∷ 3 ∷ 1 ∷ 200 ∷ []) (ez 1 10 1 2 3 7 ++ ez 1 11 1 3 1 20 ++ ez 1 20 1 1 2 4000 ++ zeros frame_width 1) (mz 3 100 0 4027 ++ zeros header_width 2) (told_after ((key 3 1 ∷ key 2 1 ∷ key 1 1 ∷ []) ∷ []) (given (key 3 1) 4000 ∷ given (key 2 1) 20 ∷ given (key 1 1) 7 ∷ []) 3 0 1)
unfolding rules head_of joined_runs others_of runs_but
joined = called second (union (key 3 1) (key 1 1)) [] (replicate 4 95) 0 _ _ _ [] (200 ∷ 1 ∷ 1 ∷ 1 ∷ []) (goes_on second (union (key 3 1) (key 1 1)) [] (replicate 4 95))

-- the union taken back, and made again
back : AfterEntries (4 ∷ 3 ∷ 0 ∷ 3 ∷ 3 ∷ 2 ∷ 0 ∷ 2 ∷ 1 ∷ 0 ∷ 0 ∷ 0 ∷ 0 ∷ []) (ez 1 10 1 2 2 7 ++ ez 1 11 1 1 1 20 ++ ez 1 20 2 3 3 4000 ++ zeros frame_width 1) (mz 2 100 0 27 ++ mz 1 200 0 4000 ++ zeros header_width 1) (told_after apart (given (key 3 1) 4000 ∷ given (key 2 1) 20 ∷ given (key 1 1) 7 ∷ []) 3 0 1)
unfolding rules head_of
back = called joined undo [] [] 0 _ _ _ [] [] (goes_on joined undo [] [])

left : AfterEntries (4 ∷ 3 ∷ 3 ∷ 2 ∷ 3 ∷ 2 ∷ 2 ∷ 1 ∷ 2 ∷ 0 ∷ 0 ∷ 0 ∷ 0 ∷ []) (ez 1 10 1 2 2 7 ++ ez 1 11 1 1 1 20 ++ zeros frame_width 2) (mz 2 100 0 27 ++ zeros header_width 2) (told_after ((key 2 1 ∷ key 1 1 ∷ []) ∷ []) (given (key 2 1) 20 ∷ given (key 1 1) 7 ∷ []) 3 1 2)
unfolding rules head_of removed_runs others_of runs_but
left = called_in_place joined (remove (key 3 1)) (replicate 4 95) 0 _ _ _ (20 ∷ 0 ∷ 0 ∷ 0 ∷ []) (goes_on_in_place joined (remove (key 3 1)) (replicate 4 95) refl)

-- a later fresh, refused and then accepted
kept : AfterEntries (4 ∷ 3 ∷ 3 ∷ 2 ∷ 3 ∷ 2 ∷ 2 ∷ 1 ∷ 2 ∷ 0 ∷ 0 ∷ 0 ∷ 0 ∷ []) (ez 1 10 1 2 2 7 ++ ez 1 11 1 1 1 20 ++ zeros frame_width 2) (mz 2 100 0 27 ++ zeros header_width 2) (told_after ((key 2 1 ∷ key 1 1 ∷ []) ∷ []) (given (key 2 1) 20 ∷ given (key 1 1) 7 ∷ []) 3 1 2)
unfolding rules head_of
kept = freshened left 3 4 1 _ _ _ (record { same = refl })

again : AfterEntries (4 ∷ 0 ∷ 0 ∷ 0 ∷ 3 ∷ 0 ∷ 0 ∷ 0 ∷ 1 ∷ 0 ∷ 0 ∷ 0 ∷ 0 ∷ []) (zeros frame_width 4) (zeros header_width 3) (told_after [] [] 3 3 1)
unfolding rules head_of
again = freshened kept 4 3 0 _ _ _ (record { same = refl })

-- Ticket 10: the tables copied to others that hold numbers which mean nothing: a history of two frames put in
copied_to : AfterEntries (2 ∷ 2 ∷ 0 ∷ 2 ∷ 1 ∷ 1 ∷ 0 ∷ 1 ∷ 2 ∷ 0 ∷ 0 ∷ 0 ∷ 0 ∷ []) (ez 1 10 1 2 2 7 ++ ez 1 11 1 1 1 20) (mz 2 100 0 27) (told ((key 2 1 ∷ key 1 1 ∷ []) ∷ []) (given (key 2 1) 20 ∷ given (key 1 1) 7 ∷ []) 2 0 2)
unfolding rules copying head_of
copied_to = copied left (2 ∷ 91 ∷ 92 ∷ 93 ∷ 1 ∷ 94 ∷ 95 ∷ 96 ∷ 97 ∷ 1 ∷ 2 ∷ 1 ∷ 98 ∷ []) (replicate 12 9) (replicate 5 8) _ _ _ (copies_to left (2 ∷ 91 ∷ 92 ∷ 93 ∷ 1 ∷ 94 ∷ 95 ∷ 96 ∷ 97 ∷ 1 ∷ 2 ∷ 1 ∷ 98 ∷ []) (replicate 12 9) (replicate 5 8) refl refl)

-- just after the union: the copy has nothing to undo
copied_joined : AfterEntries (3 ∷ 3 ∷ 0 ∷ 3 ∷ 1 ∷ 1 ∷ 0 ∷ 1 ∷ 1 ∷ 0 ∷ 0 ∷ 0 ∷ 0 ∷ []) (ez 1 10 1 2 3 7 ++ ez 1 11 1 3 1 20 ++ ez 1 20 1 1 2 4000) (mz 3 100 0 4027) (told ((key 3 1 ∷ key 2 1 ∷ key 1 1 ∷ []) ∷ []) (given (key 3 1) 4000 ∷ given (key 2 1) 20 ∷ given (key 1 1) 7 ∷ []) 3 0 1)
unfolding rules copying head_of
copied_joined = copied joined (3 ∷ 91 ∷ 92 ∷ 93 ∷ 1 ∷ 94 ∷ 95 ∷ 96 ∷ 97 ∷ 1 ∷ 2 ∷ 1 ∷ 98 ∷ []) (replicate 18 9) (replicate 5 8) _ _ _ (copies_to joined (3 ∷ 91 ∷ 92 ∷ 93 ∷ 1 ∷ 94 ∷ 95 ∷ 96 ∷ 97 ∷ 1 ∷ 2 ∷ 1 ∷ 98 ∷ []) (replicate 18 9) (replicate 5 8) refl refl)

-- Ticket 11: written to lent bytes, of which there is one more than are needed, nothing is noted
written : AfterEntries (4 ∷ 3 ∷ 3 ∷ 2 ∷ 3 ∷ 2 ∷ 2 ∷ 1 ∷ 2 ∷ 0 ∷ 0 ∷ 0 ∷ 0 ∷ []) (ez 1 10 1 2 2 7 ++ ez 1 11 1 1 1 20 ++ zeros frame_width 2) (mz 2 100 0 27 ++ zeros header_width 2) (told_after ((key 2 1 ∷ key 1 1 ∷ []) ∷ []) (given (key 2 1) 20 ∷ given (key 1 1) 7 ∷ []) 3 1 2)
unfolding rules files head_of
written = called left write_file (replicate 61 9) (95 ∷ []) 0 _ _ _ (u4 1 ++ u4 1 ++ u4 16 ++ u4 44 ++ u8 100 ++ u8 27 ++ u4 2 ++ f 10 7 ++ f 11 20 ++ 9 ∷ []) (60 ∷ []) (goes_on left write_file (replicate 61 9) (95 ∷ []))

-- another study's file is read in their place: a fresh call that puts its three frames in
read_over : AfterEntries (4 ∷ 3 ∷ 0 ∷ 3 ∷ 3 ∷ 2 ∷ 0 ∷ 2 ∷ 1 ∷ 0 ∷ 0 ∷ 0 ∷ 0 ∷ []) (ez 1 20 1 2 2 7 ++ ez 1 51 1 1 1 14 ++ ez 1 40 2 3 3 11 ++ zeros frame_width 1) (mz 2 200 0 21 ++ mz 1 400 0 11 ++ zeros header_width 1) (told_after ((key 1 1 ∷ key 2 1 ∷ []) ∷ (key 3 1 ∷ []) ∷ []) (given (key 1 1) 7 ∷ given (key 2 1) 14 ∷ given (key 3 1) 11 ∷ []) 6 3 1)
unfolding rules files head_of
read_over = read_in written study_file study_bytes 0 _ _ _ (reads_in study_file _ _ _)

-- into the copy's tables it does not go: 6, and nothing is noted; into others, whatever they held, it does, and begins a history
unread_into : AfterEntries (2 ∷ 2 ∷ 0 ∷ 2 ∷ 1 ∷ 1 ∷ 0 ∷ 1 ∷ 2 ∷ 0 ∷ 0 ∷ 0 ∷ 0 ∷ []) (ez 1 10 1 2 2 7 ++ ez 1 11 1 1 1 20) (mz 2 100 0 27) (told ((key 2 1 ∷ key 1 1 ∷ []) ∷ []) (given (key 2 1) 20 ∷ given (key 1 1) 7 ∷ []) 2 0 2)
unfolding rules files head_of
unread_into = read_in copied_to study_file study_bytes 6 _ _ _ (reads_in study_file _ _ _)

read_first : AfterEntries (3 ∷ 3 ∷ 0 ∷ 3 ∷ 2 ∷ 2 ∷ 0 ∷ 2 ∷ 1 ∷ 0 ∷ 0 ∷ 0 ∷ 0 ∷ []) (ez 1 20 1 2 2 7 ++ ez 1 51 1 1 1 14 ++ ez 1 40 2 3 3 11) (mz 2 200 0 21 ++ mz 1 400 0 11) (told ((key 1 1 ∷ key 2 1 ∷ []) ∷ (key 3 1 ∷ []) ∷ []) (given (key 1 1) 7 ∷ given (key 2 1) 14 ∷ given (key 3 1) 11 ∷ []) 3 0 1)
unfolding rules files head_of
read_first = begun_read study_file study_bytes (3 ∷ 91 ∷ 92 ∷ 93 ∷ 2 ∷ 94 ∷ 95 ∷ 96 ∷ 97 ∷ 1 ∷ 2 ∷ 1 ∷ 98 ∷ []) (replicate 18 9) (replicate 10 8) _ _ _ (reads_in study_file _ _ _)
