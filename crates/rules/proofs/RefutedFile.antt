-- Ticket 11's claims, one by one: for each, tables, bytes or an outcome that break it; and the numbers that reader and writer give at each test, and no other.
use Prim.Native.Nat.{ℕ}
use native.Mathlib.Omega.{arith}
use mathlib.Core.Path.{◌≡◌, refl, ap}
use mathlib.Core.Logic.{◌⊎◌, inl, inr}
use mathlib.Core.Bool.{true, true≢false, false≢true}
use mathlib.Core.List.{List, [], ◌∷◌, ◌++◌}
use lib.Dec.{lit<, lit≤}
use lib.ListN.{length, get_or, take, drop, replicate}
use Rattle.rules.specs.declared.Memory.{Memory}
use Rattle.rules.specs.Tables.{State, blank, with_undo}
use Rattle.rules.specs.Keeping.{effect, Then}
use Rattle.rules.specs.Calls.{write_file}
use Rattle.rules.specs.Bytes.{Bytes}
use Rattle.rules.specs.RunFile.{StoredRun, FrameFits, RunFits, EntryFits, Fits}
use Rattle.rules.specs.Filing.{Stores, ReadGives, ReadInto, Reads, WriteGives, Writes, Words, Unsealed}
use Rattle.rules.proofs.Cases.{rules, ok, refused, pool, at, joined_as, e, ez, s, mz}
use Rattle.rules.proofs.Worked.{three, goes_on, joined}
use Rattle.rules.proofs.Apart.{none}
use Rattle.rules.proofs.Sounds.{trap, trap_unsound, three_sound}
use Rattle.rules.proofs.CasesCopied.{study, dirty}
use Rattle.rules.proofs.CasesFile.{files, u4, u8, f, fr, run, study_file, study_runs, in_order}

-- two numbers that a claim makes one
abbrev Two : (m n : ℕ) → Type 0
Two m n = ◌≡◌ {A = ℕ} m n

-- ---- the room that a file gives: the greatest numbers, and one more
abbrev most8 : ℕ
most8 = 18446744073709551615

abbrev most4 : ℕ
most4 = 4294967295

pub greatest : FrameFits 1 (fr most8 most4) × RunFits 1 (run most8 (fr 0 0 ∷ [])) × EntryFits (record { offset = most4; long = most4 }) × Bytes (255 ∷ [])
greatest = (
  record { payload = lit< tt; size = lit< tt },
  record { value = lit< tt; some = lit≤ tt; count = lit< tt; frames = (record { payload = lit< tt; size = lit< tt }, tt) },
  record { offset = lit< tt; long = lit< tt },
  (lit< tt, tt),
)

pub payload-past : FrameFits 1 (fr 18446744073709551616 0) → ⊥
payload-past F = omega (arith, F.payload)

pub size-past : FrameFits 1 (fr 0 4294967296) → ⊥
size-past F = omega (arith, F.size)

pub value-past : RunFits 1 (run 18446744073709551616 (fr 0 0 ∷ [])) → ⊥
value-past F = omega (arith, F.value)

pub run-empty : RunFits 1 (run 0 []) → ⊥
run-empty F = omega (arith, F.some)

pub frame_past : RunFits 1 (run 0 (fr 0 0 ∷ fr 0 4294967296 ∷ [])) → ⊥
frame_past F = omega (arith, F.frames.1.0.size)

pub offset-past : EntryFits (record { offset = 4294967296; long = 0 }) → ⊥
offset-past F = omega (arith, F.offset)

pub long-past : EntryFits (record { offset = 0; long = 4294967296 }) → ⊥
long-past F = omega (arith, F.long)

pub no_byte : Bytes (0 ∷ 256 ∷ []) → ⊥
no_byte B = omega (arith, B.1.0)

-- the study's runs fit, and its file is theirs; a run without frames fits in no file
pub study_fits : Fits 1 study_runs
unfolding files
study_fits = record {
  count = lit< tt;
  runs = (
    record { value = lit< tt; some = lit≤ tt; count = lit< tt; frames = (record { payload = lit< tt; size = lit< tt }, (record { payload = lit< tt; size = lit< tt }, tt)) },
    (record { value = lit< tt; some = lit≤ tt; count = lit< tt; frames = (record { payload = lit< tt; size = lit< tt }, tt) }, tt),
  );
  contents = (record { offset = lit< tt; long = lit< tt }, (record { offset = lit< tt; long = lit< tt }, tt));
}

pub study_stores : Stores study_file study_runs
unfolding files
study_stores = (study_fits, refl)

pub holds_no_empty : Fits 1 (run 0 [] ∷ []) → ⊥
holds_no_empty F = run-empty F.runs.0

-- and it is not that of other runs, nor in another version
pub stores_no_other : Stores study_file (run 200 (fr 51 14 ∷ fr 20 7 ∷ []) ∷ run 400 (fr 40 11 ∷ []) ∷ []) → ⊥
unfolding files
stores_no_other S = let z : Two 20 51 = ap (λ (b : List ℕ). get_or b 44 0) S.1 in omega arith

-- ---- what a read leaves that is none
abbrev left : (elems shared : ℕ) → (g slot_gen first mark : ℕ) → State
left a b g h t m =
    at (pool a 3 0 3) (pool b 2 0 2) g
    (ez h t 1 2 2 7 ++ ez 1 51 1 1 1 14 ++ ez 1 40 2 3 3 11)
    (mz 2 200 0 21 ++ mz 1 400 m 11)

as_meant : left 3 2 1 1 20 0 ≡ in_order 3 2
as_meant = refl

pub misshapen : ReadInto (dirty 3 2) study_runs (at (pool 3 3 0 3) (pool 2 2 0 2) 1 [] []) → ⊥
unfolding rules
misshapen R = false≢true R.ready.shape

pub other-runs : ReadInto (dirty 3 2) study_runs (left 3 2 1 1 21 0) → ⊥
unfolding rules files
other-runs R = let z : Two 21 20 = ap (λ (rs : List StoredRun). (get_or (get_or rs 0 (run 0 [])).frames 0 (fr 0 0)).payload) R.runs in omega arith

pub still-sealed : ReadInto (dirty 3 2) study_runs (left 3 2 1 1 20 1) → ⊥
unfolding rules
still-sealed R = let z : Two 1 0 = R.unsealed 2 in omega arith

pub later-generation : ReadInto (dirty 3 2) study_runs (left 3 2 2 1 20 0) → ⊥
later-generation R = let z : Two 2 1 = R.generation in omega arith

pub older_frame : ReadInto (dirty 3 2) study_runs (left 3 2 1 2 20 0) → ⊥
unfolding rules
older_frame R = let z : Two 2 1 = R.generations 1 tt in omega arith

pub other-capacity : ReadInto (dirty 4 2) study_runs (in_order 3 2) → ⊥
other-capacity R = let z : Two 3 4 = ap (λ p. p.capacity) R.elems in omega arith

pub other_shared_capacity : ReadInto (dirty 3 3) study_runs (in_order 3 2) → ⊥
other_shared_capacity R = let z : Two 2 3 = ap (λ p. p.capacity) R.shared in omega arith

pub undo-left : ReadInto (dirty 3 2) study_runs (joined_as 1 2 1 7 (in_order 3 2)) → ⊥
undo-left R = let z : Two 1 0 = ap (λ (m : Memory). m.kept) R.undo in omega arith

-- the same runs in their order, but the frames of the first in slots 1 and 3
abbrev crossed : State
crossed = at (pool 3 3 0 3) (pool 2 2 0 2) 1 (ez 1 20 1 3 3 7 ++ ez 1 40 2 2 2 11 ++ ez 1 51 1 1 1 14) (mz 2 200 0 21 ++ mz 1 400 0 11)

pub slots_crossed : ReadInto (dirty 3 2) study_runs crossed → ⊥
unfolding rules
slots_crossed R = let z : Two 51 40 = ap (λ (st : State). get_or st.elems 7 0) R.canonical in omega arith

-- ---- outcomes of a read that change or say what they may not
abbrev old : List ℕ
old = 1 ∷ []

pub refused_changed : Reads old (dirty 2 1) study_file (refused 6 (dirty 3 2) []) → ⊥
refused_changed R = let z : Two 3 2 = ap (λ (st : State). st.head.elems.capacity) (R.refused (λ q. let y : Two 6 0 = q in omega arith)) in omega arith

pub refused_forgets : Reads old (joined_as 1 2 1 7 (dirty 2 1)) study_file (refused 6 (dirty 2 1) []) → ⊥
refused_forgets R = let z : Two 0 1 = ap (λ (st : State). st.head.undo.kept) (R.refused (λ q. let y : Two 6 0 = q in omega arith)) in omega arith

pub answers_more : Reads old (dirty 3 2) study_file (ok (3 ∷ []) (in_order 3 2) []) → ⊥
answers_more R = let z : Two 3 0 = ap (λ (l : List ℕ). get_or l 0 0) R.values in omega arith

pub says_overflow : Reads old (dirty 3 2) study_file (record { said = record { number = 0; values = []; over = true }; state = in_order 3 2; lent = [] }) → ⊥
says_overflow R = true≢false R.over

pub writes-other : Reads old (dirty 3 2) study_file (ok [] (left 3 2 1 1 21 0) []) → ⊥
unfolding rules files
writes-other R = let z : Two 21 20 = ap (λ (b : List ℕ). get_or b 44 0) (R.again refl) in omega arith

pub reads_other : Reads old (dirty 3 2) study_file (ok [] (left 3 2 2 1 20 0) []) → ⊥
reads_other R = let q = R.reads refl in let z : Two 2 1 = q.2.generation in omega arith

-- ---- outcomes of a write
abbrev bytes : List ℕ
bytes = u4 1 ++ u4 1 ++ u4 16 ++ u4 56 ++ u8 100 ++ u8 0 ++ u4 3 ++ f 10 0 ++ f 12 0 ++ f 11 0

pub write_changes : Writes 1 joined (replicate 99 9) (ok (84 ∷ []) (with_undo joined blank) []) → ⊥
write_changes W = let z : Two 0 1 = ap (λ (st : State). st.head.undo.kept) W.unchanged in omega arith

pub write_drops : Then (effect write_file) joined (with_undo joined blank) → ⊥
write_drops t = let z : Two 0 1 = ap (λ (st : State). st.head.undo.kept) t in omega arith

pub refused-writes : Writes 1 goes_on (9 ∷ []) (refused 7 goes_on (1 ∷ [])) → ⊥
refused-writes W = let z : Two 1 9 = ap (λ (l : List ℕ). get_or l 0 0) (W.refused (λ q. let y : Two 7 0 = q in omega arith)) in omega arith

pub other_byte : Writes 1 goes_on (replicate 72 9) (ok (72 ∷ []) goes_on (2 ∷ drop 1 bytes)) → ⊥
unfolding rules files
other_byte W = let z : Two 2 1 = ap (λ (l : List ℕ). get_or l 0 0) (W.written refl) in omega arith

pub past_touched : Writes 1 goes_on (replicate 73 9) (ok (72 ∷ []) goes_on (bytes ++ 0 ∷ [])) → ⊥
unfolding rules files
past_touched W = let z : Two 0 9 = ap (λ (l : List ℕ). get_or l 72 0) (W.written refl) in omega arith

pub other-answer : Writes 1 goes_on (replicate 72 9) (ok (71 ∷ []) goes_on bytes) → ⊥
other-answer W = let z : Two 71 72 = ap (λ (l : List ℕ). get_or l 0 0) (W.answered refl) in omega arith

-- ---- numbers past a u64; and tables that are not the compressed ones, unsealed
pub payload_no_word : Words (at (pool 1 1 0 1) (pool 1 1 0 1) 1 (e 1 18446744073709551616 1 1 1) (s 1 5 0)) → ⊥
unfolding rules
payload_no_word N = omega (arith, N.payloads 1)

pub value_no_word : Words (at (pool 1 1 0 1) (pool 1 1 0 1) 1 (e 1 5 1 1 1) (s 1 18446744073709551616 0)) → ⊥
unfolding rules
value_no_word N = omega (arith, N.values 1)

pub other-head : Unsealed (left 3 2 1 1 20 0) (left 3 2 2 1 20 0) → ⊥
other-head U = let z : Two 2 1 = ap (λ h. h.generation) U.head in omega arith

pub other-table : Unsealed (left 3 2 1 1 20 0) (left 3 2 1 1 21 0) → ⊥
other-table U = let z : Two 21 20 = ap (λ (t : List ℕ). get_or t 1 0) U.elems in omega arith

pub other-header : Unsealed (left 3 2 1 1 20 0) (at (pool 3 3 0 3) (pool 2 2 0 2) 1 (left 3 2 1 1 20 0).elems (mz 2 201 0 21 ++ mz 1 400 0 11)) → ⊥
unfolding rules
other-header U = let z : Two 201 200 = U.shared 1 1 (lit< tt) (λ q. let y : Two 1 3 = q in omega arith) in omega arith

pub marked-still : Unsealed (left 3 2 1 1 20 1) (left 3 2 1 1 20 1) → ⊥
unfolding rules
marked-still U = let z : Two 1 0 = U.marks 2 in omega arith

-- ---- each number at its test, and no other
-- eight bytes that tell of a run are no file
abbrev told : List ℕ
told = u4 1 ++ u4 1

no_runs : (rs : List StoredRun) → Stores told rs → ⊥
unfolding files
no_runs [] S = let z : Two 1 0 = ap (λ (b : List ℕ). get_or b 4 0) S.1 in omega arith
no_runs (r ∷ rs) S = let z : Two 8 9 = ap (λ (b : List ℕ). length (take 9 b)) S.1 in omega arith

module _ (n : ℕ) where
  pub one_first : ReadGives old none [] n → n ≡ 1
  unfolding rules
  one_first (inl (h, q)) = q
  one_first (inr (h, r)) = absurd (h refl)

  pub nine_of_seven : ReadGives old study (u4 2 ++ 0 ∷ 0 ∷ 0 ∷ []) n → n ≡ 9
  unfolding rules
  nine_of_seven (inl (h, q)) = absurd (true≢false h)
  nine_of_seven (inr (h, inl (l, q))) = q
  nine_of_seven (inr (h, inr (l, r))) = absurd (l (lit< tt))

  pub eleven_then : ReadGives old study (u4 2 ++ u4 9) n → n ≡ 11
  unfolding rules files
  eleven_then (inl (h, q)) = absurd (true≢false h)
  eleven_then (inr (h, inl (l, q))) = absurd (omega (arith, l))
  eleven_then (inr (h, inr (l, inl (u, q)))) = q
  eleven_then (inr (h, inr (l, inr (u, r)))) = absurd (u unknown)
    where
      unknown : (Two 2 1 ⊎ ⊥) → ⊥
      unknown (inl z) = omega (arith, z)
      unknown (inr z) = z

  pub nine_again : ReadGives old study told n → n ≡ 9
  unfolding rules files
  nine_again (inl (h, q)) = absurd (true≢false h)
  nine_again (inr (h, inl (l, q))) = q
  nine_again (inr (h, inr (l, inl (u, q)))) = absurd (u (inl refl))
  nine_again (inr (h, inr (l, inr (u, inl (d, q))))) = q
  nine_again (inr (h, inr (l, inr (u, inr (d, r))))) = absurd (d no_runs)

  pub six_before_five : ReadGives old (dirty 2 1) study_file n → n ≡ 6
  unfolding rules files
  six_before_five (inl (h, q)) = absurd (true≢false h)
  six_before_five (inr (h, inl (l, q))) = absurd (omega (arith, l))
  six_before_five (inr (h, inr (l, inl (u, q)))) = absurd (u (inl refl))
  six_before_five (inr (h, inr (l, inr (u, inl (d, q))))) = absurd (d study_runs study_stores)
  six_before_five (inr (h, inr (l, inr (u, inr (d, inl (m, q)))))) = q
  six_before_five (inr (h, inr (l, inr (u, inr (d, inr (m, r)))))) = absurd (m (study_runs, study_stores, lit< tt))

  pub write_one : WriteGives 1 none [] n → n ≡ 1
  unfolding rules
  write_one (inl (h, q)) = q
  write_one (inr (h, r)) = absurd (h refl)

  pub write_two : WriteGives 1 trap [] n → n ≡ 2
  unfolding rules
  write_two (inl (h, q)) = absurd (true≢false h)
  write_two (inr (h, inl (u, q))) = q
  write_two (inr (h, inr (u, r))) = absurd (u (λ w. trap_unsound w.0))

  pub write_seven : WriteGives 1 three (replicate 71 9) n → n ≡ 7
  unfolding rules
  write_seven (inl (h, q)) = absurd (true≢false h)
  write_seven (inr (h, inl (u, q))) = absurd (u (three_sound, inl refl))
  write_seven (inr (h, inr (u, inl (l, q)))) = q
  write_seven (inr (h, inr (u, inr (l, q)))) = absurd (l (lit< tt))

  pub write_accepted : WriteGives 1 three (replicate 72 9) n → n ≡ 0
  unfolding rules
  write_accepted (inl (h, q)) = absurd (true≢false h)
  write_accepted (inr (h, inl (u, q))) = absurd (u (three_sound, inl refl))
  write_accepted (inr (h, inr (u, inl (l, q)))) = absurd (omega (arith, l))
  write_accepted (inr (h, inr (u, inr (l, q)))) = q
