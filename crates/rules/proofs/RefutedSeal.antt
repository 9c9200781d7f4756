-- Ticket 1's claim on a seal, part by part: for each, an outcome or what came after it that breaks it; then the calls that it is about.
use Prim.Native.Nat.{ℕ, ◌≤◌}
use native.Mathlib.Omega.{arith}
use mathlib.Core.Path.{◌≡◌, refl, ap}
use mathlib.Core.Logic.{inl, inr}
use mathlib.Core.Bool.{Bool, true, false, false≢true}
use mathlib.Core.List.{List, [], ◌∷◌, ◌++◌, map}
use lib.ListN.{get_or, replicate}
use Rattle.rules.specs.declared.Key.{Key}
use Rattle.std.specs.Prelude.{Result, Ok, Err}
use Rattle.rules.specs.declared.Cause.{Cause}
use Rattle.rules.specs.Tables.{sized, frame_width, header_width, State}
use Rattle.rules.specs.Calls.{new_run, remove, seal, compress, compress_with, AtDoor}
use Rattle.rules.specs.Notation.{flat}
use Rattle.rules.specs.History.{History, others_of, runs_but, removed_runs, sorted, begun_at, ordered, renamed, moved_down}
use Rattle.rules.specs.Demand.{After, In}
use Rattle.rules.specs.Renaming.{Compresses, canonical, kept}
use Rattle.rules.specs.Sealing.{keys_written, Since, begin, fresh, call, compression, Sealed, Sealing}
use Rattle.rules.proofs.Cases.{rules, key, ok, refused, pool, at, e, s, m, zeros}
use Rattle.rules.proofs.Worked.{fresh43, one, three}
use Rattle.rules.proofs.Histories.{told}

-- the slot of the second key
abbrev second : List Key → ℕ
second ks = get_or (map (λ (k : Key). k.slot) ks) 1 0

-- the keys in the places written, and not their payloads
pub keys : keys_written 2 (2 ∷ 1 ∷ 11 ∷ 3 ∷ 4 ∷ 12 ∷ 9 ∷ 9 ∷ 9 ∷ []) ≡ key 2 1 ∷ key 3 4 ∷ []
unfolding keys_written
keys = refl

-- ---- the answer and the places, for the ring of P1 sealed at its second frame

abbrev ring : History
ring = told ((key 1 1 ∷ key 3 1 ∷ key 2 1 ∷ []) ∷ []) 3 0 1

abbrev three1 : State
three1 = at three.head.elems three.head.shared 1 three.elems (m 3 100 1 ++ zeros header_width 2)

pub other-count : Sealed three ring (key 2 1) (ok (3 ∷ 2 ∷ []) three1 (2 ∷ 1 ∷ 11 ∷ 1 ∷ 1 ∷ 10 ∷ 3 ∷ 1 ∷ 12 ∷ [])) → ⊥
unfolding others_of
other-count S = let z : ◌≡◌ {A = ℕ} 2 3 = S.counted in omega arith

pub other_order : Sealed three ring (key 2 1) (ok (100 ∷ 3 ∷ []) three1 (2 ∷ 1 ∷ 11 ∷ 3 ∷ 1 ∷ 12 ∷ 1 ∷ 1 ∷ 10 ∷ [])) → ⊥
unfolding keys_written others_of
other_order S = let z : ◌≡◌ {A = ℕ} 3 1 = ap second S.written in omega arith

-- ---- what comes after, for a run of one

abbrev alone : History
alone = told ((key 1 1 ∷ []) ∷ []) 1 0 1

abbrev one1 : State
one1 = at one.head.elems one.head.shared 1 one.elems (m 1 100 1 ++ zeros header_width 2)

abbrev sealed_history : (runs : List (List Key)) → (sealed : List Key) → (put taken generation : ℕ) → History
sealed_history rs ks p t g = record { runs = rs; unjoined = []; sealed = ks; sizes = map (λ k. record { key = k; bytes = 0 }) (flat rs); put = p; taken = t; generation = g }

abbrev alone1 : History
alone1 = sealed_history ((key 1 1 ∷ []) ∷ []) (key 1 1 ∷ []) 1 0 1

-- a state and history after the seal, and what has then become of the frame
abbrev Later : State → History → List Key → Type 0
Later = Since one1 alone1 (key 1 1 ∷ [])

abbrev Kept : Type 0
Kept = Sealed one alone (key 1 1) (ok (100 ∷ 1 ∷ []) one1 (1 ∷ 1 ∷ 10 ∷ []))

-- a frame has come into the run
pub came_in : Later one1 (sealed_history ((key 1 1 ∷ key 2 1 ∷ []) ∷ []) (key 1 1 ∷ []) 2 0 1) (key 1 1 ∷ []) → Kept → ⊥
unfolding others_of
came_in later S = go (S.only later (key 1 1) (inl refl) (key 2 1) (inr (inl refl)))
  where
    go : In (key 2 1) (key 1 1 ∷ []) → ⊥
    go (inl q) = let z : ◌≡◌ {A = ℕ} 2 1 = ap (λ (k : Key). k.slot) q in omega arith
    go (inr q) = q

-- the mark has gone; the frame has gone
live : Result ℕ Cause → Bool
live (Ok x) = true
live (Err cause) = false

pub mark-gone : Later one alone1 (key 1 1 ∷ []) → Kept → ⊥
unfolding rules others_of
mark-gone later S = let z : ◌≡◌ {A = ℕ} 0 1 = (S.marked later (key 1 1) (inl refl)).1 in omega arith

pub frame-gone : Later fresh43 alone1 (key 1 1 ∷ []) → Kept → ⊥
unfolding rules others_of live
frame-gone later S = false≢true (ap live (S.marked later (key 1 1) (inl refl)).0)

-- there are more frames than were counted
pub more : Later one1 alone1 (key 1 1 ∷ key 2 1 ∷ []) → Kept → ⊥
unfolding others_of
more later S = let l : 2 ≤ 1 = S.fewer later in omega arith

-- ---- the claim rules out an accepted seal that answers another count

pub says_so : After three ring → (lent : List ℕ) → AtDoor three lent (seal (key 2 1)) (ok (3 ∷ 2 ∷ []) three1 (2 ∷ 1 ∷ 11 ∷ 1 ∷ 1 ∷ 10 ∷ 3 ∷ 1 ∷ 12 ∷ [])) → Sealing → ⊥
says_so a lent d C = other-count (C three ring a lent (key 2 1) (ok (3 ∷ 2 ∷ []) three1 (2 ∷ 1 ∷ 11 ∷ 1 ∷ 1 ∷ 10 ∷ 3 ∷ 1 ∷ 12 ∷ [])) d refl)

-- ---- the calls meant: none; fresh, accepted and refused; one that takes the frame out; one that is refused; compression

-- only the two compressions rename
no_removal : {k : Key} → Compresses (remove k) → ⊥
no_removal = elim [ ]

no_new_run : {payload value size : ℕ} → Compresses (new_run payload value size) → ⊥
no_new_run = elim [ ]

pub none_yet : Later one1 alone1 (key 1 1 ∷ [])
none_yet = begin

pub after-fresh : Later one1 alone1 (key 1 1 ∷ []) → Later fresh43 (sealed_history [] [] 1 1 1) []
unfolding rules
after-fresh l = fresh l 4 3

pub fresh-refused : Later one1 alone1 (key 1 1 ∷ []) → Later one1 alone1 (key 1 1 ∷ [])
unfolding rules
fresh-refused l = fresh l 3 3

abbrev gone : State
gone = at (pool 4 1 1 0) (pool 3 1 1 0) 2 (zeros frame_width 4) (zeros header_width 3)

pub taken_out : Later one1 alone1 (key 1 1 ∷ []) → AtDoor one1 [] (remove (key 1 1)) (ok (10 ∷ 100 ∷ []) gone []) → Later gone (sealed_history [] [] 1 1 2) []
unfolding rules others_of runs_but removed_runs
taken_out l d = call l [] (remove (key 1 1)) (ok (10 ∷ 100 ∷ []) gone []) d (λ r. absurd (no_removal r))

abbrev beside : State
beside = at (pool 4 2 0 2) (pool 3 2 0 2) 1 (e 1 10 1 1 1 ++ e 1 20 2 2 2 ++ zeros frame_width 2) (m 1 100 1 ++ s 1 200 0 ++ zeros header_width 1)

pub other-run : Later one1 alone1 (key 1 1 ∷ []) → AtDoor one1 [] (new_run 20 200 0) (ok (2 ∷ 1 ∷ []) beside []) → Later beside (sealed_history ((key 2 1 ∷ []) ∷ (key 1 1 ∷ []) ∷ []) (key 1 1 ∷ []) 2 0 1) (key 1 1 ∷ [])
unfolding sized
other-run l d = call l [] (new_run 20 200 0) (ok (2 ∷ 1 ∷ []) beside []) d (λ r. absurd (no_new_run r))

pub refused-compress : Later one1 alone1 (key 1 1 ∷ []) → AtDoor one1 [] (compress true) (refused 7 one1 []) → Later one1 alone1 (key 1 1 ∷ [])
refused-compress l d = call l [] (compress true) (refused 7 one1 []) d (λ r z. omega (arith, z))

-- compression gives the frame its new key, with and without reset
abbrev behind : State
behind = at (pool 4 2 1 1) (pool 3 2 1 1) 2 (e 0 0 0 0 0 ++ e 1 20 2 2 2 ++ zeros frame_width 2) (s 0 0 0 ++ m 1 200 1 ++ zeros header_width 1)

abbrev front : (generation : ℕ) → State
front g = at (pool 4 1 0 1) (pool 3 1 0 1) g (e g 20 1 1 1 ++ zeros frame_width 3) (m 1 200 1 ++ zeros header_width 2)

abbrev behind_run : History
behind_run = sealed_history ((key 2 1 ∷ []) ∷ []) (key 2 1 ∷ []) 2 1 2

abbrev front_run : (generation : ℕ) → History
front_run g = sealed_history ((key 1 g ∷ []) ∷ []) (key 1 g ∷ []) 2 1 g

pub compressed : Later behind behind_run (key 2 1 ∷ []) → AtDoor behind (replicate 24 0) (compress false) (ok [] (front 3) (replicate 24 0)) → Later (front 3) (front_run 3) (key 1 3 ∷ [])
unfolding rules sorted begun_at ordered renamed
compressed l d = compression l (replicate 24 0) (compress false) (canonical false) (ok [] (front 3) (replicate 24 0)) d refl

pub reset : Later behind behind_run (key 2 1 ∷ []) → AtDoor behind (replicate 24 0) (compress true) (ok [] (front 1) (replicate 24 0)) → Later (front 1) (front_run 1) (key 1 1 ∷ [])
unfolding rules sorted begun_at ordered renamed
reset l d = compression l (replicate 24 0) (compress true) (canonical true) (ok [] (front 1) (replicate 24 0)) d refl

-- and so does the one that keeps the slot order
pub moved_down_lem : Later behind behind_run (key 2 1 ∷ []) → AtDoor behind (replicate 4 0) (compress_with false) (ok (1 ∷ []) (front 3) (2 ∷ 1 ∷ 1 ∷ 3 ∷ [])) → Later (front 3) (front_run 3) (key 1 3 ∷ [])
unfolding rules moved_down
moved_down_lem l d = compression l (replicate 4 0) (compress_with false) (kept false) (ok (1 ∷ []) (front 3) (2 ∷ 1 ∷ 1 ∷ 3 ∷ [])) d refl

pub moved_down_reset : Later behind behind_run (key 2 1 ∷ []) → AtDoor behind (replicate 4 0) (compress_with true) (ok (1 ∷ []) (front 1) (2 ∷ 1 ∷ 1 ∷ 1 ∷ [])) → Later (front 1) (front_run 1) (key 1 1 ∷ [])
unfolding rules moved_down
moved_down_reset l d = compression l (replicate 4 0) (compress_with true) (kept true) (ok (1 ∷ []) (front 1) (2 ∷ 1 ∷ 1 ∷ 1 ∷ [])) d refl

pub refused_moved_down : Later one1 alone1 (key 1 1 ∷ []) → AtDoor one1 [] (compress_with true) (refused 7 one1 []) → Later one1 alone1 (key 1 1 ∷ [])
refused_moved_down l d = call l [] (compress_with true) (refused 7 one1 []) d (λ r z. omega (arith, z))
