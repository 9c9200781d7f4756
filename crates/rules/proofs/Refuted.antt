-- Demand 3, claim by claim: for each, a state and history that breaks it alone; for a union, an outcome; then what the demand rules out, and the sequences that it is about.
use Prim.Native.Nat.{ℕ}
use native.Mathlib.Omega.{arith}
use mathlib.Core.Path.{◌≡◌, refl, ap}
use mathlib.Core.Logic.{inl, inr}
use mathlib.Core.Bool.{Bool, true, false, false≢true}
use mathlib.Core.List.{List, [], ◌∷◌, ◌++◌, map}
use lib.Dec.{lit≤, lit<}
use lib.ListN.{get_or}
use Rattle.rules.specs.declared.Key.{Key}
use Rattle.std.specs.Prelude.{Result, Ok, Err}
use Rattle.rules.specs.declared.Cause.{Cause}
use Rattle.rules.specs.Tables.{sized, frame_width, frame_at, header_at, cell, is_live, found, State}
use Rattle.rules.specs.Refusals.{Outcome}
use Rattle.rules.specs.Calls.{Call, get_element, new_run, union, AtDoor}
use Rattle.rules.specs.History.{History, others_of, nothing}
use Rattle.rules.specs.Demand.{After, start, fresh, call, In, Agrees, Union, Demand3}
use Rattle.rules.proofs.Cases.{rules, key, ok, refused, dead, pool, at, e, s, m, zeros}
use Rattle.rules.proofs.Worked.{fresh43, one, three}
use Rattle.rules.proofs.Histories.{told}

-- what a lookup found, as a truth value; the slot of the second key
live : Result ℕ Cause → Bool
live (Ok x) = true
live (Err cause) = false

abbrev second : List Key → ℕ
second ks = get_or (map (λ (k : Key). k.slot) ks) 1 0

-- one run of one frame, as it should be
abbrev alone : History
alone = told ((key 1 1 ∷ []) ∷ []) 1 0 1

-- ---- each field of Agrees

-- a live frame that lies in no ring
pub in_no_ring : Agrees one (told [] 1 0 1) → ⊥
unfolding cell is_live found
in_no_ring A = (A.lies (key 1 1)).0 refl

-- a ring has a frame that is not live
pub not_live : Agrees fresh43 (told ((key 1 1 ∷ []) ∷ []) 0 0 1) → ⊥
unfolding cell is_live found live
not_live A = false≢true (ap live ((A.lies (key 1 1)).1 (inl refl)))

-- a frame lies in two rings
pub in_two_rings : Agrees one (told ((key 1 1 ∷ []) ∷ (key 1 1 ∷ []) ∷ []) 1 0 1) → ⊥
in_two_rings A = A.once.0 (inl refl)

-- a ring whose header lies past the extent, and so is none
abbrev headless : State
headless = at (pool 1 1 0 1) (pool 1 0 0 0) 1 (e 1 10 1 1 1) (s 1 100 0)

pub no_header : Agrees headless (told ((key 1 1 ∷ []) ∷ []) 0 0 1) → ⊥
unfolding cell is_live found
no_header A = A.headed (key 1 1) refl

-- one ring of two, with two headers
abbrev two_headers : State
two_headers = at (pool 2 2 0 2) (pool 2 2 0 2) 1 (e 1 10 1 2 2 ++ e 1 11 2 1 1) (s 2 100 0 ++ s 2 200 0)

pub two_headers_lem : Agrees two_headers (told ((key 1 1 ∷ key 2 1 ∷ []) ∷ []) 4 0 1) → ⊥
unfolding cell is_live found others_of
two_headers_lem A = let z : ◌≡◌ {A = ℕ} 1 2 = A.shares (key 1 1) (key 2 1) refl refl (inr (inl refl)) in omega arith

-- two rings of one, with one header
abbrev one_header : State
one_header = at (pool 2 2 0 2) (pool 1 1 0 1) 1 (e 1 10 1 1 1 ++ e 1 11 1 2 2) (s 1 100 0)

pub header-shared : Agrees one_header (told ((key 1 1 ∷ []) ∷ (key 2 1 ∷ []) ∷ []) 1 0 1) → ⊥
unfolding cell is_live found others_of
header-shared A = go (A.own (key 1 1) (key 2 1) refl refl refl)
  where
    go : In (key 1 1) (key 2 1 ∷ []) → ⊥
    go (inl q) = let z : ◌≡◌ {A = ℕ} 1 2 = ap (λ (k : Key). k.slot) q in omega arith
    go (inr q) = q

-- the frames of a run are met in another order
pub other_order : Agrees three (told ((key 1 1 ∷ key 2 1 ∷ key 3 1 ∷ []) ∷ []) 3 0 1) → ⊥
unfolding cell is_live found others_of
other_order A = let z : ◌≡◌ {A = ℕ} 3 2 = ap second (A.meets (key 1 1) refl) in omega arith

-- the walk does not return: next leads out of a run of one
abbrev leads_out : State
leads_out = at (pool 2 1 0 1) (pool 1 1 0 1) 1 (e 1 10 1 1 2 ++ zeros frame_width 1) (s 1 100 0)

pub no_return : Agrees leads_out alone → ⊥
unfolding cell is_live found
no_return A = let z : ◌≡◌ {A = ℕ} 2 1 = ap (λ (k : Key). k.slot) (A.returns (key 1 1) refl) in omega arith

-- the walk returns before the count: two steps over a ring of one
abbrev twice : State
twice = at (pool 1 1 0 1) (pool 1 1 0 1) 1 (e 1 10 1 1 1) (s 2 100 0)

pub returns_early : Agrees twice (told ((key 1 1 ∷ key 1 1 ∷ []) ∷ []) 2 0 1) → ⊥
unfolding cell is_live found
returns_early A = A.before (key 1 1) refl 1 (lit≤ tt) (lit< tt) refl

-- Ticket 1: a mark on a run that was never sealed; a sealed run without its mark
abbrev marked : (mark : ℕ) → State
marked mark = at (pool 1 1 0 1) (pool 1 1 0 1) 1 (e 1 10 1 1 1) (m 1 100 mark)

pub mark-unsealed : Agrees (marked 1) alone → ⊥
unfolding cell is_live found
mark-unsealed A = let z : ◌≡◌ {A = ℕ} 1 0 = A.marks (key 1 1) refl in omega arith

pub sealed_unmarked : Agrees (marked 0) (record { runs = alone.runs; unjoined = []; sealed = key 1 1 ∷ []; sizes = []; put = 1; taken = 0; generation = 1 }) → ⊥
unfolding cell is_live found
sealed_unmarked A = let z : ◌≡◌ {A = ℕ} 0 1 = A.marks (key 1 1) refl in omega arith

-- the mark is that of the run's own shared slot
abbrev crossed : State
crossed = at (pool 2 2 0 2) (pool 2 2 0 2) 1 (e 1 10 2 1 1 ++ e 1 20 1 2 2) (s 1 200 0 ++ m 1 100 1)

pub mark_crossed : Agrees crossed (record { runs = (key 1 1 ∷ []) ∷ (key 2 1 ∷ []) ∷ []; unjoined = []; sealed = key 2 1 ∷ []; sizes = []; put = 2; taken = 0; generation = 1 }) → ⊥
unfolding cell is_live found
mark_crossed A = let z : ◌≡◌ {A = ℕ} 1 0 = A.marks (key 1 1) refl in omega arith

-- the counts do not sum to frames put in less frames taken out
pub count_less : Agrees one (told ((key 1 1 ∷ []) ∷ []) 2 0 1) → ⊥
unfolding cell
count_less A = let z : ◌≡◌ {A = ℕ} 1 2 = A.counts in omega arith

pub count_more : Agrees one (told ((key 1 1 ∷ []) ∷ []) 1 1 1) → ⊥
unfolding cell
count_more A = let z : ◌≡◌ {A = ℕ} 2 1 = A.counts in omega arith

-- ---- each field of Union, for the first two of three runs of one

abbrev each : State
each =
    at (pool 3 3 0 3) (pool 3 3 0 3) 1
    (e 1 10 1 1 1 ++ e 1 20 2 2 2 ++ e 1 30 3 3 3)
    (s 1 100 0 ++ s 1 200 0 ++ s 1 300 0)

abbrev runs : History
runs = told ((key 1 1 ∷ []) ∷ (key 2 1 ∷ []) ∷ (key 3 1 ∷ []) ∷ []) 3 0 1

-- the state after: with the third frame's payload and the third header's value as given
abbrev after : (payload value : ℕ) → State
after payload value =
    at (pool 3 3 0 3) (pool 3 3 2 2) 1
    (e 1 10 1 2 2 ++ e 1 20 1 1 1 ++ e 1 payload 3 3 3)
    (s 2 100 0 ++ s 0 0 0 ++ s 1 value 0)

abbrev Claimed : Outcome → Type 0
Claimed o = Union each runs (key 1 1) (key 2 1) o

-- nothing is rewritten
pub not-rewritten : Claimed (ok (200 ∷ 1 ∷ 1 ∷ 0 ∷ []) each []) → ⊥
unfolding cell others_of
not-rewritten U = let z : ◌≡◌ {A = ℕ} 0 1 = U.smaller in omega arith

-- the larger run is rewritten, whichever key is its
abbrev unlike : State
unlike =
    at (pool 3 3 0 3) (pool 2 2 0 2) 1
    (e 1 10 1 2 2 ++ e 1 11 1 1 1 ++ e 1 20 2 3 3)
    (s 2 100 0 ++ s 1 200 0)

abbrev unlike_runs : History
unlike_runs = told ((key 1 1 ∷ key 2 1 ∷ []) ∷ (key 3 1 ∷ []) ∷ []) 3 0 1

abbrev into_smaller : State
into_smaller =
    at (pool 3 3 0 3) (pool 2 2 1 1) 1
    (e 1 10 2 2 3 ++ e 1 11 2 3 1 ++ e 1 20 2 1 2)
    (s 0 0 0 ++ s 3 200 0)

pub larger_first : Union unlike unlike_runs (key 1 1) (key 3 1) (ok (100 ∷ 3 ∷ 1 ∷ 2 ∷ []) into_smaller []) → ⊥
unfolding cell others_of
larger_first U = let z : ◌≡◌ {A = ℕ} 2 1 = U.smaller in omega arith

pub larger_second : Union unlike unlike_runs (key 3 1) (key 1 1) (ok (100 ∷ 3 ∷ 1 ∷ 2 ∷ []) into_smaller []) → ⊥
unfolding cell others_of
larger_second U = let z : ◌≡◌ {A = ℕ} 2 1 = U.smaller in omega arith

-- another number is answered
pub other-number : Claimed (ok (200 ∷ 1 ∷ 1 ∷ 2 ∷ []) (after 30 300) []) → ⊥
unfolding cell
other-number U = let z : ◌≡◌ {A = ℕ} 2 1 = U.answered in omega arith

-- a frame, and a header, of the third run changes
pub third-frame : Claimed (ok (200 ∷ 1 ∷ 1 ∷ 1 ∷ []) (after 31 300) []) → ⊥
unfolding cell
third-frame U = let z : ◌≡◌ {A = ℕ} 31 30 = U.frames 3 frame_at.payload (lit< tt) (λ q. omega (arith, q)) (λ q. omega (arith, q)) in omega arith

pub third-header : Claimed (ok (200 ∷ 1 ∷ 1 ∷ 1 ∷ []) (after 30 301) []) → ⊥
unfolding cell
third-header U = let z : ◌≡◌ {A = ℕ} 301 300 = U.headers 3 header_at.value (lit< tt) (λ q. omega (arith, q)) (λ q. omega (arith, q)) in omega arith

-- ---- each field of Demand3: what it rules out

-- a call of the sequence is refused 1, or 2
pub refused_1 : {st : State} {h : History} → After st h → (lent : List ℕ) (c : Call) → AtDoor st lent c (refused 1 st lent) → Demand3 → ⊥
refused_1 {st} {h} a lent c d D = (D.passes st h a lent c (refused 1 st lent) d).0 refl

pub refused_2 : {st : State} {h : History} → After st h → (lent : List ℕ) (c : Call) → AtDoor st lent c (refused 2 st lent) → Demand3 → ⊥
refused_2 {st} {h} a lent c d D = (D.passes st h a lent c (refused 2 st lent) d).1 refl

-- the sequence leads to any of the states and histories above: here to the first
pub leads_there : After one (told [] 1 0 1) → Demand3 → ⊥
leads_there a D = in_no_ring (D.rings one (told [] 1 0 1) a)

-- a union says what is not so: here the number
pub says_so : After each runs → (lent : List ℕ) → AtDoor each lent (union (key 1 1) (key 2 1)) (ok (200 ∷ 1 ∷ 1 ∷ 2 ∷ []) (after 30 300) []) → Demand3 → ⊥
says_so a lent d D = other-number (D.unions each runs a lent (key 1 1) (key 2 1) (ok (200 ∷ 1 ∷ 1 ∷ 2 ∷ []) (after 30 300) []) d refl)

-- ---- the sequences meant: from any tables, with fresh in between, and with refused calls

pub begins : After fresh43 nothing
unfolding rules
begins = start three 4 3 refl

pub begins-again : After one alone → After fresh43 (told [] 1 1 1)
unfolding rules
begins-again a = fresh a 4 3

pub fresh-refused : After one alone → After one alone
unfolding rules
fresh-refused a = fresh a 3 3

pub call-accepted : After fresh43 nothing → AtDoor fresh43 [] (new_run 10 100 0) (ok (1 ∷ 1 ∷ []) one []) → After one alone
unfolding sized
call-accepted a d = call a [] (new_run 10 100 0) (ok (1 ∷ 1 ∷ []) one []) d

pub call-refused : After one alone → AtDoor one [] (get_element (key 2 1)) (dead 1 one []) → After one alone
call-refused a d = call a [] (get_element (key 2 1)) (dead 1 one []) d
