-- Ticket 8 at worked sequences from fresh tables, capacities 4 and 3: a reset does bring an old key back, and so does whatever another of the provisos keeps out.
use Rattle.std.specs.Prelude.{◌==◌}
use Prim.Native.Nat.{ℕ, zero, suc, ◌+◌, ◌≤◌}
use mathlib.Core.Path.{◌≡◌, refl, sym, ap, ◌∙◌, subst}
use mathlib.Core.Bool.{Bool, true, false, true≢false}
use mathlib.Core.List.{List, [], ◌∷◌, ◌++◌}
use native.Mathlib.Omega.{arith}
use lib.ListN.{replicate}
use Rattle.rules.specs.declared.Cause.TheVariants.{FreeSlot, OtherGeneration, NoSlot}
use Rattle.std.specs.Prelude.{Result, Ok, Err}
use Rattle.rules.specs.declared.Cause.{Cause}
use Rattle.rules.specs.Tables.{last_generation, State, found, LiveKey}
use Rattle.rules.specs.Refusals.{Outcome}
use Rattle.rules.specs.Slots.{empty}
use Rattle.rules.specs.Calls.{Call, new_run, remove, drain_all, clear, compress, compress_with, step, fresh_step}
use Rattle.rules.specs.Copy.{clone_step}
use Rattle.rules.specs.ReadFile.{read_step}
use Rattle.rules.specs.Move.{transfer_step}
use Rattle.rules.specs.Demand.{Sequence, from_fresh, and_then}
use Rattle.rules.specs.Stale.{Ends, answer, Quietly, call, Since, given, begun, Later, now, later, TakenOut, taken, cleared}
use Rattle.rules.proofs.Cases.{rules, key}
use Rattle.rules.proofs.Worked.{fresh43}
use Rattle.rules.proofs.CasesCopied.{copying}
use Rattle.rules.proofs.CasesFile.{files, u4}
use Rattle.rules.proofs.CasesTransferred.{moves}
use Rattle.rules.proofs.Laws.Tests.{eq_is, is_false}
use Rattle.rules.proofs.Laws.DemandThree.{goes_on}
use Rattle.rules.proofs.Laws.Marks.{rises}

-- ---- by computation: after each call, what looking up (1,1) finds; each call is lent enough
abbrev pub lookups : State → List Call → List (Result ℕ Cause)
lookups st [] = []
lookups st (c ∷ cs) = let o = step st (replicate 24 0) c in found o.state (key 1 1) ∷ lookups o.state cs

-- a new run gets (1,1), its frame is removed, `c` is called, and there is a new run
abbrev pub around : Call → List (Result ℕ Cause)
around c = lookups fresh43 (new_run 10 100 0 ∷ remove (key 1 1) ∷ c ∷ new_run 20 200 0 ∷ [])

-- a compression is asked to reset, and the next new run gets (1,1) again
pub reset_brings_back : around (compress true) ≡ Ok 1 ∷ Err FreeSlot ∷ Err NoSlot ∷ Ok 1 ∷ []
unfolding rules
reset_brings_back = refl

pub reset_with_brings_back : around (compress_with true) ≡ Ok 1 ∷ Err FreeSlot ∷ Err NoSlot ∷ Ok 1 ∷ []
unfolding rules
reset_with_brings_back = refl

-- not asked to reset, it does not
pub without_reset : around (compress false) ≡ Ok 1 ∷ Err FreeSlot ∷ Err NoSlot ∷ Err OtherGeneration ∷ []
unfolding rules
without_reset = refl

pub with_without_reset : around (compress_with false) ≡ Ok 1 ∷ Err FreeSlot ∷ Err NoSlot ∷ Err OtherGeneration ∷ []
unfolding rules
with_without_reset = refl

-- ---- as claims: the key (1,1) is given and taken out, and more is called, the premise holding all the while; then `ends`, which says overflow or does not, and a new run, and the key is live
pub record BroughtBack (ends : State → Outcome) (over : Bool) : Type 0 where
  pub got : Sequence
  pub gone : Sequence
  pub then : Sequence
  pub given : Since (key 1 1) got
  pub out : TakenOut (key 1 1) got gone
  pub more : Later gone then
  pub said : (ends then.state).said.over ≡ over
  pub live : LiveKey (step (ends then.state).state [] (new_run 20 200 0)).state (key 1 1)

-- one more call, by its rule
abbrev with : Sequence → (lent : List ℕ) → Call → Sequence
with s lent c = and_then s lent c (step s.state lent c) (goes_on s.calls lent c)

fresh-tables : Sequence
unfolding rules
fresh-tables = from_fresh fresh43 4 3 refl

abbrev first : Sequence
first = with fresh-tables [] (new_run 10 100 0)

abbrev second : Sequence
second = with first [] clear

first-given : Since (key 1 1) first
unfolding rules fresh-tables
first-given = given fresh-tables [] (new_run 10 100 0) (step fresh-tables.state [] (new_run 10 100 0)) (goes_on fresh-tables.calls [] (new_run 10 100 0)) refl (begun 10 100 0 refl)

clear_quiet : {st : State} {o : Outcome} → o.said.over ≡ false → Ends st o clear → ⊥
clear_quiet e (answer f) = true≢false (sym f ∙ e)

first_out : TakenOut (key 1 1) first second
unfolding rules fresh-tables
first_out = taken refl [] clear (step first.state [] clear) (goes_on first.calls [] clear) refl (clear_quiet refl) cleared

second_empty : second.state ≡ empty 4 3 2
unfolding rules fresh-tables
second_empty = refl

-- clears lead to every later generation
record Reached (s : Sequence) (g : ℕ) : Type 0 where
  end : Sequence
  more : Later s end
  at : end.state ≡ empty 4 3 g

clears_once : (g : ℕ) (s : Sequence) → s.state ≡ empty 4 3 g → g + 1 ≤ last_generation → Quietly s (with s [] clear) × ((with s [] clear).state ≡ empty 4 3 (g + 1))
unfolding rules
clears_once g s e l =
    let n : (g == last_generation) ≡ false = is_false (g == last_generation) (eq_is g last_generation) (λ q. omega arith) in (
      call [] clear (step s.state [] clear) (goes_on s.calls [] clear) (clear_quiet (ap (λ (st : State). st.head.generation == last_generation) e ∙ n)),
      ap (λ (st : State). (step st [] clear).state) e ∙ ap (λ (i : ℕ). empty 4 3 i) (rises g n),
    )

clears : (n g : ℕ) (s : Sequence) → s.state ≡ empty 4 3 g → g + n ≤ last_generation → Reached s (g + n)
clears zero g s e l = record { end = s; more = now; at = e ∙ ap (λ (i : ℕ). empty 4 3 i) (omega arith) }
clears (suc n) g s e l =
    let r = clears n g s e (omega arith) in
    let c = clears_once (g + n) r.end r.at (omega arith) in
    record { end = with r.end [] clear; more = later r.more c.0; at = c.1 ∙ ap (λ (i : ℕ). empty 4 3 i) (omega arith) }

to_last : Reached second last_generation
to_last = clears 4294967293 2 second second_empty (omega arith)

-- what is so of empty tables of a generation, is so of these
module _ (ends : State → Outcome) (over : Bool) where
  abbrev Back : State → Type 0
  Back st = ((ends st).said.over ≡ over) × LiveKey (step (ends st).state [] (new_run 20 200 0)).state (key 1 1)

  back : (g : ℕ) → Reached second g → Back (empty 4 3 g) → BroughtBack ends over
  back g r b =
      let c = subst Back (sym r.at) b in
      record { got = first; gone = second; then = r.end; given = first-given; out = first_out; more = r.more; said = c.0; live = c.1 }

at_once : Reached second 2
at_once = record { end = second; more = now; at = second_empty }

pub by-reset : BroughtBack (λ st. step st (replicate 24 0) (compress true)) false
unfolding rules
by-reset = back _ false 2 at_once (refl, refl)

pub by_reset_with : BroughtBack (λ st. step st [] (compress_with true)) false
unfolding rules
by_reset_with = back _ false 2 at_once (refl, refl)

pub by-fresh : BroughtBack (λ st. fresh_step st 4 3) false
unfolding rules
by-fresh = back _ false 2 at_once (refl, refl)

-- Ticket 10: for a key that the target gave, a copy to it is a fresh call
pub by_copy : BroughtBack (λ st. let o = clone_step st (empty 1 1 1) in record { said = o.said; state = o.target; lent = [] }) false
unfolding rules copying
by_copy = back _ false 2 at_once (refl, refl)

-- Ticket 11: so is an accepted read, here of a file without runs
pub by_read : BroughtBack (λ st. read_step st (u4 1 ++ u4 0)) false
unfolding rules files
by_read = back _ false 2 at_once (refl, refl)

-- Ticket 12: and so is a move to it
pub by_move : BroughtBack (λ st. let o = transfer_step st (empty 1 1 1) 1 in record { said = o.said; state = o.target; lent = [] }) false
unfolding rules copying moves
by_move = back _ false 2 at_once (refl, refl)

-- the clear's answer says overflow
pub by_overflow : BroughtBack (λ st. step st [] clear) true
unfolding rules
by_overflow = back _ true last_generation to_last (refl, refl)

-- drain-all's closing clear passes the last generation, and no answer says so
pub by-closing : BroughtBack (λ st. step st [] drain_all) false
unfolding rules
by-closing = back _ false last_generation to_last (refl, refl)
