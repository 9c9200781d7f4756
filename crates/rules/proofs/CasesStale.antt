-- Ticket 8 at worked calls: what ends the premise and what does not, which call gives a key, and which takes its frame.
use Prim.Native.Nat.{ℕ, zero, suc}
use mathlib.Core.Path.{◌≡◌, refl, sym, ap}
use mathlib.Core.Bool.{true, false, true≢false}
use mathlib.Core.List.{List, [], ◌∷◌, map}
use native.Mathlib.Omega.{arith}
use lib.Dec.{lit≤}
use lib.ListN.{replicate, get_or}
use Rattle.rules.specs.Tables.{State, with_generation}
use Rattle.rules.specs.Refusals.{Outcome}
use Rattle.rules.specs.Calls.{new_run, insert, remove, remove_shared, drain, drain_all, clear, compress, compress_with, step}
use Rattle.rules.specs.Renaming.{canonical, kept}
use Rattle.rules.specs.Stale.{over_mark, Written, Ends, answer, on_record, on_record_of_all, reset, reset_with, closing, Gives, begun, put, renewed, Takes, removed, removed_shared, drained, drained_all, cleared, compressed}
use Rattle.rules.proofs.Cases.{rules, key}
use Rattle.rules.proofs.Worked.{fresh43, one, two, four, fresh_last, one_last}

abbrev lots : List ℕ
lots = replicate 24 0

-- the last generation but one
abbrev late : State → State
late st = record { head = with_generation st.head 4294967294; elems = st.elems; shared = st.shared }

-- two frames are drained, and the second removal passes the last generation
abbrev both : Outcome
both = step (late two) lots (drain (key 1 1))

pub marks : map (over_mark both) (1 ∷ 2 ∷ 3 ∷ []) ≡ 0 ∷ 1 ∷ 0 ∷ []
unfolding rules
marks = refl

pub written : Written both 1 × Written both 2
unfolding rules
written = ((lit≤ tt, lit≤ tt), (lit≤ tt, lit≤ tt))

pub not_written : (Written both 0 → ⊥) × (Written both 3 → ⊥)
unfolding rules
not_written = ((λ w. omega (arith, w.0)), λ w. omega (arith, w.1))

-- ---- what ends it
pub over-ends : Ends one_last (step one_last [] clear) clear
unfolding rules
over-ends = answer refl

pub record_ends : Ends (late two) both (drain (key 1 1))
unfolding rules
record_ends = on_record (key 1 1) 2 (lit≤ tt, lit≤ tt) refl

pub record_of_all_ends : Ends (late two) (step (late two) lots drain_all) drain_all
unfolding rules
record_of_all_ends = on_record_of_all 2 (lit≤ tt, lit≤ tt) refl

pub reset-ends : Ends one (step one lots (compress true)) (compress true) × Ends one (step one lots (compress_with true)) (compress_with true)
reset-ends = (reset, reset_with)

-- of no frame, and of one, whose removal reaches the last generation
pub closing-ends : Ends fresh_last (step fresh_last [] drain_all) drain_all × Ends (late one) (step (late one) lots drain_all) drain_all
unfolding rules
closing-ends = (closing refl refl, closing refl refl)

-- ---- and what does not
pub clear_goes_on : Ends one (step one [] clear) clear → ⊥
unfolding rules
clear_goes_on (answer e) = true≢false (sym e)

pub drain_goes_on : Ends two (step two lots (drain (key 1 1))) (drain (key 1 1)) → ⊥
unfolding rules
drain_goes_on (answer e) = true≢false (sym e)
drain_goes_on (on_record k zero w e) = omega (arith, w.0)
drain_goes_on (on_record k (suc zero) w e) = omega (arith, e)
drain_goes_on (on_record k (suc (suc zero)) w e) = omega (arith, e)
drain_goes_on (on_record k (suc (suc (suc i))) w e) = omega (arith, w.1)

-- the record of the last removal reaches the last generation, and a record past those written counts for nothing
pub reached_goes_on : Ends (late one) (step (late one) (replicate 24 1) (drain (key 1 1))) (drain (key 1 1)) → ⊥
unfolding rules
reached_goes_on (answer e) = true≢false (sym e)
reached_goes_on (on_record k zero w e) = omega (arith, w.0)
reached_goes_on (on_record k (suc zero) w e) = omega (arith, e)
reached_goes_on (on_record k (suc (suc i)) w e) = omega (arith, w.1)

pub drain_all_goes_on : Ends one (step one lots drain_all) drain_all → ⊥
unfolding rules
drain_all_goes_on (answer e) = true≢false (sym e)
drain_all_goes_on (on_record_of_all zero w e) = omega (arith, w.0)
drain_all_goes_on (on_record_of_all (suc zero) w e) = omega (arith, e)
drain_all_goes_on (on_record_of_all (suc (suc i)) w e) = omega (arith, w.1)
drain_all_goes_on (closing n e) = true≢false (sym e)

-- refused, it clears nothing
pub refused_goes_on : Ends (late one) (step (late one) [] drain_all) drain_all → ⊥
unfolding rules
refused_goes_on (answer e) = true≢false (sym e)
refused_goes_on (on_record_of_all i w e) = omega (arith, w.0, w.1)
refused_goes_on (closing n e) = omega (arith, n)

pub compress_goes_on : (Ends one (step one lots (compress false)) (compress false) → ⊥) × (Ends one (step one lots (compress_with false)) (compress_with false) → ⊥)
unfolding rules
compress_goes_on = (first, second)
  where
    first : Ends one (step one lots (compress false)) (compress false) → ⊥
    first (answer e) = true≢false (sym e)

    second : Ends one (step one lots (compress_with false)) (compress_with false) → ⊥
    second (answer e) = true≢false (sym e)

-- ---- keys given: by a new run and an insert the one that they answer, by a compression every one
pub gives : Gives (step fresh43 [] (new_run 10 100 0)) (key 1 1) (new_run 10 100 0) × Gives (step one [] (insert (key 1 1) 11 0)) (key 2 1) (insert (key 1 1) 11 0)
unfolding rules
gives = (begun 10 100 0 refl, put (key 1 1) 11 0 refl)

pub renews : Gives (step two lots (compress false)) (key 2 2) (compress false) × Gives (step two lots (compress_with true)) (key 2 1) (compress_with true)
unfolding rules
renews = (renewed (canonical false) refl, renewed (kept true) refl)

-- a live key that was there before is given by neither
pub gives_no_other : (Gives (step one [] (new_run 20 200 0)) (key 1 1) (new_run 20 200 0) → ⊥) × (Gives (step one [] (insert (key 1 1) 11 0)) (key 1 1) (insert (key 1 1) 11 0) → ⊥)
unfolding rules
gives_no_other = (new, more)
  where
    new : Gives (step one [] (new_run 20 200 0)) (key 1 1) (new_run 20 200 0) → ⊥
    new (renewed x3 _) = elim x3 [ ]
    new (begun payload value size e) = omega (arith, ap (λ (v : List ℕ). get_or v 0 0) e)

    more : Gives (step one [] (insert (key 1 1) 11 0)) (key 1 1) (insert (key 1 1) 11 0) → ⊥
    more (renewed x3 _) = elim x3 [ ]
    more (put j payload size e) = omega (arith, ap (λ (v : List ℕ). get_or v 0 0) e)

-- ---- frames taken: 2 is in the run of 1, and 4 is not
pub takes : Takes four (key 1 1) (remove (key 1 1)) × Takes four (key 2 1) (remove_shared (key 1 1)) × Takes four (key 2 1) (drain (key 1 1)) × Takes four (key 4 1) drain_all × Takes four (key 4 1) clear × Takes four (key 4 1) (compress false) × Takes four (key 4 1) (compress_with false)
unfolding rules
takes = (removed, removed_shared (key 1 1) refl, drained (key 1 1) refl, drained_all, cleared, compressed (canonical false), compressed (kept false))

pub takes_no_other : (Takes four (key 4 1) (remove_shared (key 1 1)) → ⊥) × (Takes four (key 4 1) (drain (key 1 1)) → ⊥)
unfolding rules
takes_no_other = (shared, run)
  where
    shared : Takes four (key 4 1) (remove_shared (key 1 1)) → ⊥
    shared (compressed x'') = elim x'' [ ]
    shared (removed_shared j e) = omega (arith, e)

    run : Takes four (key 4 1) (drain (key 1 1)) → ⊥
    run (compressed x'') = elim x'' [ ]
    run (drained j e) = omega (arith, e)
