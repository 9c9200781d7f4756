-- Ticket 12's claims, one by one: for each, a move or an outcome that breaks it; and the numbers that a move gives at each test, and no other.
use Prim.Native.Nat.{ℕ, ◌<◌}
use native.Mathlib.Omega.{arith}
use mathlib.Core.Path.{◌≡◌, refl, ap}
use mathlib.Core.Logic.{◌≢◌, ◌⊎◌, inl, inr}
use mathlib.Core.Bool.{Bool, true, false, true≢false, false≢true}
use mathlib.Core.List.{[], ◌++◌}
use lib.Dec.{lit<}
use Rattle.rules.specs.declared.Memory.{Memory}
use Rattle.rules.specs.declared.Pool.{Pool}
use Rattle.rules.specs.Tables.{last_generation, frame_width, header_width, State}
use Rattle.rules.specs.Slots.{empty}
use Rattle.rules.specs.Undo.{Whole}
use Rattle.rules.specs.TwoTables.{TwoOutcome}
use Rattle.rules.specs.Moving.{MoveGives, MovedTo, MovedFrom, Transfers}
use Rattle.rules.proofs.Cases.{rules, pool, at, joined_as, ez, mz, zeros}
use Rattle.rules.proofs.Apart.{none}
use Rattle.rules.proofs.Sounds.{trap, trap_unsound}
use Rattle.rules.proofs.CasesCopied.{study, dirty, full, first, took, left}
use Rattle.rules.proofs.CasesTransferred.{landed, lands}

-- ---- a target that has not got the study. Its tables are too short
abbrev short : State
short = at (pool 7 3 0 3) (pool 5 2 0 2) 3 [] []

pub misshapen : MovedTo (dirty 7 5) study 3 short → ⊥
unfolding rules
misshapen C = false≢true C.ready.shape

-- the ring begun at another frame than the lowest, and another payload
pub from_another : MovedTo (dirty 7 5) study 3 (landed 7 5 3 51 40) → ⊥
unfolding rules
from_another C = let z : ◌≡◌ {A = ℕ} 51 20 = C.runs.payload 2 tt in omega arith

pub other-payload : MovedTo (dirty 7 5) study 3 (landed 7 5 3 20 41) → ⊥
unfolding rules
other-payload C = let z : ◌≡◌ {A = ℕ} 41 40 = C.runs.payload 4 tt in omega arith

-- another generation, of the head and of a frame
abbrev of_frame : (g : ℕ) → State
of_frame g =
    at (pool 7 3 0 3) (pool 5 2 0 2) 3
    (ez 3 20 1 2 2 7 ++ ez g 51 1 1 1 14 ++ ez 3 40 2 3 3 11 ++ zeros frame_width 4)
    (mz 2 200 0 21 ++ mz 1 400 1 11 ++ zeros header_width 3)

as_meant : of_frame 3 ≡ lands 7 5 3
as_meant = refl

pub generation-raised : MovedTo (dirty 7 5) study 3 (lands 7 5 4) → ⊥
generation-raised C = let z : ◌≡◌ {A = ℕ} 4 3 = C.generation in omega arith

pub frame-generation : MovedTo (dirty 7 5) study 3 (of_frame 4) → ⊥
unfolding rules
frame-generation C = let z : ◌≡◌ {A = ℕ} 4 3 = C.generations 2 tt in omega arith

-- other pools: another capacity, and room kept for what the target held
pub other-capacity : MovedTo (dirty 7 5) study 3 (lands 8 5 3) → ⊥
other-capacity C = let z : ◌≡◌ {A = ℕ} 8 7 = ap (λ (p : Pool). p.capacity) C.elems in omega arith

pub other_shared_capacity : MovedTo (dirty 7 5) study 3 (lands 7 6 3) → ⊥
other_shared_capacity C = let z : ◌≡◌ {A = ℕ} 6 5 = ap (λ (p : Pool). p.capacity) C.shared in omega arith

abbrev pools : (extent root classed shared_root : ℕ) → State
pools n r c q = at (pool 7 n r 3) (pool 5 c q 2) 3 (lands 7 5 3).elems (lands 7 5 3).shared

pub extent-kept : MovedTo (dirty 7 5) study 3 (pools 6 0 2 0) → ⊥
extent-kept C = let z : ◌≡◌ {A = ℕ} 6 3 = ap (λ (p : Pool). p.extent) C.elems in omega arith

pub root_kept : MovedTo (dirty 7 5) study 3 (pools 3 6 2 0) → ⊥
root_kept C = let z : ◌≡◌ {A = ℕ} 6 0 = ap (λ (p : Pool). p.root) C.elems in omega arith

pub shared_extent_kept : MovedTo (dirty 7 5) study 3 (pools 3 0 5 0) → ⊥
shared_extent_kept C = let z : ◌≡◌ {A = ℕ} 5 2 = ap (λ (p : Pool). p.extent) C.shared in omega arith

pub shared_root_kept : MovedTo (dirty 7 5) study 3 (pools 3 0 2 5) → ⊥
shared_root_kept C = let z : ◌≡◌ {A = ℕ} 5 0 = ap (λ (p : Pool). p.root) C.shared in omega arith

pub target_remembers : MovedTo (dirty 7 5) study 3 (joined_as 1 2 1 7 (lands 7 5 3)) → ⊥
target_remembers C = let z : ◌≡◌ {A = ℕ} 1 0 = ap (λ (m : Memory). m.kept) C.undo in omega arith

-- ---- a source that is not left as it should: an empty one cleared, or with overflow said; another not cleared, or its overflow not said
pub empty-cleared : MovedFrom (empty 2 2 4) false (empty 2 2 5) → ⊥
unfolding rules
empty-cleared C = let z : ◌≡◌ {A = ℕ} 5 4 = ap (λ (st : State). st.head.generation) (C.empty refl).0 in omega arith

pub empty-overflows : MovedFrom (empty 2 2 4) true (empty 2 2 4) → ⊥
unfolding rules
empty-overflows C = true≢false (C.empty refl).1

three_live : ◌≢◌ {A = ℕ} 3 0
three_live z = omega (arith, z)

one_live : ◌≢◌ {A = ℕ} 1 0
one_live z = omega (arith, z)

pub not-cleared : MovedFrom study false study → ⊥
unfolding rules
not-cleared C = let z : ◌≡◌ {A = ℕ} 6 0 = ap (λ (st : State). st.head.elems.extent) (C.cleared three_live).0 in omega arith

pub generation-kept : MovedFrom study false (empty 7 5 5) → ⊥
unfolding rules
generation-kept C = let z : ◌≡◌ {A = ℕ} 5 6 = ap (λ (st : State). st.head.generation) (C.cleared three_live).0 in omega arith

pub overflow_untold : MovedFrom first false (empty 3 2 1) → ⊥
unfolding rules
overflow_untold C = false≢true (C.cleared one_live).1

-- an empty source of short tables, and one whose head remembers
pub source_misshapen : MovedFrom (at (pool 2 0 0 0) (pool 2 0 0 0) 4 [] []) false (at (pool 2 0 0 0) (pool 2 0 0 0) 4 [] []) → ⊥
unfolding rules
source_misshapen C = false≢true C.ready.shape

pub source_remembers : MovedFrom (joined_as 1 2 1 7 (empty 2 2 4)) false (joined_as 1 2 1 7 (empty 2 2 4)) → ⊥
source_remembers C = let z : ◌≡◌ {A = ℕ} 1 0 = ap (λ (m : Memory). m.kept) C.undo in omega arith

-- ---- an outcome that changes what it may not, or tells what it may not
abbrev refused : (target source : State) → (over : Bool) → TwoOutcome
refused t s over = record { said = record { number = 5; values = []; over = over }; target = t; source = s }

five : ◌≢◌ {A = ℕ} 5 0
five z = omega (arith, z)

pub other-number : Transfers study none 3 (left 2 study none) → ⊥
unfolding rules
other-number C = go C.gives
  where
    go : MoveGives study none 3 2 → ⊥
    go (inl (h, e)) = omega (arith, e)
    go (inr (h, r)) = h refl

pub refused_target_changed : Transfers (dirty 2 2) study 3 (refused (empty 2 2 3) study false) → ⊥
unfolding rules
refused_target_changed C = let z : ◌≡◌ {A = ℕ} 0 99 = ap (λ (st : State). st.head.elems.extent) (C.refused five).0 in omega arith

pub refused_source_changed : Transfers (dirty 2 2) study 3 (refused (dirty 2 2) (empty 7 5 6) false) → ⊥
unfolding rules
refused_source_changed C = let z : ◌≡◌ {A = ℕ} 0 6 = ap (λ (st : State). st.head.elems.extent) (C.refused five).1 in omega arith

pub refused-overflows : Transfers (dirty 2 2) study 3 (refused (dirty 2 2) study true) → ⊥
refused-overflows C = true≢false (C.refused five).2

pub target-stays : Transfers (dirty 7 5) study 3 (took (dirty 7 5) (empty 7 5 6)) → ⊥
target-stays C = let z : ◌≡◌ {A = ℕ} 93 3 = (C.to refl).generation in omega arith

pub source_stays : Transfers (dirty 7 5) study 3 (took (lands 7 5 3) study) → ⊥
unfolding rules
source_stays C = not-cleared (C.from refl)

-- frames added to the target's old ones
pub frames-added : Transfers full study 3 (took (at (pool 7 5 0 5) (pool 5 3 0 3) 3 [] []) (empty 7 5 6)) → ⊥
unfolding rules
frames-added C = let z : ◌≡◌ {A = ℕ} 7 5 = C.fall refl in omega arith

-- ---- each number at its test, and no other
module _ (n : ℕ) where
  pub one_of_source : MoveGives study none 3 n → n ≡ 1
  unfolding rules
  one_of_source (inl (h, e)) = e
  one_of_source (inr (h, r)) = absurd (h refl)

  -- before 2 of the source
  pub one_of_target : MoveGives none trap 0 n → n ≡ 1
  unfolding rules
  one_of_target (inl (h, e)) = e
  one_of_target (inr (h, inl (k, e))) = e
  one_of_target (inr (h, inr (k, r))) = absurd (k refl)

  -- before 13, of either side; which of the two was tested first cannot be seen
  pub two_of_source : MoveGives study trap 0 n → n ≡ 2
  unfolding rules
  two_of_source (inl (h, e)) = absurd (true≢false h)
  two_of_source (inr (h, inl (k, e))) = absurd (true≢false k)
  two_of_source (inr (h, inr (k, inl (u, e)))) = e
  two_of_source (inr (h, inr (k, inr (u, r)))) = absurd (u (λ w. trap_unsound w.0.0))

  pub two_of_target : MoveGives trap study 0 n → n ≡ 2
  unfolding rules
  two_of_target (inl (h, e)) = absurd (true≢false h)
  two_of_target (inr (h, inl (k, e))) = absurd (true≢false k)
  two_of_target (inr (h, inr (k, inl (u, e)))) = e
  two_of_target (inr (h, inr (k, inr (u, r)))) = absurd (u (λ w. trap_unsound w.1.0))

  -- past 2: in order 13, 5, 6; WitnessMove has the soundness of these states
  pub thirteen_first : Whole study × Whole (empty 2 1 1) → MoveGives (empty 2 1 1) study 0 n → n ≡ 13
  unfolding rules
  thirteen_first w (inl (h, e)) = absurd (true≢false h)
  thirteen_first w (inr (h, inl (k, e))) = absurd (true≢false k)
  thirteen_first w (inr (h, inr (k, inl (u, e)))) = absurd (u w)
  thirteen_first w (inr (h, inr (k, inr (u, inl (m, e))))) = e
  thirteen_first w (inr (h, inr (k, inr (u, inr (m, r))))) = absurd (m (inl refl))

  pub thirteen_past : Whole study × Whole (empty 2 1 1) → MoveGives (empty 2 1 1) study 4294967296 n → n ≡ 13
  unfolding rules
  thirteen_past w (inl (h, e)) = absurd (true≢false h)
  thirteen_past w (inr (h, inl (k, e))) = absurd (true≢false k)
  thirteen_past w (inr (h, inr (k, inl (u, e)))) = absurd (u w)
  thirteen_past w (inr (h, inr (k, inr (u, inl (m, e))))) = e
  thirteen_past w (inr (h, inr (k, inr (u, inr (m, r))))) = absurd (m (inr (lit< tt)))

  not_none : (g : ℕ) → 0 < g → g < 4294967296 → (g ≡ 0) ⊎ (last_generation < g) → ⊥
  not_none g l m (inl z) = omega (arith, z)
  not_none g l m (inr k) = omega (arith, k)

  pub then_five : Whole study × Whole (empty 2 1 1) → MoveGives (empty 2 1 1) study 4294967295 n → n ≡ 5
  unfolding rules
  then_five w (inl (h, e)) = absurd (true≢false h)
  then_five w (inr (h, inl (k, e))) = absurd (true≢false k)
  then_five w (inr (h, inr (k, inl (u, e)))) = absurd (u w)
  then_five w (inr (h, inr (k, inr (u, inl (m, e))))) = absurd (not_none 4294967295 (lit< tt) (lit< tt) m)
  then_five w (inr (h, inr (k, inr (u, inr (m, inl (q, e)))))) = e
  then_five w (inr (h, inr (k, inr (u, inr (m, inr (q, r)))))) = absurd (q (lit< tt))

  pub then_six : Whole study × Whole (empty 3 1 1) → MoveGives (empty 3 1 1) study 1 n → n ≡ 6
  unfolding rules
  then_six w (inl (h, e)) = absurd (true≢false h)
  then_six w (inr (h, inl (k, e))) = absurd (true≢false k)
  then_six w (inr (h, inr (k, inl (u, e)))) = absurd (u w)
  then_six w (inr (h, inr (k, inr (u, inl (m, e))))) = absurd (not_none 1 (lit< tt) (lit< tt) m)
  then_six w (inr (h, inr (k, inr (u, inr (m, inl (q, e)))))) = absurd (omega (arith, q))
  then_six w (inr (h, inr (k, inr (u, inr (m, inr (q, inl (p, e))))))) = e
  then_six w (inr (h, inr (k, inr (u, inr (m, inr (q, inr (p, r))))))) = absurd (p (lit< tt))

  pub then_accepted : Whole study × Whole (empty 3 2 1) → MoveGives (empty 3 2 1) study 1 n → n ≡ 0
  unfolding rules
  then_accepted w (inl (h, e)) = absurd (true≢false h)
  then_accepted w (inr (h, inl (k, e))) = absurd (true≢false k)
  then_accepted w (inr (h, inr (k, inl (u, e)))) = absurd (u w)
  then_accepted w (inr (h, inr (k, inr (u, inl (m, e))))) = absurd (not_none 1 (lit< tt) (lit< tt) m)
  then_accepted w (inr (h, inr (k, inr (u, inr (m, inl (q, e)))))) = absurd (omega (arith, q))
  then_accepted w (inr (h, inr (k, inr (u, inr (m, inr (q, inl (p, e))))))) = absurd (omega (arith, p))
  then_accepted w (inr (h, inr (k, inr (u, inr (m, inr (q, inr (p, e))))))) = e
