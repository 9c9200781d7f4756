-- Ticket 7: memories that no union leaves are refused 2 at the door, and those that a union could have left are not.
use Prim.Native.Nat.{ℕ}
use native.Mathlib.Omega.{arith}
use mathlib.Core.Path.{◌≡◌, refl, ap}
use mathlib.Core.Logic.{inl, inr}
use mathlib.Core.List.{[]}
use lib.Dec.{lit≤}
use lib.ListN.{replicate}
use Rattle.rules.specs.declared.Memory.{Memory}
use Rattle.rules.specs.Tables.{blank, State}
use Rattle.rules.specs.Undo.{Remembers, Whole}
use Rattle.rules.specs.Calls.{check, union, seal, Ready, AtDoor, step}
use Rattle.rules.proofs.Cases.{rules, key, ok, refused, joined_as, e}
use Rattle.rules.proofs.Worked.{two, four, joined}
use Rattle.rules.proofs.Witness.{ready_two, ready_four}
use Rattle.rules.proofs.Laws.Doors.{unsound, passed}
use Rattle.rules.proofs.Laws.Kept.{kept}
use Rattle.rules.proofs.Laws.Remembering.{ready-undo}
use Rattle.rules.proofs.Laws.Traced.{Traced}
use Rattle.rules.proofs.Laws.Described.{described}
use Rattle.rules.proofs.Laws.Dropped.{kept_memory}

-- P4's state with another memory
abbrev pub forged : (kept gone moved value : ℕ) → State
forged x y n v = joined_as x y n v joined

ready-joined : Ready joined
unfolding rules
ready-joined = kept four ready_four [] (union (key 4 1) (key 1 1)) tt

pub remembers_joined : Remembers joined
unfolding rules
remembers_joined = kept_memory four ready_four (inl refl) [] (union (key 4 1) (key 1 1))

ready_forged : (x y n v : ℕ) → Ready (forged x y n v)
ready_forged x y n v = ready-undo joined (record { kept = x; gone = y; moved = n; value = v }) ready-joined

not-remembered : (st : State) → Ready st → (Traced st → ⊥) → (st.head.undo ≡ blank → ⊥) → Remembers st → ⊥
not-remembered st R t b (inl e) = b e
not-remembered st R t b (inr d) = t ((described st R).0 d)

at_2 : (st : State) → Ready st → (Traced st → ⊥) → (st.head.undo ≡ blank → ⊥) → AtDoor st [] check (refused 2 st [])
at_2 st R t b = unsound st [] check R.shape (λ w. not-remembered st R t b w.1)

-- no slot kept; one past the extent; none moved; more than half; the walk ends elsewhere
pub no_kept : AtDoor (forged 0 4 1 200) [] check (refused 2 (forged 0 4 1 200) [])
unfolding rules
no_kept = at_2 (forged 0 4 1 200) (ready_forged 0 4 1 200) (λ t. t.kept) (λ e. omega (arith, ap (λ (m : Memory). m.gone) e))

pub past-kept : AtDoor (forged 5 4 1 200) [] check (refused 2 (forged 5 4 1 200) [])
unfolding rules
past-kept = at_2 (forged 5 4 1 200) (ready_forged 5 4 1 200) (λ t. t.kept) (λ e. omega (arith, ap (λ (m : Memory). m.gone) e))

pub none-moved : AtDoor (forged 1 1 0 200) [] check (refused 2 (forged 1 1 0 200) [])
none-moved = at_2 (forged 1 1 0 200) (ready_forged 1 1 0 200) (λ t. omega (arith, t.some)) (λ e. omega (arith, ap (λ (m : Memory). m.gone) e))

pub too_many : AtDoor (forged 1 2 3 200) [] check (refused 2 (forged 1 2 3 200) [])
unfolding rules
too_many = at_2 (forged 1 2 3 200) (ready_forged 1 2 3 200) (λ t. omega (arith, t.half)) (λ e. omega (arith, ap (λ (m : Memory). m.gone) e))

pub elsewhere : AtDoor (forged 1 3 1 200) [] check (refused 2 (forged 1 3 1 200) [])
unfolding rules
elsewhere = at_2 (forged 1 3 1 200) (ready_forged 1 3 1 200) (λ t. let z : ◌≡◌ {A = ℕ} 4 3 = t.leads in omega arith) (λ e. omega (arith, ap (λ (m : Memory). m.gone) e))

-- a value alone, where there is nothing
pub value_unwhole : Whole (forged 0 0 0 7) → ⊥
unfolding rules
value_unwhole w = not-remembered (forged 0 0 0 7) (ready_forged 0 0 0 7) (λ t. t.kept) (λ e. omega (arith, ap (λ (m : Memory). m.value) e)) w.1

pub value_alone : AtDoor (forged 0 0 0 7) [] check (refused 2 (forged 0 0 0 7) [])
unfolding rules
value_alone = at_2 (forged 0 0 0 7) (ready_forged 0 0 0 7) (λ t. t.kept) (λ e. omega (arith, ap (λ (m : Memory). m.value) e))

-- no shared slot is free to be taken back
abbrev rootless : State
rootless = joined_as 1 2 1 200 two

pub no_root : AtDoor rootless [] check (refused 2 rootless [])
unfolding rules
no_root = at_2 rootless (ready-undo two (record { kept = 1; gone = 2; moved = 1; value = 200 }) ready_two) (λ t. t.root refl) (λ e. omega (arith, ap (λ (m : Memory). m.gone) e))

-- the kept run is sealed: its union would have been refused 12
abbrev sealed_run : State
sealed_run = (step joined (replicate 12 0) (seal (key 1 1))).state

pub no_sealed : AtDoor (joined_as 1 4 1 200 sealed_run) [] check (refused 2 (joined_as 1 4 1 200 sealed_run) [])
unfolding rules
no_sealed = at_2 (joined_as 1 4 1 200 sealed_run) (ready-undo sealed_run (record { kept = 1; gone = 4; moved = 1; value = 200 }) (kept joined ready-joined (replicate 12 0) (seal (key 1 1)) tt)) (λ t. omega (arith, t.unsealed)) (λ e. omega (arith, ap (λ (m : Memory). m.gone) e))

-- another value of the run that went, and another cut of the ring, are described: they are unions too
traced_forged : (v : ℕ) → Traced (forged 1 4 1 v) × Traced (forged 3 1 2 v)
unfolding rules
traced_forged v = (
  record { kept = tt; some = lit≤ tt; half = lit≤ tt; leads = refl; root = λ z. omega (arith, z); unsealed = refl },
  record { kept = tt; some = lit≤ tt; half = lit≤ tt; leads = refl; root = λ z. omega (arith, z); unsealed = refl },
)

pub other-value : AtDoor (forged 1 4 1 7) [] check (ok [] (forged 1 4 1 7) [])
unfolding rules
other-value = passed (forged 1 4 1 7) [] check _ (ready_forged 1 4 1 7, inr ((described (forged 1 4 1 7) (ready_forged 1 4 1 7)).1 (traced_forged 7).0)) refl

pub other_cut : AtDoor (forged 3 1 2 200) [] check (ok [] (forged 3 1 2 200) [])
unfolding rules
other_cut = passed (forged 3 1 2 200) [] check _ (ready_forged 3 1 2 200, inr ((described (forged 3 1 2 200) (ready_forged 3 1 2 200)).1 (traced_forged 200).1)) refl

-- and no memory is
pub no_memory : AtDoor (forged 0 0 0 0) [] check (ok [] (forged 0 0 0 0) [])
unfolding rules
no_memory = passed (forged 0 0 0 0) [] check _ (ready_forged 0 0 0 0, inl refl) refl
