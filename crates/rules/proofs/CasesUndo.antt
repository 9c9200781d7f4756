-- Ticket 7 at worked cases: unions taken back, and the call that drops or keeps what the head remembers.
use Prim.Native.Nat.{ℕ}
use native.Mathlib.Omega.{arith}
use mathlib.Core.Path.{◌≡◌, refl, ap}
use mathlib.Core.Bool.{true}
use mathlib.Core.List.{List, [], ◌∷◌, ◌++◌, map}
use lib.ListN.{replicate}
use Rattle.rules.specs.declared.Memory.{Memory}
use Rattle.rules.specs.Tables.{frame_width, blank, State, with_pools, with_generation, with_undo}
use Rattle.rules.specs.Undo.{taken_back, union_again, Describes}
use Rattle.rules.specs.Calls.{Call, len_surject, in_same_surject, get_element, get_shared, get_size, get_total, lookup, set_element, set_shared, check, new_run, insert, union, remove, remove_shared, list, drain, seal, drain_all, clear, undo, exchange, compress, compress_with, step, fresh_step}
use Rattle.rules.specs.Keeping.{effect, Then}
use Rattle.rules.proofs.Cases.{rules, Case, ◌gives◌, did, says, key, ok, refused, pool, at, joined_as, e, s, zeros}
use Rattle.rules.proofs.Worked.{joined}

-- three runs of one, with a shared slot on the free chain behind the last
abbrev pub trio : State
trio =
    at (pool 5 3 0 3) (pool 5 5 4 3) 1
    (e 1 10 1 1 1 ++ e 1 20 2 2 2 ++ e 1 30 3 3 3 ++ zeros frame_width 2)
    (s 1 100 0 ++ s 1 200 0 ++ s 1 300 0 ++ s 0 0 5 ++ s 0 0 0)

-- the first two joined, from either side; and then the third
abbrev pub first_kept : State
first_kept =
    joined_as 1 2 1 200 (at (pool 5 3 0 3) (pool 5 5 2 2) 1
    (e 1 10 1 2 2 ++ e 1 20 1 1 1 ++ e 1 30 3 3 3 ++ zeros frame_width 2)
    (s 2 100 0 ++ s 0 0 4 ++ s 1 300 0 ++ s 0 0 5 ++ s 0 0 0))

abbrev second_kept : State
second_kept =
    joined_as 2 1 1 100 (at (pool 5 3 0 3) (pool 5 5 1 2) 1
    (e 1 10 2 2 2 ++ e 1 20 2 1 1 ++ e 1 30 3 3 3 ++ zeros frame_width 2)
    (s 0 0 4 ++ s 2 200 0 ++ s 1 300 0 ++ s 0 0 5 ++ s 0 0 0))

abbrev all_joined : State
all_joined =
    joined_as 2 3 1 300 (at (pool 5 3 0 3) (pool 5 5 3 1) 1
    (e 1 10 1 3 2 ++ e 1 20 1 1 3 ++ e 1 30 1 2 1 ++ zeros frame_width 2)
    (s 3 100 0 ++ s 0 0 4 ++ s 0 0 2 ++ s 0 0 5 ++ s 0 0 0))

-- the first two joined, with nothing to undo
abbrev settled : State
settled = with_undo first_kept blank

abbrev table : List Case
table =
    -- runs of one: the first is kept; the roles changed; the free chain of shared slots is restored
    step trio [] (union (key 1 1) (key 2 1)) gives ok (200 ∷ 1 ∷ 1 ∷ 1 ∷ []) first_kept [] ∷
    step first_kept [] undo gives ok [] trio [] ∷
    step trio [] (union (key 2 1) (key 1 1)) gives ok (100 ∷ 2 ∷ 1 ∷ 1 ∷ []) second_kept [] ∷
    step second_kept [] undo gives ok [] trio [] ∷
    -- of two unions only the last; the smaller run's key first
    step first_kept [] (union (key 3 1) (key 2 1)) gives ok (300 ∷ 2 ∷ 1 ∷ 1 ∷ []) all_joined [] ∷
    step all_joined [] undo gives ok [] settled [] ∷
    -- twice
    step trio [] undo gives refused 10 trio [] ∷
    step settled [] undo gives refused 10 settled [] ∷
    -- a lent buffer is not touched
    step first_kept (7 ∷ 8 ∷ []) undo gives ok [] trio (7 ∷ 8 ∷ []) ∷
    step trio (7 ∷ 8 ∷ []) undo gives refused 10 trio (7 ∷ 8 ∷ []) ∷
    []

pub undone : map did table ≡ map says table
unfolding rules
undone = refl

-- ---- what each call leaves of the memory of first_kept: the number it gives, and the memory then
abbrev leaves : Call → ℕ × Memory
leaves c = let o = step first_kept (replicate 30 0) c in (o.said.number, o.state.head.undo)

abbrev kept-all : Memory
kept-all = record { kept = 1; gone = 2; moved = 1; value = 200 }

-- reads, the list, lookup and the check
pub keeps : map leaves (len_surject (key 1 1) ∷ in_same_surject (key 1 1) (key 3 1) ∷ get_element (key 1 1) ∷ get_shared (key 1 1) ∷ get_size (key 1 1) ∷ get_total (key 1 1) ∷ lookup (key 1 1) ∷ list (key 1 1) ∷ check ∷ [])
    ≡ replicate 9 (0, kept-all)
unfolding rules
keeps = refl

-- every other one drops it, also one that leaves equal values
pub drops : map leaves (set_element (key 1 1) 10 ∷ set_element (key 1 1) 9 ∷ set_shared (key 1 1) 100 ∷ set_shared (key 3 1) 9 ∷ exchange (key 1 1 ∷ key 3 1 ∷ []) (100 ∷ 300 ∷ []) ∷ new_run 9 9 9 ∷ insert (key 1 1) 9 9 ∷ remove (key 3 1) ∷ remove_shared (key 3 1) ∷ drain (key 3 1) ∷ seal (key 3 1) ∷ drain_all ∷ clear ∷ undo ∷ compress true ∷ compress_with true ∷ [])
    ≡ replicate 16 (0, blank)
unfolding rules
drops = refl

-- union remembers itself
pub joins-again : leaves (union (key 3 1) (key 2 1)) ≡ (0, record { kept = 2; gone = 3; moved = 1; value = 300 })
unfolding rules
joins-again = refl

-- fresh drops it
pub fresh_drops : (fresh_step first_kept 5 5).state.head.undo ≡ blank
unfolding rules
fresh_drops = refl

-- a refused call of each kind keeps it, and it can then be taken back
pub refused_keeps : map leaves (set_element (key 9 1) 9 ∷ set_shared (key 9 1) 9 ∷ exchange (key 1 1 ∷ key 2 1 ∷ []) (1 ∷ 2 ∷ []) ∷ insert (key 9 1) 9 9 ∷ remove (key 9 1) ∷ remove_shared (key 9 1) ∷ drain (key 9 1) ∷ seal (key 9 1) ∷ union (key 1 1) (key 2 1) ∷ [])
    ≡ (3, kept-all) ∷ (3, kept-all) ∷ (4, kept-all) ∷ (3, kept-all) ∷ (3, kept-all) ∷ (3, kept-all) ∷ (3, kept-all) ∷ (3, kept-all) ∷ (4, kept-all) ∷ []
unfolding rules
refused_keeps = refl

pub refused_short_keeps : map (λ c. (step first_kept [] c).state.head.undo) (list (key 1 1) ∷ drain (key 1 1) ∷ seal (key 1 1) ∷ drain_all ∷ compress true ∷ compress_with true ∷ []) ≡ replicate 6 kept-all
unfolding rules
refused_short_keeps = refl

pub refused_between : step (step first_kept [] (union (key 1 1) (key 2 1))).state [] undo ≡ ok [] trio []
unfolding rules
refused_between = refl

-- the union of P4, taken back and made again, gives the present state; where the kept run is sealed it is refused, and does not
pub described_again : union_again (taken_back joined) 1 4 ≡ joined
unfolding rules
described_again = refl

pub not-again : Describes (joined_as 1 4 1 200 (step joined (replicate 12 0) (seal (key 1 1))).state) → ⊥
unfolding rules
not-again D = let z : ◌≡◌ {A = ℕ} 0 1 = ap (λ (st : State). st.head.undo.kept) D.again in omega arith

-- what a call of each kind may make of it: a read that drops it, a set that keeps it, are not as the ticket says
pub read_dropped : Then (effect (list (key 1 1))) first_kept (with_undo first_kept blank) → ⊥
unfolding rules
read_dropped z = omega (arith, ap (λ (st : State). st.head.undo.kept) z)

pub set-kept : Then (effect (set_element (key 1 1) 10)) first_kept first_kept → ⊥
unfolding rules
set-kept z = omega (arith, ap (λ (m : Memory). m.kept) z)

-- nothing to undo is four zeros; a head with other pools or another generation has nothing
pub nothing_is_zeros : blank ≡ record { kept = 0; gone = 0; moved = 0; value = 0 }
nothing_is_zeros = refl

pub made_anew : (with_pools first_kept.head (pool 1 0 0 0) (pool 1 0 0 0)).undo ∷ (with_generation first_kept.head 2).undo ∷ [] ≡ blank ∷ blank ∷ []
made_anew = refl
