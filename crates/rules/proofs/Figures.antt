-- Ticket 9 at worked numbers: the figure, the call's answers, and some sequences' rewrites beside it.
use Prim.Native.Nat.{ℕ, ◌+◌, ◌*◌}
use mathlib.Core.Path.{◌≡◌, refl, ap}
use mathlib.Core.List.{List, [], ◌∷◌, map}
use native.Mathlib.Omega.{arith}
use lib.Dec.{lit≤, lit<}
use lib.ListN.{length}
use Rattle.rules.specs.declared.Key.{Key}
use Rattle.rules.specs.Tables.{State}
use Rattle.rules.specs.Calls.{Call, new_run, union, len_surject, get_element, get_shared, get_total, lookup, set_element, set_shared, exchange, list, seal, check, remove, undo, step}
use Rattle.rules.specs.History.{with_runs, joining, nothing}
use Rattle.rules.specs.Ceiling.{highest_bit, HighestBit, ceiling, Aside, rewritten, union_ceiling}
use Rattle.rules.proofs.Cases.{rules, key}
use Rattle.rules.proofs.Worked.{fresh43}

-- 1 gives 0, 2 and 3 give 1, 4 gives 2
pub places : map highest_bit (1 ∷ 2 ∷ 3 ∷ 4 ∷ 5 ∷ 7 ∷ 8 ∷ []) ≡ 0 ∷ 1 ∷ 1 ∷ 2 ∷ 2 ∷ 2 ∷ 3 ∷ []
unfolding highest_bit
places = refl

-- as powers of two: of 4 it is 2 and neither 1 nor 3
pub place_of_four : HighestBit 4 2 × (HighestBit 4 1 → ⊥) × (HighestBit 4 3 → ⊥)
place_of_four = (record { reached = lit≤ tt; below = lit< tt }, (λ t. omega (arith, t.below)), λ t. omega (arith, t.reached))

-- the number said, and the values: 0, 65,537 and the largest number are refused
pub answers : map (λ n. (union_ceiling n).number ∷ (union_ceiling n).values) (0 ∷ 1 ∷ 2 ∷ 3 ∷ 4 ∷ 5 ∷ 7 ∷ 8 ∷ 65537 ∷ 18446744073709551615 ∷ [])
    ≡ (13 ∷ []) ∷ (0 ∷ 0 ∷ []) ∷ (0 ∷ 2 ∷ []) ∷ (0 ∷ 3 ∷ []) ∷ (0 ∷ 8 ∷ []) ∷ (0 ∷ 10 ∷ []) ∷ (0 ∷ 14 ∷ []) ∷ (0 ∷ 24 ∷ []) ∷ (13 ∷ []) ∷ (13 ∷ []) ∷ []
unfolding union_ceiling highest_bit
answers = refl

-- all rewrites of some calls together
abbrev pub together : State → List Call → ℕ
together st [] = 0
together st (c ∷ cs) = let o = step st [] c in rewritten o.said + together o.state cs

-- four frames, one after another into one run: 3, where the figure is 8
pub one_by_one : together fresh43 (new_run 10 100 0 ∷ new_run 20 200 0 ∷ union (key 1 1) (key 2 1) ∷ new_run 30 300 0 ∷ union (key 1 1) (key 3 1) ∷ new_run 40 400 0 ∷ union (key 4 1) (key 1 1) ∷ []) ≡ 3
unfolding rules
one_by_one = refl

-- in pairs, with a union that is refused among them: 4, half of the figure; so for four frames it is no more than twice what can happen
pub in_pairs : together fresh43 (new_run 10 100 0 ∷ new_run 20 200 0 ∷ union (key 1 1) (key 2 1) ∷ new_run 30 300 0 ∷ new_run 40 400 0 ∷ union (key 3 1) (key 4 1) ∷ union (key 3 1) (key 4 1) ∷ union (key 1 1) (key 3 1) ∷ []) ≡ 4
unfolding rules
in_pairs = refl

pub twice : 2 * 4 ≡ ceiling 4
unfolding highest_bit
twice = refl

-- reads, sets and seals may stand between such calls
pub reads-aside : (k : Key) → Aside (len_surject k) × Aside (get_element k) × Aside (get_shared k) × Aside (get_total k) × Aside (lookup k) × Aside (list k) × Aside check
reads-aside k = (record { runs = λ h values. refl; taken = λ h values. refl }, record { runs = λ h values. refl; taken = λ h values. refl }, record { runs = λ h values. refl; taken = λ h values. refl }, record { runs = λ h values. refl; taken = λ h values. refl }, record { runs = λ h values. refl; taken = λ h values. refl }, record { runs = λ h values. refl; taken = λ h values. refl }, record { runs = λ h values. refl; taken = λ h values. refl })

pub sets-aside : (k : Key) (n : ℕ) (ks : List Key) (values : List ℕ) → Aside (set_element k n) × Aside (set_shared k n) × Aside (exchange ks values)
sets-aside k n ks values = (record { runs = λ h values. refl; taken = λ h values. refl }, record { runs = λ h values. refl; taken = λ h values. refl }, record { runs = λ h values. refl; taken = λ h values. refl })

pub seal-aside : (k : Key) → Aside (seal k)
seal-aside k = record { runs = λ h values. refl; taken = λ h values. refl }

-- a removal and an undo may not
pub remove-ends : (k : Key) → Aside (remove k) → ⊥
remove-ends k a = omega (arith, a.taken nothing [])

pub undo-ends : Aside undo → ⊥
undo-ends a = omega (arith, ap length (a.runs (joining (with_runs nothing (([]) ∷ [])) []) []))
