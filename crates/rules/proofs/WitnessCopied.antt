-- The worked source of a copy is sound, being what calls lead to from empty tables; so the worked copy is one at the host's door.
use mathlib.Core.Path.{◌≡◌, refl}
use mathlib.Core.Logic.{inl, inr}
use mathlib.Core.Bool.{true≢false}
use mathlib.Core.List.{List, [], ◌∷◌}
use Prim.Native.Nat.{ℕ}
use Rattle.rules.specs.Tables.{State}
use Rattle.rules.specs.Slots.{empty}
use Rattle.rules.specs.Calls.{Call, new_run, insert, remove, seal, Ready, step}
use Rattle.rules.specs.Undo.{Remembers}
use Rattle.rules.specs.Keeping.{effect}
use Rattle.rules.specs.Copy.{AtCopy}
use Rattle.rules.specs.Copying.{CopyGives}
use Rattle.rules.proofs.Cases.{rules, key}
use Rattle.rules.proofs.Forged.{forged, value_unwhole}
use Rattle.rules.proofs.CasesCopied.{copying, study, dirty, into, took, left}
use Rattle.rules.proofs.Laws.Kept.{recalled, kept, kept_fresh}
use Rattle.rules.proofs.Laws.Dropped.{kept_memory}
use Rattle.rules.proofs.Laws.TwoDoors.{both_pass}

abbrev run : State → List Call → State
run st [] = st
run st (c ∷ cs) = run (step st (0 ∷ 0 ∷ 0 ∷ []) c).state cs

run-ready : (st : State) → Ready st → Remembers st → (cs : List Call) → Ready (run st cs)
run-ready st R M [] = R
run-ready st R M (c ∷ cs) = let lent : List ℕ = 0 ∷ 0 ∷ 0 ∷ [] in run-ready (step st lent c).state (kept st R lent c (recalled (effect c) st M)) (kept_memory st R M lent c) cs

abbrev calls : List Call
calls =
    new_run 10 100 5 ∷ new_run 20 200 7 ∷ new_run 30 300 8 ∷ new_run 40 400 11 ∷ insert (key 2 1) 50 13 ∷ new_run 60 600 17 ∷ seal (key 4 1) ∷
    remove (key 1 1) ∷ remove (key 3 1) ∷ remove (key 5 1) ∷ insert (key 2 1) 51 14 ∷ remove (key 6 1) ∷ []

pub study_ready : Ready study
unfolding rules
study_ready = run-ready (empty 7 5 1) (kept_fresh (dirty 7 5) 7 5 refl) (inl refl) calls

pub accepted : AtCopy (dirty 5 4) study (took (into 5 4) study)
unfolding rules copying
accepted = both_pass (dirty 5 4) study _ _ _ refl refl (study_ready.sound, inl refl) refl

pub refused : AtCopy (dirty 4 3) study (left 5 (dirty 4 3) study)
unfolding rules copying
refused = both_pass (dirty 4 3) study _ _ _ refl refl (study_ready.sound, inl refl) refl

-- Ticket 7: a memory that no union leaves makes the source unsound, and only 2 is given
pub two_of_memory : (n : ℕ) → CopyGives (dirty 1 1) (forged 0 0 0 7) n → n ≡ 2
unfolding rules
two_of_memory n (inl (h, e)) = absurd (true≢false h)
two_of_memory n (inr (h, inl (k, e))) = absurd (true≢false k)
two_of_memory n (inr (h, inr (k, inl (u, e)))) = e
two_of_memory n (inr (h, inr (k, inr (u, r)))) = absurd (u value_unwhole)
