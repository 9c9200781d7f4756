-- The worked source and targets of a move are sound, so these moves are such at the host's door, each refusal past 1 included; and what that door gives there is no other number.
use mathlib.Core.Path.{◌≡◌, refl}
use mathlib.Core.Logic.{inl, inr}
use mathlib.Core.Bool.{true≢false}
use Prim.Native.Nat.{ℕ}
use Rattle.rules.specs.Slots.{empty}
use Rattle.rules.specs.Undo.{Whole}
use Rattle.rules.specs.Move.{AtMove}
use Rattle.rules.specs.Moving.{MoveGives}
use Rattle.rules.proofs.Cases.{rules}
use Rattle.rules.proofs.Sounds.{trap, trap_unsound}
use Rattle.rules.proofs.Forged.{forged, value_unwhole}
use Rattle.rules.proofs.CasesCopied.{copying, study, dirty, took, left}
use Rattle.rules.proofs.CasesTransferred.{moves, lands}
use Rattle.rules.proofs.RefutedMove.{thirteen_first, thirteen_past, then_five, then_six, then_accepted}
use Rattle.rules.proofs.WitnessCopied.{study_ready}
use Rattle.rules.proofs.Laws.Kept.{kept_fresh}
use Rattle.rules.proofs.Laws.TwoDoors.{both_pass, not_sound}

study_whole : Whole study
study_whole = (study_ready.sound, inl refl)

small : Whole (empty 2 1 1)
unfolding rules
small = ((kept_fresh (dirty 2 1) 2 1 refl).sound, inl refl)

narrow : Whole (empty 3 1 1)
unfolding rules
narrow = ((kept_fresh (dirty 3 1) 3 1 refl).sound, inl refl)

exact : Whole (empty 3 2 1)
unfolding rules
exact = ((kept_fresh (dirty 3 2) 3 2 refl).sound, inl refl)

-- accepted, with exact room; and to tables that hold a study
pub accepted : AtMove (empty 3 2 1) study 3 (took (lands 3 2 3) (empty 7 5 6))
unfolding rules copying moves
accepted = both_pass (empty 3 2 1) study _ _ _ refl refl (study_whole, exact) refl

pub over_a_study : AtMove study study 3 (took (lands 7 5 3) (empty 7 5 6))
unfolding rules copying moves
over_a_study = both_pass study study _ _ _ refl refl (study_whole, study_whole) refl

-- 2 of the source and of the target, 13, 5, 6
pub source_unsound : AtMove study trap 0 (left 2 study trap)
unfolding rules copying moves
source_unsound = not_sound study trap _ _ refl refl (λ w. trap_unsound w.0.0)

pub target_unsound : AtMove trap study 0 (left 2 trap study)
unfolding rules copying moves
target_unsound = not_sound trap study _ _ refl refl (λ w. trap_unsound w.1.0)

pub refused_13 : AtMove (empty 2 1 1) study 0 (left 13 (empty 2 1 1) study)
unfolding rules copying moves
refused_13 = both_pass (empty 2 1 1) study _ _ _ refl refl (study_whole, small) refl

pub refused_5 : AtMove (empty 2 1 1) study 3 (left 5 (empty 2 1 1) study)
unfolding rules copying moves
refused_5 = both_pass (empty 2 1 1) study _ _ _ refl refl (study_whole, small) refl

pub refused_6 : AtMove (empty 3 1 1) study 3 (left 6 (empty 3 1 1) study)
unfolding rules copying moves
refused_6 = both_pass (empty 3 1 1) study _ _ _ refl refl (study_whole, narrow) refl

-- Ticket 7: a memory that no union leaves makes either side unsound, and only 2 is given
module _ (n : ℕ) where
  pub two_of_memory : MoveGives study (forged 0 0 0 7) 0 n → n ≡ 2
  unfolding rules
  two_of_memory (inl (h, e)) = absurd (true≢false h)
  two_of_memory (inr (h, inl (k, e))) = absurd (true≢false k)
  two_of_memory (inr (h, inr (k, inl (u, e)))) = e
  two_of_memory (inr (h, inr (k, inr (u, r)))) = absurd (u (λ w. value_unwhole w.0))

  pub two_of_target_memory : MoveGives (forged 0 0 0 7) study 0 n → n ≡ 2
  unfolding rules
  two_of_target_memory (inl (h, e)) = absurd (true≢false h)
  two_of_target_memory (inr (h, inl (k, e))) = absurd (true≢false k)
  two_of_target_memory (inr (h, inr (k, inl (u, e)))) = e
  two_of_target_memory (inr (h, inr (k, inr (u, r)))) = absurd (u (λ w. value_unwhole w.1))

  -- past 2 each number at its test, and no other
  pub gives_13 : MoveGives (empty 2 1 1) study 0 n → n ≡ 13
  gives_13 = thirteen_first n (study_whole, small)

  pub gives_13_past : MoveGives (empty 2 1 1) study 4294967296 n → n ≡ 13
  gives_13_past = thirteen_past n (study_whole, small)

  pub gives_5 : MoveGives (empty 2 1 1) study 4294967295 n → n ≡ 5
  gives_5 = then_five n (study_whole, small)

  pub gives_6 : MoveGives (empty 3 1 1) study 1 n → n ≡ 6
  gives_6 = then_six n (study_whole, narrow)

  pub gives_0 : MoveGives (empty 3 2 1) study 1 n → n ≡ 0
  gives_0 = then_accepted n (study_whole, exact)
