-- Tickets 10 and 12: calls on two recorders' tables, a target and a source: what such a call decides, what it says and leaves of both, and the host's door before it.
use Rattle.std.specs.Prelude.{ℕ, ◌≡◌, ◌⊎◌, Bool, true, List, [], Result, Ok, Err, ⊤, if◌then◌else◌}
use Rattle.rules.specs.declared.Head.{Head}
use Rattle.rules.specs.declared.Step.{Step}
use Rattle.rules.specs.declared.Moved.{Moved}
use Rattle.rules.specs.declared.Refusal.{Refusal}
use Rattle.rules.specs.declared.Refusal.TheVariants.{Shape, Unsound}
use Rattle.rules.specs.Tables.{State, state_of}
use Rattle.rules.specs.Refusals.{Said, said_refused, said_accepted, shaped}
use Rattle.rules.specs.Answers.{no_values, said_step, head_after}
use Rattle.rules.specs.Calls.{Is}

-- What the rule of such a call decides: a refusal; or whether it says overflow, and both states then
pub data TwoRuling : Type 0 where
  refuse : Refusal → TwoRuling
  accept : (over : Bool) (target source : State) → TwoRuling

-- What it says, and what it leaves of both
pub record TwoOutcome : Type 0 where
  pub said : Said
  pub target : State
  pub source : State

-- a refusal leaves both as they were
abbrev pub two_outcome : (target source : State) → TwoRuling → TwoOutcome
two_outcome target source (refuse r) = record { said = said_refused r; target = target; source = source }
two_outcome target source (accept over target' source') = record { said = said_accepted [] over; target = target'; source = source' }

-- the result of a call that leaves the source alone, and what then stands in the target's tables
abbrev pub after_target : Head → Result (Step ⊤) Refusal → (elems shared : List ℕ) → (source : State) → TwoOutcome
after_target head r elems shared source = record { said = said_step no_values r; target = state_of (head_after head r) elems shared; source = source }

-- and that of a call that changes both
abbrev pub after_both : (target source : Head) → Result Moved Refusal → (elems shared from_elems from_shared : List ℕ) → TwoOutcome
after_both target source (Ok moved) elems shared from_elems from_shared = record { said = said_accepted [] moved.over; target = state_of moved.head elems shared; source = state_of moved.source from_elems from_shared }
after_both target source (Err r) elems shared from_elems from_shared = record { said = said_refused r; target = state_of target elems shared; source = state_of source from_elems from_shared }

-- Order: 1 for the source, 1 for the target; then 2, told whether all that must be sound is
unfoldable pub two_doors : (target source : State) → (sound : Bool) → TwoRuling → TwoRuling
two_doors target source sound ruling =
    if shaped source then (if shaped target then (if sound then ruling else refuse Unsound) else refuse Shape) else refuse Shape

-- What is promised of the outcome at the host's door, where `Asked` is what must be sound
pub record AtTwoDoors (target source : State) (Asked : Type 0) (ruling : TwoRuling) (o : TwoOutcome) : Type 0 where
  pub sound : Bool
  pub decided : shaped source ≡ true → shaped target ≡ true → Is Asked sound
  pub same : o ≡ two_outcome target source (two_doors target source sound ruling)

-- Refusals, once more and apart from the rules: the sentences of such a call in their order. The first that holds gives its number; where none does, the call is accepted.
infixr 5 give◌when◌else◌
abbrev pub give◌when◌else◌ : (number : ℕ) → (Sentence : Type 0) → (others : ℕ → Type 0) → ℕ → Type 0
(give n when S else others) given = (S × (given ≡ n)) ⊎ ((S → ⊥) × others given)

abbrev pub accepted : ℕ → Type 0
accepted given = given ≡ 0
