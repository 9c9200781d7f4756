-- Insert never says overflow, so its answer over a head lent in place needs no mark.
use Prim.Native.Nat.{ℕ}
use mathlib.Core.Path.{◌≡◌, refl, ap, subst, ◌∙◌}
use mathlib.Core.Bool.{Bool, true, false}
use mathlib.Core.List.{List, []}
use Rattle.std.specs.Prelude.{Result, Ok, Err, if◌then◌else◌}
use Rattle.rules.specs.declared.Cause.{Cause}
use Rattle.rules.specs.declared.Head.{Head}
use Rattle.rules.specs.declared.Key.{Key}
use Rattle.rules.specs.declared.Refusal.{Refusal}
use Rattle.rules.specs.declared.Refusal.TheVariants.{Shape, Unsound, Sealed, NoElement}
use Rattle.rules.specs.declared.Step.{Step}
use Rattle.rules.specs.Tables.{State, found, is_sealed}
use Rattle.rules.specs.Refusals.{Ruling, Outcome, refuse, answer, outcome, when_live, shaped, door, said_accepted}
use Rattle.rules.specs.Slots.{is_full}
use Rattle.rules.specs.Runs.{key_values, insert}
use Rattle.rules.specs.Calls as calls
use Rattle.rules.specs.Calls.{Call, step, AtDoor}
use Rattle.rules.specs.Answers.{leaves, said, after}

module _ (st : State) (k : Key) (payload size : ℕ) where
  chosen : (sealed full : Bool) (values : List ℕ) (next : State) → (outcome st [] (if sealed then refuse Sealed else if full then refuse NoElement else answer values next)).said.over ≡ false
  chosen true full values next = refl
  chosen false true values next = refl
  chosen false false values next = refl

  by_lookup : (r : Result ℕ Cause) (values : List ℕ) (next : ℕ → State)
      → (outcome st [] (when_live r (λ x. if is_sealed st x then refuse Sealed else if is_full st.head.elems then refuse NoElement else answer values (next x)))).said.over ≡ false
  by_lookup (Ok x) values next = chosen (is_sealed st x) (is_full st.head.elems) values (next x)
  by_lookup (Err cause) values next = refl

  quiet : (step st [] (calls.insert k payload size)).said.over ≡ false
  unfolding insert
  quiet = by_lookup (found st k) _ _

  quiet_at : (ruling : Ruling) → (outcome st [] ruling).said.over ≡ false → (sound : Bool) → (outcome st [] (door st sound ruling)).said.over ≡ false
  unfolding door
  quiet_at ruling q sound = go (shaped st) sound
    where
      go : (s b : Bool) → (outcome st [] (if s then (if b then ruling else refuse Unsound) else refuse Shape)).said.over ≡ false
      go false b = refl
      go true false = refl
      go true true = q

  -- the step's outcome is that of its answer alone
  pub unmarked : (s : Step Key) (e h : List ℕ) → leaves s.head e h [] (said_accepted (key_values s.answer) s.over) ≡ step st [] (calls.insert k payload size)
      → leaves s.head e h [] (said_accepted (key_values s.answer) false) ≡ step st [] (calls.insert k payload size)
  unmarked s e h p = subst (λ (b : Bool). leaves s.head e h [] (said_accepted (key_values s.answer) b) ≡ step st [] (calls.insert k payload size)) (ap (λ (o : Outcome). o.said.over) p ∙ quiet) p

  pub unmarked_at : (s : Step Key) (e h : List ℕ) → AtDoor st [] (calls.insert k payload size) (leaves s.head e h [] (said_accepted (key_values s.answer) s.over))
      → AtDoor st [] (calls.insert k payload size) (leaves s.head e h [] (said_accepted (key_values s.answer) false))
  unmarked_at s e h d = subst (λ (b : Bool). AtDoor st [] (calls.insert k payload size) (leaves s.head e h [] (said_accepted (key_values s.answer) b))) (ap (λ (o : Outcome). o.said.over) d.same ∙ quiet_at _ quiet d.sound) d
