-- Refusals, below the table: a refused call leaves head, tables and what was lent as they were. One theorem for every call.
use mathlib.Core.Path.{◌≡◌, refl, sym, ap, ◌∙◌, subst}
use mathlib.Core.Logic.{◌≢◌}
use mathlib.Core.Bool.{false}
use mathlib.Core.List.{List, []}
use Prim.Native.Nat.{ℕ}
use Rattle.rules.specs.declared.Refusal.{Refusal}
use Rattle.rules.specs.declared.Refusal.TheVariants.{Shape, Unsound, Dead, SameClass, NoElement, NoShared, Short, Malformed, NoFile, Version, Nothing, Sealed, OutOfRange}
use Rattle.rules.specs.Tables.{State}
use Rattle.rules.specs.Refusals.{Ruling, refuse, accept, number_of, values_of, Outcome, outcome, door}
use Rattle.rules.specs.Slots
use Rattle.rules.specs.Calls.{Call, ruling, fresh_step, AtDoor}
use Rattle.rules.specs.ReadFile.{read_file, old_reader, read_step}

-- nothing is changed, and nothing is said but the number, and for 3 its cause
pub record Unchanged (st : State) (buffer : List ℕ) (o : Outcome) : Type 0 where
  pub state : o.state ≡ st
  pub lent : o.lent ≡ buffer
  pub values : o.said.number ≢ 3 → o.said.values ≡ []
  pub over : o.said.over ≡ false

-- Ticket 5: only 3 has a value, its cause
plain : (r : Refusal) → number_of r ≢ 3 → values_of r [] ≡ []
plain Shape n = refl
plain Unsound n = refl
plain (Dead cause) n = absurd (n refl)
plain SameClass n = refl
plain NoElement n = refl
plain NoShared n = refl
plain Short n = refl
plain Malformed n = refl
plain NoFile n = refl
plain Version n = refl
plain Nothing n = refl
plain Sealed n = refl
plain OutOfRange n = refl

refused : (st : State) (lent : List ℕ) (r : Ruling) → (outcome st lent r).said.number ≢ 0 → Unchanged st lent (outcome st lent r)
refused st lent (refuse r) n = record { state = refl; lent = refl; values = plain r; over = refl }
refused st lent (accept values over after places) n = absurd (n refl)

-- every call, with any arguments, at the host's door
pub refused_changes_nothing : (st : State) (lent : List ℕ) (c : Call) (o : Outcome) → AtDoor st lent c o → o.said.number ≢ 0 → Unchanged st lent o
refused_changes_nothing st lent c o d n =
    subst (λ (q : Outcome). Unchanged st lent q) (sym d.same) (refused st lent (door st d.sound (ruling st lent c)) (λ e. n (ap (λ (q : Outcome). q.said.number) d.same ∙ e)))

-- and fresh and the reader
pub refused-fresh : (st : State) (elems shared : ℕ) → (fresh_step st elems shared).said.number ≢ 0 → Unchanged st [] (fresh_step st elems shared)
refused-fresh st elems shared n = refused st [] (Slots.fresh st elems shared) n

pub refused-read : (st : State) (file : List ℕ) → (read_step st file).said.number ≢ 0 → Unchanged st [] (read_step st file)
refused-read st file n = refused st [] (read_file old_reader st file) n
