-- What the functions over whole runs answer.
use Rattle.std.specs.Prelude.{ℕ, ◌*◌, ◌≡◌, List}
use Rattle.std.proofs.lemmas.List.Edits.{sets}
use Rattle.rules.specs.declared.Head.{Head}
use Rattle.rules.specs.Tables.{State, state_of, row}
use Rattle.rules.specs.Runs.{removed}
use Rattle.rules.specs.Drains.{record_width, drain_record, drain_records, drained}

-- the frame in `x` is taken out, and its record stands at a place
pub record Gone (st : State) (x : ℕ) (out : List ℕ) (place : ℕ) (next : Head) (e s out' : List ℕ) : Type 0 where
  pub state : state_of next e s ≡ removed st x
  pub lent : out' ≡ row record_width out place (drain_record st x)

-- so are `n` frames along next from `x`, their records past the first `written` places
pub record Drained (st : State) (n x : ℕ) (out : List ℕ) (written : ℕ) (next : Head) (e s out' : List ℕ) : Type 0 where
  pub state : state_of next e s ≡ drained n st x
  pub lent : out' ≡ sets out (written * record_width) (drain_records n st x)
