-- What the functions over whole runs ask.
use Rattle.std.specs.Prelude.{ℕ, ◌+◌, ◌*◌, ◌≤◌, ◌<◌, ◌≡◌, List, length}
use Rattle.rules.specs.Tables.{State, size_at}
use Rattle.rules.specs.Drains.{record_width}
use Rattle.rules.specs.Calls.{Ready}
use Rattle.rules.proofs.Laws.Safe.{LiveSlot}

-- a run of `n` frames that begins at `x`, where there are any
pub record Run (st : State) (n x : ℕ) : Type 0 where
  pub ready : Ready st
  pub live : 0 < n → LiveSlot st x
  pub size : 0 < n → size_at st x ≡ n

-- and room for its records past the first `written` places
pub record Drains (st : State) (n x : ℕ) (out : List ℕ) (written : ℕ) : Type 0 where
  pub run : Run st n x
  pub room : (written + n) * record_width ≤ length out
