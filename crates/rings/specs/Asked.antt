-- What a walk round a ring asks.
use Rattle.std.specs.Prelude.{ℕ, ◌≡◌, List, length}
use Rattle.rules.specs.Tables.{frame_width, next_of}
use Rattle.rules.proofs.Laws.Lists.{All, NoDup, Walk}
use Rattle.slots.specs.Asked.{Within}

-- `n` frames along next from `x` stand in the table, none twice
pub record Apart (e : List ℕ) (n x : ℕ) : Type 0 where
  pub slots : List ℕ
  pub end : ℕ
  pub walk : Walk (next_of e) x end slots
  pub once : NoDup slots
  pub each : All (Within frame_width e) slots
  pub sized : length slots ≡ n
