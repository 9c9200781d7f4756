-- What the check of one slot decides.
use Rattle.std.specs.Prelude.{◌≡◌, List, ℕ}
use Rattle.rules.specs.Tables.{payload_of, class_of, previous_of, bytes_of}

-- Sound 6 of a free element slot
pub record FreeOk (e : List ℕ) (x : ℕ) : Type 0 where
  pub payload : payload_of e x ≡ 0
  pub class : class_of e x ≡ 0
  pub previous : previous_of e x ≡ 0
  pub size : bytes_of e x ≡ 0
