-- Bytes written into a lent buffer: which, and that the others are as they were.
use Rattle.std.specs.Prelude.{ℕ, ◌+◌, ◌≡◌, List, length}
use Rattle.std.proofs.lemmas.List.Edits.{sets}

-- `bytes` stand at `at`, and `next` is the place after them
pub record Put (before : List ℕ) (at : ℕ) (bytes after : List ℕ) (next : ℕ) : Type 0 where
  pub written : after ≡ sets before at bytes
  pub past : next ≡ at + length bytes
