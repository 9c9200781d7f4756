-- What the writer was handed.
use Rattle.std.specs.Prelude.{◌≡◌, ℕ, ◌%◌, ◌^◌, List, length}
use Rattle.stdio.specs.declared.Sent.{Sent}

-- What went to the writer is as long as `gone` (modulo 2 ^ 64, the counter's width). Only `send` counts, where it writes, and its bytes come at the end of `gone`.
pub record Handed (sent : Sent) (gone : List ℕ) : Type 0 where
  pub count : sent.count ≡ length gone % 2 ^ 64
