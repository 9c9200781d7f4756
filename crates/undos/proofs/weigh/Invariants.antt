use Rattle.std.proofs.Common.{◌≡◌}
use Rattle.rules.specs.Notation.{steps}
use Rattle.rules.specs.Tables.{next_of}
use Rattle.rules.specs.Sound.{bytes_along}
use Rattle.undos.proofs.weigh.Given as goal

abbrev pub invariant-loop : goal.invariant-loop
invariant-loop l = (l.at ≡ steps (next_of l.e) l.counter l.x) × (l.bytes ≡ bytes_along l.e l.counter l.x)
