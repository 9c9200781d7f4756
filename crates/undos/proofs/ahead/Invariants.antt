use Rattle.std.proofs.Common.{◌≡◌}
use Rattle.rules.specs.Notation.{steps}
use Rattle.rules.specs.Tables.{next_of}
use Rattle.undos.proofs.ahead.Given as goal

abbrev pub invariant-loop : goal.invariant-loop
invariant-loop l = l.at ≡ steps (next_of l.e) l.counter l.x
