use Rattle.std.proofs.Common.{◌≡◌}
use lib.Seq.{sets}
use Rattle.rules.specs.Notation.{steps}
use Rattle.rules.specs.Tables.{next_of}
use Rattle.rings.specs.Answered.{keys_along}
use Rattle.rings.proofs.lists.write_keys.Given as goal

abbrev pub invariant-loop-written : goal.invariant-loop-written
invariant-loop-written l = (l.at ≡ steps (next_of l.elems) l.written l.x) × (l.out ≡ sets l.initial.out 0 (keys_along l.elems l.written l.x))
