use Rattle.std.proofs.Common.{◌≡◌}
use lib.Seq.{sets}
use Rattle.rules.specs.Notation.{steps}
use Rattle.rules.specs.Tables.{next_of}
use Rattle.rings.specs.Answered.{places_along}
use Rattle.seals.specs.Answered.{frame_place}
use Rattle.seals.proofs.write_places.Given as goal

abbrev pub invariant-loop-written : goal.invariant-loop-written
invariant-loop-written l = (l.at ≡ steps (next_of l.elems) l.written l.x) × (l.out ≡ sets l.initial.out 0 (places_along (frame_place l.elems) l.elems l.written l.x))
