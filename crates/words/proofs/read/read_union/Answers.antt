use mathlib.Core.List.{[], ◌∷◌}
use Rattle.rules.specs.Script.{u32}
use Rattle.words.proofs.read.read_union.Goals as goal

pub returns : goal.returns
returns c = λ st. rw (c.in_ok-first.ensures (u32 ∷ u32 ∷ []), c.in_ok-second.ensures [], c.in_ok-end.ensures)
