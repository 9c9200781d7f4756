use mathlib.Core.List.{[], ◌∷◌}
use Rattle.rules.specs.Script.{u32, u64}
use Rattle.words.proofs.read.read_insert.Goals as goal

pub returns : goal.returns
returns c = λ st. rw (c.in_ok-target.ensures (u64 ∷ u32 ∷ []), c.in_ok-payload.ensures.taken (u32 ∷ []), c.in_ok-size.ensures.taken [], c.in_ok-end.ensures)
