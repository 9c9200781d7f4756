use native.Mathlib.Omega.{arith}
use Rattle.lines.proofs.Gathering.{held_part}
use Rattle.lines.proofs.stream.hold.Goals as goal

pub returns : goal.returns
returns c = held_part _ _ _ _ c.requires (omega (arith, c.min-kept.ensures)) _ _ (omega arith) c.put_text.ensures
