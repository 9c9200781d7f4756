-- A block more is read at each turn.
use Rattle.blocks.proofs.Steps.{reading_next}
use Rattle.script.proofs.run.Goals as goal

pub loop-preserved : goal.loop-preserved
loop-preserved c = reading_next c.loop.invariant c.feed.ensures
