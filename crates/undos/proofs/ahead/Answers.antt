use Rattle.std.proofs.Common.{add-one}
use Rattle.rules.proofs.Laws.Steps.{steps-suc}
use Rattle.undos.proofs.ahead.Goals as goal

pub loop-preserved : goal.loop-preserved
loop-preserved c = rw (c.get-at.ensures, c.loop.invariant, add-one, steps-suc)
