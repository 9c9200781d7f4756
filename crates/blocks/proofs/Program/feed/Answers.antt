use Rattle.std.proofs.Common.{refl}
use Rattle.blocks.proofs.Steps.{feeding_start, feeding_next, feeding_end}
use Rattle.blocks.proofs.Program.feed.Goals as goal

pub loop-part-init : goal.loop-part-init
loop-part-init c = feeding_start _ _ refl c.requires

pub loop-part-preserved : goal.loop-part-preserved
loop-part-preserved c =
    feeding_next _ _ c.loop-part.invariant c.in-Some.ensures.0 c.hold-self.ensures c.answer.ensures

pub returns : goal.returns
returns c = feeding_end _ _ c.loop-part.invariant c.in_default.ensures c.hold-self-2.ensures
