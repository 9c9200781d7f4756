use Rattle.ranks.proofs.Telling.{telling_start, telling_at, telling_next}
use Rattle.ranks.proofs.tell.Goals as goal

pub loop-k-init : goal.loop-k-init
loop-k-init c = telling_start _ _ _

pub tell_one-told-requires : goal.tell_one-told-requires
tell_one-told-requires c = telling_at _ _ _ _ c.requires _ _ _ c.loop-k.invariant c.loop-k-test.true

pub loop-k-preserved : goal.loop-k-preserved
loop-k-preserved c = telling_next _ _ _ _ c.requires _ _ _ c.loop-k.invariant c.loop-k-test.true _ _ c.tell_one-told.ensures
