use Rattle.clones.proofs.Table.{cloning_start, cloning_asks, cloning_next, cloned_pool, cloned_table}
use Rattle.clones.proofs.copy_table.Goals as goal

pub loop-below-init : goal.loop-below-init
loop-below-init c = cloning_start _ _ _

pub copy_slot-root-requires : goal.copy_slot-root-requires
copy_slot-root-requires c = cloning_asks _ _ _ _ c.requires _ _ _ c.loop-below.invariant c.loop-below-test.true c.loop-below.auto.below

pub loop-below-preserved : goal.loop-below-preserved
loop-below-preserved c = cloning_next _ _ _ _ c.requires _ _ _ c.loop-below.invariant c.loop-below-test.true c.loop-below.auto.below _ _ c.copy_slot-root.ensures

pub returns : goal.returns
returns c = (cloned_pool _ _ _ _ c.requires _ _ _ c.loop-below.invariant c.loop-below-test.false, cloned_table _ _ _ _ c.requires _ _ _ c.loop-below.invariant c.loop-below-test.false _ c.zero.ensures)
