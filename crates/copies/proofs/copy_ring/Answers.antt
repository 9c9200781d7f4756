use Rattle.copies.proofs.Ring.{copying_next}
use Rattle.copies.proofs.copy_ring.Goals as goal

pub loop-i-preserved : goal.loop-i-preserved
loop-i-preserved c = copying_next _ _ _ _ _ _ _ _ _ _ c.requires c.loop-i.invariant c.loop-i-test.true _ _ _ _ _ _ _ _ c.get-payload.ensures c.get-class.ensures c.get-next.ensures c.get-size.ensures c.before-previous.ensures c.after-following.ensures c.write_frame.ensures c.put.ensures
