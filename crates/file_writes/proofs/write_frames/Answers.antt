use Rattle.file_writes.proofs.Frames.{storing_next}
use Rattle.file_writes.proofs.write_frames.Goals as goal

pub loop-preserved : goal.loop-preserved
loop-preserved c = storing_next c.loop.invariant c.loop-test.true _ _ _ _ c.get-payload.ensures c.get-size.ensures c.get-slot.ensures c.write_frame.ensures
