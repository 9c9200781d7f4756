use Rattle.file_writes.proofs.Frames.{frame_stored}
use Rattle.file_writes.proofs.write_frame.Goals as goal

pub returns : goal.returns
returns c = frame_stored c.args.out.now c.put8.new.out _ c.args.at c.args.payload c.args.size c.put8.ensures c.put4.ensures
