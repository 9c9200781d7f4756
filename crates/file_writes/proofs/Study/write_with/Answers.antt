use Rattle.file_writes.proofs.Whole.{fits-still}
use Rattle.file_writes.proofs.Scan.{none-met}
use Rattle.file_writes.proofs.Study.write_with.Goals as goal

pub write_contents-requires : goal.write_contents-requires
write_contents-requires g c = (c.requires.0, none-met _ _ c.requires.2, c.requires.1)

pub write_bodies-requires : goal.write_bodies-requires
write_bodies-requires g c = (c.requires.0, none-met _ _ c.requires.2, fits-still c.requires.1 _ c.write_contents.auto.out)
