use Rattle.place.proofs.Shared.{permuting, sizes, placed}
use Rattle.place.proofs.place.Goals as goal

pub sort-requires : goal.sort-requires
sort-requires c = permuting _ _ _ c.requires _ c.note.ensures

pub recover-requires : goal.recover-requires
recover-requires c = sizes _ _ _ c.requires _ c.note.ensures _ _ c.sort.ensures

pub returns : goal.returns
returns c = placed _ _ _ c.requires _ c.note.ensures _ _ c.sort.ensures _ _ c.recover.ensures c.zero.ensures
