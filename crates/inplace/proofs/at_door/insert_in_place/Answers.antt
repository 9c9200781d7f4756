use Rattle.inplace.proofs.Quiet.{unmarked_at}
use Rattle.inplace.proofs.at_door.insert_in_place.Goals as goal

pub returns : goal.returns
returns c = unmarked_at _ _ _ _ _ _ _ (rw c.in_ok-inserted.was at c.insert.ensures)
