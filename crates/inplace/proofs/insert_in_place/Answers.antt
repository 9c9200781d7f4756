use Rattle.inplace.proofs.Quiet.{unmarked}
use Rattle.inplace.proofs.insert_in_place.Goals as goal

pub returns : goal.returns
returns c = unmarked _ _ _ _ _ _ _ (rw c.in_ok-inserted.was at c.insert.ensures)
