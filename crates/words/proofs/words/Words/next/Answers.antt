use Rattle.words.proofs.Pieces.{pieces_at, pieces_whole}
use Rattle.words.proofs.words.Words.next.Goals as goal

pub returns-in-Some : goal.returns-in-Some
returns-in-Some c = rw c.in_ok-rest.was (pieces_at _ _ _ c.in-Some.ensures)

pub returns-in-None : goal.returns-in-None
returns-in-None c = rw c.in_ok-rest.was (pieces_whole _ _ c.in-None.ensures)
