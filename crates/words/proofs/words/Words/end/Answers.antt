use Rattle.words.proofs.Pieces.{numbers-over}
use Rattle.words.proofs.words.Words.end.Goals as goal
use Rattle.rules.specs.Script.{space, numbers}

pub returns-in-Some : goal.returns-in-Some
returns-in-Some c = rw c.in-Some.is (numbers-over space _)

pub returns-in-None : goal.returns-in-None
unfolding numbers
returns-in-None c = rw c.in-None.is
