use Rattle.rules.specs.Script.{numbers}
use Rattle.words.proofs.words.Words.number.Goals as goal

pub returns-in_err-next-clause-taken : goal.returns-in_err-next-clause-taken
unfolding numbers
returns-in_err-next-clause-taken c = λ mosts. rw (c.in_err-next.ensures, c.from_residual.ensures)

pub returns-clause-taken : goal.returns-clause-taken
unfolding numbers
returns-clause-taken c = λ mosts. rw (c.in_ok-next.ensures, c.number.ensures.read)
