use mathlib.Core.List.{[]}
use Rattle.words.proofs.read.read_remove.Goals as goal

pub returns : goal.returns
returns c = λ st. rw (c.in_ok-key.ensures [], c.in_ok-end.ensures)
