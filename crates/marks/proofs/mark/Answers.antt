-- A mark is the bit of its number, and no other bit changes.
use Rattle.marks.proofs.Digits.{added}
use Rattle.std.proofs.Common.{rules}
use Rattle.marks.proofs.mark.Goals as goal

pub returns : goal.returns
returns c = added c.args.words.now c.args.x (search rules)
