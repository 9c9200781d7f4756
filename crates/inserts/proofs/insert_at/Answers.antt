use mathlib.Core.List.{[]}
use Rattle.inserts.proofs.Room.{given}
use Rattle.slots.specs.Answered.{spliced}
use Rattle.rules.specs.Runs.{inserted}
use Rattle.std.proofs.Common.{rules}
use Rattle.inserts.proofs.insert_at.Goals as goal

pub splice-class-requires : goal.splice-class-requires
splice-class-requires c = let p = c.requires.0 in let s = given _ p.safe.elems.pool c.requires.1 in rw c.slot-y.ensures (search rules)

pub returns : goal.returns
unfolding inserted spliced
returns c = rw (c.recount.ensures, c.get-total.ensures, c.get-count.ensures, c.splice-class.ensures.1, c.splice-class.ensures.0, (c.take_frame-next.ensures []), c.slot-y.ensures)
