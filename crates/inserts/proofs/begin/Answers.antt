use mathlib.Core.List.{[]}
use Rattle.inserts.proofs.Room.{given}
use Rattle.rules.specs.Runs.{begun}
use Rattle.std.proofs.Common.{rules}
use Rattle.inserts.proofs.begin.Goals as goal

pub take_header-next-requires : goal.take_header-next-requires
take_header-next-requires c = rw (c.take_frame-framed.ensures []) (search rules)

pub write_frame-requires : goal.write_frame-requires
write_frame-requires c = let p = c.requires in let s = given _ p.safe.elems.pool p.elems in rw c.slot-x.ensures (search rules)

pub write_header-requires : goal.write_header-requires
write_header-requires c = let p = c.requires in let s = given _ p.safe.shared.pool p.shared in rw c.slot-class.ensures (search rules)

pub returns : goal.returns
unfolding begun
returns c = rw (c.write_header.ensures, c.write_frame.ensures, (c.take_header-next.ensures []), (c.take_frame-framed.ensures []), c.slot-class.ensures, c.slot-x.ensures)
