use Rattle.rules.specs.Drains.{clear, cleared}
use Rattle.rules.specs.Slots.{overflows}
use Rattle.rules.proofs.Laws.Safe.{safe}
use Rattle.rules.proofs.Laws.Past.{past-elems, past-shared}
use Rattle.wipes.proofs.clear.Goals as goal

pub blank-next-requires : goal.blank-next-requires
blank-next-requires c =
    let r = c.requires in
    let p = safe _ r in
    (record { long = p.elems.long; within = p.elems.pool.within; zeros = past-elems _ r }, record { long = p.shared.long; within = p.shared.pool.within; zeros = past-shared _ r })

pub returns : goal.returns
unfolding clear cleared overflows
returns c = rw (c.blank-next.ensures, c.raise-raised.ensures)
