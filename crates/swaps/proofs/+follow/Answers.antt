use Rattle.swaps.specs.Swaps.{on}
use Rattle.swaps.proofs.Swaps.{trail-next, trail_low}
use Rattle.swaps.proofs.+follow.Goals as goal

pub returns : goal.returns
returns t c =
    let p = c.requires in
    let n = trail-next p.trail c.if-place-at.false in
    on (trail_low p.within.some p.trail) c.if-place-at.false n.0 (rw c.get-next.ensures at c.follow.ensures)
