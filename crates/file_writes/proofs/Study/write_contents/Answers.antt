use native.Mathlib.Omega.{arith}
use Rattle.file_writes.proofs.Loops.{listing_first, listing_skip, listing_room, listing_place, listing_next, listing_last, begins-live, found_as}
use Rattle.file_writes.proofs.Study.write_contents.Goals.{then-begins, else-begins}
use Rattle.file_writes.proofs.Study.write_contents.Goals as goal

pub loop-i-init : goal.loop-i-init
loop-i-init c = listing_first _ _ _ _ c.requires.1 c.requires.2

pub body_length-long-requires : goal.body_length-long-requires
body_length-long-requires c = (c.requires.0, begins-live _ c.requires.0 _ _ c.loop-i-test.true (found_as _ _ c.if-begins.true c.begins.ensures))

pub put4-requires : goal.put4-requires
put4-requires c = omega (arith, listing_place c.loop-i.invariant c.loop-i-test.true _ c.begins.auto.seen (found_as _ _ c.if-begins.true c.begins.ensures))

pub put4-requires-then-begins : goal.put4-requires-then-begins
put4-requires-then-begins c = omega (arith, listing_place c.loop-i.invariant c.loop-i-test.true _ c.begins.auto.seen (found_as _ _ c.if-begins.true c.begins.ensures), c.put4.auto.out)

pub overflow_add-at : goal.overflow_add-at
overflow_add-at c = record { fits = omega (arith, listing_room c.loop-i.invariant c.loop-i-test.true _ c.begins.auto.seen (found_as _ _ c.if-begins.true c.begins.ensures), c.body_length-long.ensures, c.loop-i.invariant.long, c.well_formed.1.1.0) }

pub returns : goal.returns
returns c = listing_last c.loop-i.invariant c.loop-i-test.false

pub loop-i-preserved : goal.loop-i-preserved
loop-i-preserved c =
    elim c.if-begins.branch [
      | then-begins w ↦ rw (w.out-is, w.entry-is, w.at-is) (listing_next c.loop-i.invariant c.loop-i-test.true _ c.begins.auto.seen (found_as _ _ w.if-begins.true c.begins.ensures) _ _ _ w.body_length-long.ensures w.put4.ensures w.put4-then-begins.ensures)
      | else-begins w ↦ rw (w.out-is, w.entry-is, w.at-is) (listing_skip c.loop-i.invariant c.loop-i-test.true _ c.begins.auto.seen (found_as _ _ w.if-begins.false c.begins.ensures))
    ]
