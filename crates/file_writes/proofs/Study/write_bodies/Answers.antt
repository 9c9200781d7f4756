use native.Mathlib.Omega.{arith}
use lib.ListN.{length-drop}
use Rattle.file_writes.proofs.Loops.{laying_first, laying_skip, laying_room, laying_next, begins-live, rest_of, found_as}
use Rattle.file_writes.proofs.Study.write_bodies.Goals.{then-begins, else-begins}
use Rattle.file_writes.proofs.Study.write_bodies.Goals as goal

pub loop-i-init : goal.loop-i-init
loop-i-init c = laying_first _ _ _ _ c.requires.1 c.requires.2

pub write_body-at-requires : goal.write_body-at-requires
write_body-at-requires c = (c.requires.0, begins-live _ c.requires.0 _ _ c.loop-i-test.true (found_as _ _ c.if-begins.true c.begins.ensures), rw (rest_of c.loop-i.out c.loop-i.at) (omega (arith, laying_room c.loop-i.invariant c.loop-i-test.true _ c.begins.auto.seen (found_as _ _ c.if-begins.true c.begins.ensures), length-drop c.loop-i.at c.loop-i.out)))

pub overflow_add-at : goal.overflow_add-at
overflow_add-at c = record { fits = omega (arith, laying_room c.loop-i.invariant c.loop-i-test.true _ c.begins.auto.seen (found_as _ _ c.if-begins.true c.begins.ensures), c.write_body-at.ensures.0, c.loop-i.invariant.long, c.well_formed.1.1.0) }

pub loop-i-preserved : goal.loop-i-preserved
loop-i-preserved c =
    elim c.if-begins.branch [
      | then-begins w ↦ rw (w.out-is, w.at-is) (laying_next c.loop-i.invariant c.loop-i-test.true _ c.begins.auto.seen (found_as _ _ w.if-begins.true c.begins.ensures) _ _ w.write_body-at.ensures.0 w.write_body-at.ensures.1)
      | else-begins w ↦ rw (w.out-is, w.at-is) (laying_skip c.loop-i.invariant c.loop-i-test.true _ c.begins.auto.seen (found_as _ _ w.if-begins.false c.begins.ensures))
    ]
