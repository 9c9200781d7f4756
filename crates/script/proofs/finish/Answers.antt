-- At the end of the input what stands in `out` is all that is still to be handed over: of a line that is held, after it is obeyed.
use Rattle.std.proofs.Common.{ℕ, List, subst, arith}
use Rattle.lines.proofs.Follows.{follows-room, follows-end, follows-last}
use Rattle.stdio.specs.Handed.{Handed}
use Rattle.script.proofs.finish.Goals as goal
use Rattle.script.proofs.finish.Goals.{then-program-gt0, else-program-gt0}

pub returns : goal.returns
returns c =
    λ input d.
    elim c.if-program-gt0.branch [
      | then-program-gt0 w ↦
          let a = w.answer.ensures in
          let z = a.stays d.gone d.handed in
          let h = follows-last {gone = z.handed} (follows-room d.follows z.same) w.if-program-gt0.true c.requires.line a.obeys a.within in
          subst (λ (xs : List ℕ). Handed c.send.new.self xs) h ((rw (c.take-out.ensures.value, w.program-is) at c.send.ensures) z.handed z.counted)
      | else-program-gt0 w ↦
          let h = follows-end d.follows (omega (arith, w.if-program-gt0.false)) (omega (arith, c.requires.line)) in
          subst (λ (xs : List ℕ). Handed c.send.new.self xs) h ((rw (c.take-out.ensures.value, w.program-is) at c.send.ensures) d.gone d.handed)
    ]
