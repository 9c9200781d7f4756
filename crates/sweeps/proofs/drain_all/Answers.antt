use mathlib.Core.Path.{ap, ◌∙◌}
use native.Mathlib.Omega.{arith}
use Rattle.rules.proofs.Laws.Safe.{safe}
use Rattle.rules.proofs.Laws.DemandThree.{not-accepted}
use Rattle.rules.proofs.Laws.Drained.{drain_all-keeps}
use Rattle.rules.specs.Refusals.{Outcome}
use Rattle.rules.specs.Drains.{clear, cleared}
use Rattle.sweeps.proofs.Emptying.{drain_all-7, drain_all-done}
use Rattle.sweeps.proofs.drain_all.Goals as goal

pub overflow_mul-frames : goal.overflow_mul-frames
overflow_mul-frames c = let s = safe _ c.requires in record { fits = omega (arith, s.elems.pool.live, s.elems.pool.within, s.elems.pool.small) }

pub returns-then-out-frames : goal.returns-then-out-frames
returns-then-out-frames c = drain_all-7 _ _ c.if-out-frames.true

pub clear-requires : goal.clear-requires
clear-requires c = rw c.drain_slots-emptied.ensures.state (drain_all-keeps _ _ c.requires)

pub returns-in_err-cleared : goal.returns-in_err-cleared
unfolding clear
returns-in_err-cleared c = absurd (not-accepted _ (ap (λ (o : Outcome). o.said.number) (rw c.in_err-cleared.was at c.clear.ensures)))

pub returns : goal.returns
unfolding clear
returns c = rw c.plain.ensures (drain_all-done _ _ _ _ c.if-out-frames.false (ap (λ (o : Outcome). o.state) (rw c.in_ok-cleared.was at c.clear.ensures) ∙ ap cleared c.drain_slots-emptied.ensures.state) c.drain_slots-emptied.ensures.lent)
