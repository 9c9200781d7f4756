use Rattle.std.proofs.Common.{sym, refl, ◌∙◌}
use Rattle.clones.proofs.Scanning.{above, cell-above, last-live, last-free, last-none}
use Rattle.clones.proofs.last.Goals as goal

pub loop-below-init : goal.loop-below-init
loop-below-init c = λ link. refl

pub returns-then-live-ne0 : goal.returns-then-live-ne0
returns-then-live-ne0 c = λ link. above _ c.loop-below-test.true ∙ sym (last-live _ _ c.loop-below-test.true c.loop-below.auto.below (λ q. c.if-live-ne0.true (c.get-live.ensures ∙ cell-above _ _ _ _ c.loop-below-test.true ∙ q))) ∙ c.loop-below.invariant link

pub loop-below-preserved : goal.loop-below-preserved
loop-below-preserved c = λ link. sym (last-free _ _ c.loop-below-test.true c.loop-below.auto.below (sym (c.get-live.ensures ∙ cell-above _ _ _ _ c.loop-below-test.true) ∙ c.if-live-ne0.false)) ∙ c.loop-below.invariant link

pub returns : goal.returns
returns c = λ link. sym (last-none _ _ c.loop-below-test.false) ∙ c.loop-below.invariant link
