use mathlib.Core.Path.{◌∙◌}
use Rattle.file_checks.proofs.Loop.{passed_departs, passed_whole, passed_more}
use Rattle.file_checks.proofs.check_runs.Goals as goal

pub returns-in_err-body : goal.returns-in_err-body
returns-in_err-body c = c.from_residual.ensures ∙ passed_departs c.loop-i.invariant c.loop-i-test.true c.in_err-body.ensures

pub returns-then-at-b : goal.returns-then-at-b
returns-then-at-b c = passed_more c.loop-i.invariant c.loop-i-test.false c.if-at-b.true

pub returns : goal.returns
returns c = passed_whole c.loop-i.invariant c.loop-i-test.false c.if-at-b.false
