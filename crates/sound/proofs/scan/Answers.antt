use Rattle.std.specs.Prelude.{◌==◌}
use Rattle.rules.proofs.Laws.Tests.{eq_is}
use Rattle.sound.proofs.Turns.{verdict_by, turn_passed, turn_first, wrong_met, wrong_rings, scanned}
use Rattle.sound.proofs.Scans.{bounded}
use Rattle.rules.specs.Tables.{state_of}
use native.Mathlib.Omega.{arith}
use mathlib.Core.Path.{◌≡◌}
use Rattle.sound.proofs.scan.Goals as goal

pub overflow_add-met : goal.overflow_add-met
overflow_add-met c =
    let st = state_of c.args.head c.args.e.now c.args.s.now in
    let l = c.loop-i in
    omega (arith, bounded _ _ _ _ _ (turn_first st l.i l.met l.rings l.seen _ c.look.result l.invariant c.look.ensures c.in-First.count c.in-First.is), c.requires.0.few)

pub loop-i-preserved-in-Free : goal.loop-i-preserved-in-Free
loop-i-preserved-in-Free c =
    let l = c.loop-i in
    turn_passed (state_of c.args.head c.args.e.now c.args.s.now) l.i l.met l.rings l.seen _ c.look.result l.invariant c.look.ensures c.in-Free.is

pub loop-i-preserved : goal.loop-i-preserved
loop-i-preserved c =
    let l = c.loop-i in
    turn_first (state_of c.args.head c.args.e.now c.args.s.now) l.i l.met l.rings l.seen _ c.look.result l.invariant c.look.ensures c.in-First.count c.in-First.is

pub returns-then-met-head : goal.returns-then-met-head
returns-then-met-head c =
    let st = state_of c.args.head c.args.e.now c.args.s.now in
    let l = c.loop-i in
    let end : l.i ≡ c.args.head.elems.extent = omega arith in
    verdict_by (l.rings == c.args.head.shared.live) (scanned st _ _ _ _ l.invariant end c.if-met-head.true) (wrong_rings st _ _ _ _ l.invariant end c.requires.0.shape) (eq_is l.rings c.args.head.shared.live)

pub returns-else-met-head : goal.returns-else-met-head
returns-else-met-head c =
    let st = state_of c.args.head c.args.e.now c.args.s.now in
    let l = c.loop-i in
    let end : l.i ≡ c.args.head.elems.extent = omega arith in
    verdict_by (l.met == c.args.head.elems.live) (λ e. absurd (c.if-met-head.false e)) (wrong_met st _ _ _ _ l.invariant end c.requires.0.shape) (eq_is l.met c.args.head.elems.live)
