use Rattle.std.specs.Prelude.{◌==◌}
use Rattle.rules.proofs.Laws.Tests.{eq_is}
use Rattle.rules.proofs.Laws.Rounds.{round_fit, round-bytes, round_early, round-step}
use Rattle.pools.proofs.Ask.{if_yes, if_no, is_like}
use mathlib.Core.Path.{sym, ◌∙◌}
use Prim.Native.Nat.{◌-◌}
use native.Mathlib.Omega.{arith}
use Rattle.turns.proofs.ring_ok.Goals as goal

pub returns-then-not-frame_ok : goal.returns-then-not-frame_ok
returns-then-not-frame_ok c = λ p. let l = c.loop-left in if_no c.frame_ok.result c.if-not-frame_ok.true c.frame_ok.ensures (round_fit _ _ _ _ l.left l.rest l.y (l.invariant.1.1 p))

pub returns-then-rest-size : goal.returns-then-rest-size
returns-then-rest-size c = λ p. let l = c.loop-left in omega (arith, round-bytes _ _ _ _ l.left l.rest l.y (l.invariant.1.1 p))

pub returns-else-left-eq0 : goal.returns-else-left-eq0
returns-else-left-eq0 c =
    let l = c.loop-left in
    is_like (l.left - 1 == 0) (λ e. absurd (c.if-left-eq0.false e)) (λ p. (round_early _ _ _ _ l.left l.rest l.y (sym c.get-next.ensures ∙ c.if-next-x.true) (l.invariant.1.1 p)).0) (eq_is (l.left - 1) 0)

pub loop-left-preserved : goal.loop-left-preserved
loop-left-preserved c =
    let l = c.loop-left in
    let f = if_yes c.frame_ok.result c.if-not-frame_ok.false c.frame_ok.ensures in
    let t = round-step _ _ _ _ l.left l.rest l.y (omega arith) f (omega arith) (λ q. c.if-next-x.false (c.get-next.ensures ∙ q)) in
    rw (c.get-size.ensures, c.get-next.ensures) (f.onward, (λ p. l.invariant.1.0 (t.0 p), λ p. t.1 (l.invariant.1.1 p)))
