use native.Mathlib.Omega.{arith}
use Rattle.slots.proofs.Live.{header_in, all_in}
use Rattle.rules.proofs.Laws.Safe.{safe}
use Rattle.undos.proofs.Tracing.{not_none, not-past, not_free, not-sealed, not_more, kept-live, walked}
use Rattle.std.proofs.Common.{rules}
use Rattle.undos.proofs.traces.Goals.{then-x-eq0-via-then-x-eq0, then-x-eq0-via-else-x-eq0+then-head-x, then-x-eq0-via-else-x-eq0+else-head-x+then-n-eq0, then-x-eq0-via-else-x-eq0+else-head-x+else-n-eq0+then-head-eq0}
use Rattle.undos.proofs.traces.Goals.{then-mark-ne0-via-then-mark-ne0, then-mark-ne0-via-else-mark-ne0+then-size-n, then-mark-ne0-via-else-mark-ne0+else-size-n+then-size-n-2}
use Rattle.undos.proofs.traces.Goals as goal

pub returns-then-x-eq0 : goal.returns-then-x-eq0
returns-then-x-eq0 c = elim c.then-x-eq0.branch [
  | then-x-eq0-via-then-x-eq0 w ↦ not_none _ w.if-x-eq0.true
  | then-x-eq0-via-else-x-eq0+then-head-x w ↦ not-past _ w.if-head-x.true
  | then-x-eq0-via-else-x-eq0+else-head-x+then-n-eq0 w ↦ λ t. omega (arith, t.some)
  | then-x-eq0-via-else-x-eq0+else-head-x+else-n-eq0+then-head-eq0 w ↦ λ t. t.root w.if-head-eq0.true
]

pub get-requires : goal.get-requires
get-requires c = let s = safe _ c.requires in search rules

pub returns-then-get-eq0 : goal.returns-then-get-eq0
returns-then-get-eq0 c = not_free _ (rw c.get.ensures at c.if-get-eq0.true)

pub get-class-requires : goal.get-class-requires
get-class-requires c = let s = safe _ c.requires in search rules

pub get-mark-requires : goal.get-mark-requires
get-mark-requires c = let w = header_in _ _ (safe _ c.requires) (kept-live _ c.if-x-eq0.false c.if-head-x.false (rw c.get.ensures at c.if-get-eq0.false)) in rw c.get-class.ensures (search rules)

pub get-size-requires : goal.get-size-requires
get-size-requires c = let w = header_in _ _ (safe _ c.requires) (kept-live _ c.if-x-eq0.false c.if-head-x.false (rw c.get.ensures at c.if-get-eq0.false)) in rw c.get-class.ensures (search rules)

pub returns-then-mark-ne0 : goal.returns-then-mark-ne0
returns-then-mark-ne0 c = elim c.then-mark-ne0.branch [
  | then-mark-ne0-via-then-mark-ne0 w ↦ not-sealed _ _ c.get-class.ensures (rw c.get-mark.ensures at w.if-mark-ne0.true)
  | then-mark-ne0-via-else-mark-ne0+then-size-n w ↦ not_more _ _ _ c.get-class.ensures c.get-size.ensures (omega (arith, w.if-size-n.true))
  | then-mark-ne0-via-else-mark-ne0+else-size-n+then-size-n-2 w ↦ not_more _ _ _ c.get-class.ensures c.get-size.ensures (omega (arith, w.if-size-n-2.true))
]

pub ahead-requires : goal.ahead-requires
ahead-requires c = all_in _ _ _ (safe _ c.requires) (kept-live _ c.if-x-eq0.false c.if-head-x.false (rw c.get.ensures at c.if-get-eq0.false))

pub returns : goal.returns
returns c = rw c.ahead.ensures (walked _ _ _ c.get-class.ensures c.get-size.ensures (kept-live _ c.if-x-eq0.false c.if-head-x.false (rw c.get.ensures at c.if-get-eq0.false)) c.if-n-eq0.false (omega (arith, c.if-size-n-2.false, c.if-size-n.false)) c.if-head-eq0.false (rw c.get-mark.ensures at c.if-mark-ne0.false))
