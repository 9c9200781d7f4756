use Rattle.rules.proofs.Laws.Chains.{linked-free, linked-step}
use Rattle.rules.proofs.Laws.Pools.{Free}
use Rattle.rules.specs.Tables.{cell}
use mathlib.Core.Path.{◌≡◌, sym, ◌∙◌}
use Prim.Native.Nat.{◌+◌, ◌-◌}
use native.Mathlib.Omega.{arith}
use Rattle.pools.proofs.chain_ok.Goals as goal
use Rattle.pools.proofs.chain_ok.Goals.{then-x-eq0-via-then-x-eq0, then-x-eq0-via-else-x-eq0+then-extent-x, then-x-eq0-via-else-x-eq0+else-extent-x+then-get-ne0}

pub returns-then-x-eq0 : goal.returns-then-x-eq0
returns-then-x-eq0 c = λ p.
    let f = linked-free _ _ _ (c.args.free - c.loop.counter) c.loop.x (omega arith) (c.loop.invariant.1 p) in
    elim c.then-x-eq0.branch [
      | then-x-eq0-via-then-x-eq0 w ↦ omega (arith, f.low)
      | then-x-eq0-via-else-x-eq0+then-extent-x w ↦ omega (arith, f.within)
      | then-x-eq0-via-else-x-eq0+else-extent-x+then-get-ne0 w ↦ w.if-get-ne0.true (w.get.ensures ∙ f.free)
    ]

pub loop-preserved : goal.loop-preserved
loop-preserved c =
    let l = c.loop in
    let g = cell c.args.width c.args.t.now 0 in
    let n = cell c.args.width c.args.t.now c.args.link in
    let f : Free g c.args.extent l.x = record { low = omega arith; within = omega arith; free = sym c.get.ensures ∙ c.if-get-ne0.false } in
    let e : c.args.free - (l.counter + 1) ≡ c.args.free - l.counter - 1 = omega arith in
    let s = linked-step g n c.args.extent (c.args.free - l.counter) l.x (omega arith) f in
    rw (e, c.get-x.ensures) (λ p. l.invariant.0 (s.0 p), λ p. s.1 (l.invariant.1 p))
