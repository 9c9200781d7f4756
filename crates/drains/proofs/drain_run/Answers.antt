use native.Mathlib.Omega.{arith}
use Rattle.drains.proofs.Draining.{run_at, draining_begun, draining_next, draining_done}
use Rattle.std.proofs.Common.{rules}
use Rattle.drains.proofs.drain_run.Goals as goal

pub loop-written-init : goal.loop-written-init
loop-written-init c = draining_begun _ _ _ _ _ c.requires.run

pub get-after-requires : goal.get-after-requires
get-after-requires c = let o = run_at _ _ _ c.loop-written.invariant.run (omega (arith, c.loop-written-test.true)) in search rules

pub drain_frame-next-requires : goal.drain_frame-next-requires
drain_frame-next-requires c = (run_at _ _ _ c.loop-written.invariant.run (omega (arith, c.loop-written-test.true)), record { some = omega arith; inside = omega (arith, c.requires.room, c.loop-written.auto.out, c.loop-written-test.true) })

pub loop-written-preserved : goal.loop-written-preserved
loop-written-preserved c = rw c.get-after.ensures (draining_next _ _ _ _ _ _ _ _ _ c.loop-written.invariant c.loop-written-test.true _ _ c.drain_frame-next.ensures.state c.drain_frame-next.ensures.lent)

pub returns : goal.returns
returns c = let d = draining_done _ _ _ _ _ _ _ _ _ c.loop-written.invariant c.loop-written-test.false in record { state = d.0; lent = d.1 }
