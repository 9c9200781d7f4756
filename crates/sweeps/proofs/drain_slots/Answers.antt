use native.Mathlib.Omega.{arith}
use Rattle.sweeps.proofs.Emptying.{scanning_start, scanning_next, scanning_long, scanning_done}
use Rattle.sweeps.proofs.drain_slots.Goals as goal

pub loop-slot-init : goal.loop-slot-init
loop-slot-init c = scanning_start _ _ c.requires.0 c.requires.1

pub overflow_sub-written : goal.overflow_sub-written
overflow_sub-written c = omega (arith, c.loop-slot.invariant.live)

pub drain_slot-next-requires : goal.drain_slot-next-requires
drain_slot-next-requires c =
    let S = c.loop-slot.invariant in
    record { ready = S.ready; low = c.loop-slot.auto.slot; high = omega (arith, S.extent, c.loop-slot-test.true); room = omega (arith, S.live, S.room, scanning_long _ _ _ _ _ S) }

pub loop-slot-preserved : goal.loop-slot-preserved
loop-slot-preserved c = scanning_next _ _ _ _ _ c.loop-slot.invariant _ _ c.drain_slot-next.ensures.state c.drain_slot-next.ensures.lent

pub returns : goal.returns
returns c = let d = scanning_done _ _ _ _ _ c.loop-slot.invariant (omega (arith, c.loop-slot.invariant.extent, c.loop-slot-test.false)) in record { state = d.0; lent = d.1 }

pub returns-2 : goal.returns-2
returns-2 c = let S = scanning_next _ _ _ _ _ c.loop-slot.invariant _ _ c.drain_slot-next.ensures.state c.drain_slot-next.ensures.lent in let d = scanning_done _ _ _ _ _ S (omega (arith, S.extent)) in record { state = d.0; lent = d.1 }
