use native.Mathlib.Omega.{arith}
use Rattle.rings.proofs.Freeing.{freeing_begun, freeing_at, freeing_next, freeing_done}
use Rattle.std.proofs.Common.{add-one, rules}
use Rattle.rings.proofs.frees.free_ring.Goals as goal

pub loop-init : goal.loop-init
loop-init c = freeing_begun _ _ _ _ c.requires.0 c.requires.1

pub get-after-requires : goal.get-after-requires
get-after-requires c = let w = freeing_at _ _ _ _ _ _ _ _ c.loop.invariant c.loop-test.true in search rules

pub free_frame-next-requires : goal.free_frame-next-requires
free_frame-next-requires c = (freeing_at _ _ _ _ _ _ _ _ c.loop.invariant c.loop-test.true, omega (arith, c.loop.invariant.live, c.loop-test.true))

pub loop-preserved : goal.loop-preserved
loop-preserved c = rw (c.get-after.ensures, add-one) (freeing_next _ _ _ _ _ _ _ _ c.loop.invariant c.loop-test.true _ _ c.free_frame-next.ensures)

pub returns : goal.returns
returns c = freeing_done _ _ _ _ _ _ _ _ c.loop.invariant c.loop-test.false
