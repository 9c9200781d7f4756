use native.Mathlib.Omega.{arith}
use native.Mathlib.Numerals.{add-one}
use Rattle.gather.proofs.Scan.{gathering_start, gathering_visit, gathering_next, gathering_done}
use Rattle.gather.proofs.gather.Goals as goal

pub loop-k-init : goal.loop-k-init
loop-k-init c = gathering_start _ _ _

pub visit-copied-requires : goal.visit-copied-requires
visit-copied-requires c = rw add-one (gathering_visit _ _ _ _ _ _ _ c.requires.ready c.requires.scratch c.loop-k.invariant c.loop-k-test.true)

pub loop-k-preserved : goal.loop-k-preserved
loop-k-preserved c = rw add-one (gathering_next _ _ _ _ _ _ _ c.requires.ready c.requires.scratch c.loop-k.invariant c.loop-k-test.true _ _ _ (rw add-one at c.visit-copied.ensures))

pub returns : goal.returns
returns c = gathering_done _ _ _ _ _ _ _ c.requires.ready c.loop-k.invariant (omega (arith, c.loop-k-test.false))
