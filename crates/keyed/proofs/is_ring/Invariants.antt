-- The keys so far are those of the frames.
use Rattle.sample.specs.Sample.{RingOf}
use Rattle.keyed.proofs.is_ring.Given as goal

abbrev pub invariant-loop-i : goal.invariant-loop-i
invariant-loop-i l = RingOf l.i l.width l.written l.given.keys l.sample.bytes
