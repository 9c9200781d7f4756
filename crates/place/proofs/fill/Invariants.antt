use Prim.Native.Nat.{◌-◌}
use Rattle.place.specs.Headers.{Filled}
use Rattle.place.proofs.fill.Given as goal

abbrev pub invariant-loop-slot : goal.invariant-loop-slot
invariant-loop-slot l = Filled l.initial.elems l.at (l.slot - l.at) l.class l.elems
