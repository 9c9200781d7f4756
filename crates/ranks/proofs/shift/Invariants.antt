use Rattle.ranks.proofs.Packing.{Shifting}
use Rattle.ranks.proofs.shift.Given as goal

abbrev pub invariant-loop-field : goal.invariant-loop-field
invariant-loop-field l = Shifting l.width l.initial.t l.from l.to l.t l.field
