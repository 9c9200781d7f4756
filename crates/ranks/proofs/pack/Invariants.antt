use Rattle.ranks.specs.Passes.{Packed}
use Rattle.ranks.proofs.pack.Given as goal

abbrev pub invariant-loop-k : goal.invariant-loop-k
invariant-loop-k l = Packed l.layout.width l.initial.t l.layout.used l.layout.into l.value l.k l.t l.packed
