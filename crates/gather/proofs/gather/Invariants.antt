use Rattle.rules.specs.Tables.{state_of}
use Rattle.gather.proofs.Scan.{Gathering}
use Rattle.gather.proofs.gather.Given as goal

abbrev pub invariant-loop-k : goal.invariant-loop-k
invariant-loop-k l = Gathering (state_of l.fn.head l.initial.elems l.shared) l.initial.scratch l.generation l.elems l.scratch l.k l.copied
