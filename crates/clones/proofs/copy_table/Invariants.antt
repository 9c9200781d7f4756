use Rattle.clones.specs.Clones.{side_of}
use Rattle.clones.proofs.Table.{Cloning}
use Rattle.clones.proofs.copy_table.Given as goal

abbrev pub invariant-loop-below : goal.invariant-loop-below
invariant-loop-below l = Cloning l.initial.to (side_of l.pool l.from l.layout) l.last l.to l.below l.root
