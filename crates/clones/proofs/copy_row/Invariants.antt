use Rattle.rules.specs.Tables.{cell}
use Rattle.clones.proofs.Rows.{Rowing}
use Rattle.clones.proofs.copy_row.Given as goal

abbrev pub invariant-loop-field : goal.invariant-loop-field
invariant-loop-field l = Rowing l.width l.initial.to l.place (λ f. cell l.width l.from f l.slot) l.to l.field
