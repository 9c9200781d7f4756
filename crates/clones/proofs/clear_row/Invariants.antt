use Rattle.clones.proofs.Rows.{Rowing}
use Rattle.clones.proofs.clear_row.Given as goal

abbrev pub invariant-loop-field : goal.invariant-loop-field
invariant-loop-field l = Rowing l.width l.initial.to l.place (λ f. 0) l.to l.field
