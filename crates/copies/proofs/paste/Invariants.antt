use Rattle.copies.specs.Parts.{Pasted}
use Rattle.copies.proofs.paste.Given as goal

abbrev pub invariant-loop-i : goal.invariant-loop-i
invariant-loop-i l = Pasted l.initial.t l.s l.i l.t
