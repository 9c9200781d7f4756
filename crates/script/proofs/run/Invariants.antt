-- Of some input, all was read, and what was printed and handed over is what Script says of it.
use Rattle.blocks.specs.Progress.{Reading}
use Rattle.script.proofs.run.Given as goal

abbrev pub invariant-loop : goal.invariant-loop
invariant-loop l = Reading l.program
