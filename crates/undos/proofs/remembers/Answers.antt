use Rattle.std.proofs.Common.{ap, arith}
use Rattle.std.proofs.lemmas.Grind.{common_steps}
use Rattle.rules.specs.declared.Memory.{Memory}
use Rattle.undos.proofs.Tracing.{walk_tells}
use Rattle.undos.proofs.remembers.Goals as goal

pub returns-else-blank : goal.returns-else-blank
returns-else-blank c = walk_tells _ c.requires (λ e. let k = ap (λ (m : Memory). m.kept) e in let g = ap (λ (m : Memory). m.gone) e in let m = ap (λ (m : Memory). m.moved) e in let v = ap (λ (m : Memory). m.value) e in grind (arith, common_steps)) c.traces.result c.traces.ensures
