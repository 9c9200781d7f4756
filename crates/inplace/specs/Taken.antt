-- Removal's answer beside the overflow mark, in document 01's terms.
use Rattle.std.specs.Prelude.{Result, Ok, Err}
use Rattle.rules.specs.declared.Refusal.{Refusal}
use Rattle.rules.specs.Refusals.{Said, said_refused, said_accepted}
use Rattle.rules.specs.Answers.{removed_values}
use Rattle.inplace.specs.declared.TakenOut.{TakenOut}

abbrev pub said_taken : Result TakenOut Refusal → Said
said_taken (Ok taken) = said_accepted (removed_values taken.removed) taken.over
said_taken (Err r) = said_refused r
