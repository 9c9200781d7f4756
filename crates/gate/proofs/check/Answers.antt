-- The check answers as the gate does.
use Rattle.rules.specs.Tables.{state_of}
use Rattle.gate.proofs.Gates.{told}
use Rattle.gate.proofs.check.Goals as goal

pub returns : goal.returns
returns c = told (state_of c.args.head c.args.elems.now c.args.shared.now) c.gate.result c.gate.ensures
