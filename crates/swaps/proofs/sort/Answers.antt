use native.Mathlib.Omega.{arith}
use Rattle.swaps.proofs.Exchanges.{sorts_start, sorts_entry, sorts_one, sorts_two, sorts_next, sorts_done}
use Rattle.swaps.proofs.sort.Goals as goal

pub loop-i-init : goal.loop-i-init
loop-i-init c = sorts_start _ _ _ c.requires

pub bring-requires : goal.bring-requires
bring-requires c =
    let P = c.requires in
    let R = c.loop-i.invariant in
    (sorts_one _ _ _ _ _ _ P R (omega arith) (omega arith), sorts_two _ _ _ _ _ _ P R (omega arith) (omega arith) _ (rw c.get-first.ensures at c.displaced-j.ensures), sorts_entry _ _ _ _ _ _ P R (omega arith) (omega arith))

pub loop-i-preserved : goal.loop-i-preserved
loop-i-preserved c = sorts_next _ _ _ _ _ _ c.requires c.loop-i.invariant (omega arith) (omega arith) _ _ _ (rw c.get-first.ensures at c.displaced-j.ensures) c.bring.ensures

pub returns : goal.returns
returns c = sorts_done _ _ _ _ _ _ c.loop-i.invariant (omega arith)
