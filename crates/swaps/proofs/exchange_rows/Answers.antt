use Rattle.swaps.proofs.Exchanges.{exchanging_next}
use Rattle.swaps.proofs.exchange_rows.Goals as goal

pub loop-field-preserved : goal.loop-field-preserved
loop-field-preserved c = exchanging_next _ _ _ _ _ _ c.requires.0 c.requires.1 c.loop-field.invariant c.loop-field-test.true _ _ _ _ c.get-a.ensures c.get-b.ensures c.put.ensures c.put-in-loop-field.ensures
