use Rattle.swaps.proofs.Exchanges.{Exchanging}
use Rattle.swaps.proofs.exchange_rows.Given as goal

abbrev pub invariant-loop-field : goal.invariant-loop-field
invariant-loop-field l = Exchanging l.width l.initial.t l.i l.j l.t l.field
