use mathlib.Core.Path.{sym}
use Rattle.rules.proofs.Laws.Pools.{if_eq}
use Rattle.swaps.proofs.Exchanges.{exchanged_same}
use Rattle.swaps.proofs.bring.Goals as goal

pub returns-then-j-i : goal.returns-then-j-i
returns-then-j-i c = record { elems = sym (if_eq _ _ _ _ c.if-j-i.true); shared = exchanged_same _ _ _ _ c.if-j-i.true }
