use Rattle.rules.proofs.Laws.Chains.{Both, Linked}
use Rattle.rules.specs.Tables.{cell}
use Prim.Native.Nat.{◌-◌}
use Rattle.pools.proofs.chain_ok.Given as goal

abbrev pub invariant-loop : goal.invariant-loop
invariant-loop l = Both (Linked (cell l.width l.t 0) (cell l.width l.t l.link) l.extent (l.free - l.counter) l.x) (Linked (cell l.width l.t 0) (cell l.width l.t l.link) l.extent l.free l.root)
