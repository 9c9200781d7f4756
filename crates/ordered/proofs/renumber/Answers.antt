use Rattle.ordered.proofs.Final.{elems_fields, shared_fields, renameable, renamed_fields, ranked_fields, elems_final, shared_final}
use Rattle.ordered.proofs.Call.{both}
use native.Mathlib.Omega.{arith}
use Rattle.ordered.proofs.renumber.Goals as goal

pub rank-requires : goal.rank-requires
rank-requires c = elems_fields _ c.requires 0

pub rank-requires-2 : goal.rank-requires-2
rank-requires-2 c = shared_fields _ c.requires 0

pub rename-requires : goal.rename-requires
rename-requires c = renameable _ c.requires 0 _ _ c.rank.ensures c.rank-2.ensures

pub settle-requires : goal.settle-requires
settle-requires c = (renamed_fields _ c.requires 0 _ _ c.rank.ensures c.rank-2.ensures _ c.rename.ensures, omega arith)

pub settle-requires-2 : goal.settle-requires-2
settle-requires-2 c = (ranked_fields _ c.requires 0 _ _ c.rank.ensures c.rank-2.ensures _ c.rename.ensures, omega arith)

pub returns : goal.returns
returns c = both _ _ _ _ _ (elems_final _ c.requires _ _ _ c.rank.ensures c.rank-2.ensures _ c.rename.ensures _ _ c.settle.ensures c.settle-2.ensures) (shared_final _ c.requires _ _ _ c.rank.ensures c.rank-2.ensures _ c.rename.ensures _ _ c.settle.ensures c.settle-2.ensures)
