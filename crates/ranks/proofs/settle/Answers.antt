use Rattle.ranks.proofs.Packing.{left, settled}
use native.Mathlib.Omega.{arith}
use Rattle.ranks.proofs.settle.Goals as goal

pub overflow_mul-packed : goal.overflow_mul-packed
overflow_mul-packed c = omega (arith, (left c.requires.0 c.requires.1 c.pack-packed.ensures).small)

pub zero-requires : goal.zero-requires
zero-requires c = let L = left c.requires.0 c.requires.1 c.pack-packed.ensures in (L.low, L.high)

pub returns : goal.returns
returns c = settled _ _ _ _ _ _ _ _ _ c.requires.0 c.pack-packed.ensures c.zero.ensures
