use Rattle.ranks.proofs.Packing.{packing_start, packing_at, packing_few, packing_next}
use Rattle.ranks.proofs.pack.Goals as goal

pub loop-k-init : goal.loop-k-init
loop-k-init c = packing_start _ _ _ _ _

pub pack_one-packed-requires : goal.pack_one-packed-requires
pack_one-packed-requires c = let R = c.loop-k.invariant in let l = c.loop-k-test.true in let F = packing_few _ _ _ _ _ _ c.requires _ _ _ R l in (packing_at _ _ _ _ _ _ c.requires _ _ _ R l, c.requires.reads, c.requires.writes, F.0, F.1)

pub loop-k-preserved : goal.loop-k-preserved
loop-k-preserved c = packing_next _ _ _ _ _ _ c.requires _ _ _ c.loop-k.invariant c.loop-k-test.true _ _ c.pack_one-packed.ensures
