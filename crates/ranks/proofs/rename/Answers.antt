use Rattle.ranks.proofs.Renaming.{naming_start, naming_at, naming_next}
use Rattle.ranks.proofs.rename.Goals as goal

pub loop-k-init : goal.loop-k-init
loop-k-init c = naming_start _ _

pub rename_one-requires : goal.rename_one-requires
rename_one-requires c = naming_at _ _ _ c.requires _ _ c.loop-k.invariant c.loop-k-test.true

pub loop-k-preserved : goal.loop-k-preserved
loop-k-preserved c = naming_next _ _ _ c.requires _ _ c.loop-k.invariant c.loop-k-test.true _ c.rename_one.ensures
