-- Lent zero tables are fresh ones.
use Rattle.std.proofs.Common.{refl}
use Rattle.rules.specs.Slots.{empty}
use Rattle.blocks.proofs.Steps.{reading_start}
use Rattle.script.proofs.fresh.Goals as goal

pub returns : goal.returns
unfolding empty
returns c = rw c.empty-pool.ensures (record { head = refl; reading = reading_start _ c.requires refl c.nothing.ensures refl refl })
