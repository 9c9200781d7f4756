-- Tables of zeros are fresh ones, and the buffers are long enough.
use Rattle.std.proofs.Common.{refl, lit<, lit≤}
use Rattle.rules.specs.Slots.{empty}
use Rattle.script.proofs.main.Goals as goal

pub run-requires : goal.run-requires
unfolding empty
run-requires c = record { zero = refl; width = refl; reply = lit≤ tt; most = lit< tt }
