use Rattle.std.proofs.Common.{◌-◌}
use Rattle.swaps.proofs.+follow.Given as goal

abbrev pub decreases-follow : goal.decreases-follow
decreases-follow l = l.place - l.at
