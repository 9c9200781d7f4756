-- What was read of the block is obeyed and printed as Script says.
use Rattle.std.proofs.Common.{length}
use Rattle.blocks.proofs.Steps.{Feeding}
use Rattle.blocks.proofs.Program.feed.Given as goal

abbrev pub invariant-loop-part : goal.invariant-loop-part
invariant-loop-part l = Feeding l.block l.initial.self l.rest l.self

abbrev pub decreases-loop-part : goal.decreases-loop-part
decreases-loop-part l = length l.rest
