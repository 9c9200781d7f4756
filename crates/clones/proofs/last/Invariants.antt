use Rattle.std.proofs.Common.{ℕ, ◌≡◌}
use Rattle.rules.specs.Copy.{last_to, last_live}
use Rattle.clones.specs.Clones.{side_of, linked}
use Rattle.clones.proofs.last.Given as goal

abbrev pub invariant-loop-below : goal.invariant-loop-below
invariant-loop-below l = (link : ℕ) → let t = side_of l.fn.pool l.t (linked l.layout link) in last_to t l.below ≡ last_live t
