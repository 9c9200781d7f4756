use native.Mathlib.Omega.{arith}
use lib.Count.{leading_top}
use Rattle.rules.proofs.Laws.HighestBit.{only}
use Rattle.std.proofs.Common.{rules}
use Rattle.ceiling.proofs.highest_bit.Goals as goal

-- leading zeros, and the powers of two on either side of the number
pub returns : goal.returns
returns c =
    let t = leading_top 64 c.args.n (search rules) c.ranges.n.fits in
    omega (arith, t.1, only c.args.n t.0 (record { reached = t.2; below = t.3 }))
