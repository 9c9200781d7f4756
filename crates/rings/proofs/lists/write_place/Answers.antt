use Prim.Native.Nat.{◌+◌, ◌*◌, ◌-◌}
use mathlib.Core.Path.{◌≡◌}
use native.Mathlib.Omega.{arith}
use Rattle.std.proofs.Common.{rules}
use Rattle.rings.proofs.Written.{row_copied}
use Rattle.rings.proofs.lists.write_place.Goals as goal

pub returns : goal.returns
returns g c =
    let w = g.row.WIDTH in
    let at = (c.args.place - 1) * w in
    let m : at + w - at ≡ w = omega arith in
    rw (m, c.copy_from_slice.ensures.after) (row_copied w c.args.out.now c.args.place c.args.numbers (search rules) c.requires)
