use Prim.Native.Nat.{◌+◌, ◌-◌}
use mathlib.Core.Path.{◌≡◌, ◌∙◌, ap}
use lib.ListN.{take}
use native.Mathlib.Omega.{arith}
use Rattle.rules.specs.Bytes.{little}
use Rattle.rules.proofs.Laws.Numbers.{length-little}
use Rattle.littles.proofs.Cells.{put_mid-sets, take-little, to_le-little}
use Rattle.littles.proofs.put.Goals as goal

pub returns : goal.returns
returns g c =
    let w = g.row.WIDTH in
    let m : c.args.at + w - c.args.at ≡ w = omega arith in
    let e = c.copy_from_slice.ensures.after ∙ ap (take w) (c.to_le_bytes.ensures ∙ to_le-little c.args.n) ∙ take-little 8 w c.args.n c.requires.1 in
    rw (m, e, put_mid-sets c.args.at w c.args.out.now (little w c.args.n) (length-little w c.args.n) c.requires.0)
