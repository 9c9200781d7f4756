use native.Mathlib.Omega.{arith}
use Prim.Native.Nat.{◌+◌, ◌*◌}
use mathlib.Core.Path.{◌≡◌, subst}
use Rattle.file_reads.proofs.Filling.{Filling, filling_next, filling_last}
use Rattle.file_reads.proofs.fill_frames.Goals as goal

pub loop-i-preserved : goal.loop-i-preserved
loop-i-preserved c =
    let place : c.args.at + c.loop-i.i * 12 + 12 ≡ c.args.at + (c.loop-i.i + 1) * 12 = omega arith in
    subst (Filling c.args.b.now c.args.at c.args.n c.args.class c.args.a c.args.elems.now c.write_frame.new.e (c.loop-i.i + 1)) place
    (filling_next c.loop-i.invariant c.loop-i-test.true _ _ _ _ _ c.get8-payload.ensures c.get4-size.ensures.0 c.before-previous.ensures c.after-next.ensures c.write_frame.ensures)

pub returns : goal.returns
returns c = filling_last c.loop-i.invariant c.loop-i-test.false
