use mathlib.Core.Path.{refl}
use native.Mathlib.Omega.{arith}
use Rattle.std.proofs.Common.{suc, add-one}
use Rattle.rules.proofs.Laws.Steps.{steps-suc}
use Rattle.undos.proofs.Tracing.{bytes_more, bytes_within}
use Rattle.undos.proofs.weigh.Goals as goal

pub overflow_add-bytes : goal.overflow_add-bytes
overflow_add-bytes c =
    let w = bytes_within c.args.e.now (suc c.loop.counter) c.args.n c.args.x (omega arith) in
    rw (c.get-bytes.ensures, c.loop.invariant.0, c.loop.invariant.1) (omega (arith, w, c.requires.1, bytes_more c.args.e.now c.loop.counter c.args.x))

pub loop-preserved : goal.loop-preserved
loop-preserved c = rw (c.get-at.ensures, c.get-bytes.ensures, c.loop.invariant.0, c.loop.invariant.1, add-one, steps-suc, bytes_more) (refl, refl)
