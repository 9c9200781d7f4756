use mathlib.Core.Path.{ap}
use native.Mathlib.Omega.{arith}
use Rattle.std.specs.Prelude.{⊤}
use Rattle.rules.specs.declared.Step.{Step}
use Rattle.rules.proofs.Laws.Soundness.{shaped_of}
use Rattle.compress.proofs.Final.{placeable}
use Rattle.compress.proofs.Call.{compress_short, compressed-is}
use Rattle.compress.proofs.compress_canonical.Goals as goal

pub overflow_mul-head : goal.overflow_mul-head
overflow_mul-head c = omega (arith, (shaped_of _ c.requires.shape).elems.small)

pub returns-then-scratch-head : goal.returns-then-scratch-head
returns-then-scratch-head c = compress_short _ _ _ c.if-scratch-head.true

pub place-requires : goal.place-requires
place-requires c = placeable _ c.requires _ _ _ _ c.regroup.ensures

pub returns : goal.returns
returns c = compressed-is _ _ _ c.requires (omega (arith, c.if-scratch-head.false)) _ (ap (λ (n : Step ⊤). n.head.generation) c.renew-next.ensures) _ _ c.regroup.ensures _ _ c.place.ensures _ (λ i. record { elems = c.pack.ensures i; shared = c.pack-2.ensures i; generation = c.renew-next.result.head.generation; undo = (c.renew-next.ensures i).head.undo }) _ (ap (λ (n : Step ⊤). n.over) c.renew-next.ensures)
