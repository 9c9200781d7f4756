use Rattle.ordered.proofs.Call.{need_small, with_short, with_is}
use Rattle.ordered.proofs.Final.{room}
use Rattle.std.specs.Prelude.{⊤}
use Rattle.rules.specs.declared.Step.{Step}
use native.Mathlib.Omega.{arith}
use mathlib.Core.List.{[]}
use mathlib.Core.Bool.{false}
use mathlib.Core.Path.{ap}
use Rattle.ordered.proofs.compress_with.Goals as goal

pub overflow_mul-live : goal.overflow_mul-live
overflow_mul-live c = omega (arith, need_small _ [] false c.requires)

pub returns-then-pairs-live : goal.returns-then-pairs-live
returns-then-pairs-live c = with_short _ _ _ c.if-pairs-live.true

pub tell-requires : goal.tell-requires
tell-requires c = room _ c.requires 0 _ (omega (arith, c.if-pairs-live.false))

pub returns : goal.returns
returns c = with_is _ _ _ c.requires (omega (arith, c.if-pairs-live.false)) _ (ap (λ (r : Step ⊤). r.head.generation) c.renew-next.ensures) _ _ _ c.tell.ensures c.renumber.ensures _ (λ i. record { elems = c.pack.ensures i; shared = c.pack-2.ensures i; generation = c.renew-next.result.head.generation; undo = (c.renew-next.ensures i).head.undo }) _ (ap (λ (r : Step ⊤). r.over) c.renew-next.ensures)
