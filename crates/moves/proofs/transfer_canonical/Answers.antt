use Rattle.moves.proofs.Call.{refusing, fitting, move-empty, move-done, movable, whole-past, left-past}
use Rattle.rules.proofs.Laws.Moving.{move_13, move_5, move_6}
use Rattle.rules.proofs.Laws.Soundness.{shaped_of}
use Rattle.rules.specs.declared.Step.{Step}
use Rattle.std.specs.Prelude.{⊤}
use native.Mathlib.Omega.{arith}
use mathlib.Core.Path.{ap}
use mathlib.Core.Logic.{inl}
use Rattle.moves.proofs.transfer_canonical.Goals as goal

pub returns-then-generation-eq0 : goal.returns-then-generation-eq0
returns-then-generation-eq0 c = refusing _ _ _ _ (move_13 _ _ _ (inl c.if-generation-eq0.true))

pub returns-then-room-live : goal.returns-then-room-live
returns-then-room-live c = refusing _ _ _ _ (move_5 _ _ _ (omega (arith, c.if-generation-eq0.false)) (omega (arith, c.ranges.generation)) c.if-room-live.true)

pub returns-then-places-runs : goal.returns-then-places-runs
returns-then-places-runs c = refusing _ _ _ _ (move_6 _ _ _ (omega (arith, c.if-generation-eq0.false)) (omega (arith, c.ranges.generation)) (omega (arith, c.if-room-live.false)) c.if-places-runs.true)

pub blank-none-requires : goal.blank-none-requires
blank-none-requires c = let H = shaped_of _ c.requires.0 in (whole-past _ _ _ H.elems.long, whole-past _ _ _ H.shared.long)

pub returns-then-live-eq0 : goal.returns-then-live-eq0
returns-then-live-eq0 c = move-empty _ _ _ (fitting _ _ _ (omega (arith, c.if-generation-eq0.false)) (omega (arith, c.ranges.generation)) (omega (arith, c.if-room-live.false)) (omega (arith, c.if-places-runs.false))) _ c.from-given.ensures c.requires.1 c.if-live-eq0.true _ _ _ c.blank-none.ensures

pub land-requires : goal.land-requires
land-requires c = movable _ _ c.requires.0 c.requires.1 (omega (arith, c.if-room-live.false)) (omega (arith, c.if-places-runs.false))

pub blank-left-requires : goal.blank-left-requires
blank-left-requires c = left-past _ _ _ _ _ _ _ c.requires.1 c.land.ensures

pub returns : goal.returns
returns c = let H = shaped_of _ c.requires.0 in move-done _ _ _ (fitting _ _ _ (omega (arith, c.if-generation-eq0.false)) (omega (arith, c.ranges.generation)) (omega (arith, c.if-room-live.false)) (omega (arith, c.if-places-runs.false))) _ c.from-given.ensures c.requires.1 c.if-live-eq0.false _ _ _ H.elems.long H.shared.long c.land.ensures _ c.packed.ensures _ _ _ _ _ (ap (λ (r : Step ⊤). r.head.generation) c.raise-next.ensures) (ap (λ (r : Step ⊤). r.over) c.raise-next.ensures) c.blank-left.ensures
