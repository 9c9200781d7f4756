use Rattle.moves.proofs.Laying.{laying_start, laying_at, laying_fill, laying_next}
use Rattle.slots.proofs.Cells.{cell_of}
use native.Mathlib.Omega.{arith}
use Rattle.moves.proofs.lay.Goals as goal

pub loop-k-init : goal.loop-k-init
loop-k-init c = laying_start _ _ _

pub get-class-requires : goal.get-class-requires
get-class-requires c = cell_of (laying_at _ _ _ _ c.requires _ _ _ _ c.loop-k.invariant c.loop-k-test.true) (omega arith)

pub fill-requires : goal.fill-requires
fill-requires c = rw (c.get-count.ensures, c.get-class.ensures) (laying_fill _ _ _ _ c.requires _ _ _ _ c.loop-k.invariant c.loop-k-test.true)

pub overflow_add-at : goal.overflow_add-at
overflow_add-at c = rw (c.get-count.ensures, c.get-class.ensures) (omega (arith, (laying_fill _ _ _ _ c.requires _ _ _ _ c.loop-k.invariant c.loop-k-test.true).1))

pub loop-k-preserved : goal.loop-k-preserved
loop-k-preserved c = laying_next _ _ _ _ c.requires _ _ _ _ c.loop-k.invariant c.loop-k-test.true _ _ _ _ c.get-class.ensures c.get-count.ensures c.copy_row.ensures c.fill.ensures
