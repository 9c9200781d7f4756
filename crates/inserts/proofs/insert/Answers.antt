use mathlib.Core.Path.{◌∙◌}
use Rattle.rules.specs.Runs.{insert}
use Rattle.rules.proofs.Laws.Safe.{safe}
use Rattle.rules.proofs.Laws.Totals.{sized-is}
use native.Mathlib.Omega.{arith}
use Rattle.slots.proofs.Live.{on-live}
use Rattle.std.proofs.lemmas.Result.{err_from_is_err_and}
use Rattle.std.proofs.Common.{rules}
use Rattle.inserts.proofs.insert.Goals as goal

pub find-requires : goal.find-requires
find-requires c = let s = safe _ c.requires in search rules

pub returns-in_err-x : goal.returns-in_err-x
unfolding insert
returns-in_err-x c = let p = err_from_is_err_and c.from_residual.result c.from_residual.ensures.1 in rw (p.1, p.2, (c.find.ensures c.args.shared.now).same, c.in_err-x.was)

pub is_sealed-requires : goal.is_sealed-requires
is_sealed-requires c = on-live _ _ _ _ c.requires (c.find.ensures _) c.in_ok-x.was

pub returns-then-is_sealed : goal.returns-then-is_sealed
unfolding insert
returns-then-is_sealed c = let s = c.args.shared.now in rw ((c.find.ensures s).same ∙ c.in_ok-x.was, c.is_sealed.ensures ∙ c.if-is_sealed.true)

pub returns-then-is_full : goal.returns-then-is_full
unfolding insert
returns-then-is_full c = let s = c.args.shared.now in rw ((c.find.ensures s).same ∙ c.in_ok-x.was, c.is_sealed.ensures ∙ c.if-is_sealed.false, c.is_full.ensures ∙ c.if-is_full.true)

pub slot-slot-requires : goal.slot-slot-requires
slot-slot-requires c = let s = safe _ c.requires in search rules

pub insert_at-next-requires : goal.insert_at-next-requires
insert_at-next-requires c = (on-live _ _ _ _ c.requires (c.find.ensures _) c.in_ok-x.was, c.is_full.ensures ∙ c.if-is_full.false, omega (arith, c.ranges.size))

pub returns : goal.returns
unfolding insert
returns c = let s = c.args.shared.now in rw (sized-is c.args.size (omega (arith, c.ranges.size)), (c.find.ensures s).same ∙ c.in_ok-x.was, c.is_sealed.ensures ∙ c.if-is_sealed.false, c.is_full.ensures ∙ c.if-is_full.false, c.plain.ensures, c.insert_at-next.ensures, c.slot-slot.ensures)
