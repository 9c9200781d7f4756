use Rattle.rules.proofs.Laws.Safe.{safe}
use Rattle.rules.proofs.Laws.Totals.{sized-is}
use native.Mathlib.Omega.{arith}
use Rattle.rules.specs.Runs.{new_run}
use mathlib.Core.Path.{◌∙◌}
use Rattle.std.proofs.Common.{rules}
use Rattle.inserts.proofs.insert_surject.Goals as goal

pub returns-then-is_full : goal.returns-then-is_full
unfolding new_run
returns-then-is_full c = rw (c.is_full.ensures ∙ c.if-is_full.true)

pub returns-then-is_full-2 : goal.returns-then-is_full-2
unfolding new_run
returns-then-is_full-2 c = rw (c.is_full.ensures ∙ c.if-is_full.false, c.is_full-2.ensures ∙ c.if-is_full-2.true)

pub slot-slot-requires : goal.slot-slot-requires
slot-slot-requires c = let s = safe _ c.requires in search rules

pub begin-next-requires : goal.begin-next-requires
begin-next-requires c = record { safe = safe _ c.requires; elems = c.is_full-2.ensures ∙ c.if-is_full-2.false; shared = c.is_full.ensures ∙ c.if-is_full.false }

pub returns : goal.returns
unfolding new_run
returns c = rw (sized-is c.args.size (omega (arith, c.ranges.size)), c.is_full.ensures ∙ c.if-is_full.false, c.is_full-2.ensures ∙ c.if-is_full-2.false, c.plain.ensures, c.begin-next.ensures, c.slot-slot.ensures)
