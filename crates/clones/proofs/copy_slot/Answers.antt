use Rattle.clones.proofs.Rows.{clone_free}
use mathlib.Core.Path.{sym, ◌∙◌}
use Rattle.clones.proofs.copy_slot.Goals as goal

pub returns-then-live-eq0 : goal.returns-then-live-eq0
returns-then-live-eq0 c = clone_free _ _ _ _ _ _ _ _ _ c.requires.0 c.requires.3 (sym c.get-live.ensures ∙ c.if-live-eq0.true) c.clear_row.ensures c.put.ensures
