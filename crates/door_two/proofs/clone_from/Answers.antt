use mathlib.Core.Path.{◌∙◌}
use Rattle.pools.proofs.Ask.{if_yes, if_no}
use Rattle.rules.proofs.Laws.TwoDoors.{both_pass, source_misshapen, target_misshapen, not_sound}
use Rattle.door_two.proofs.clone_from.Goals as goal

pub returns-then-not-is_shaped : goal.returns-then-not-is_shaped
returns-then-not-is_shaped c = source_misshapen _ _ _ _ (c.is_shaped.ensures ∙ c.if-not-is_shaped.true)

pub returns-then-not-is_shaped-2 : goal.returns-then-not-is_shaped-2
returns-then-not-is_shaped-2 c = target_misshapen _ _ _ _ (c.is_shaped.ensures ∙ c.if-not-is_shaped.false) (c.is_shaped-2.ensures ∙ c.if-not-is_shaped-2.true)

pub returns-then-not-is_whole : goal.returns-then-not-is_whole
returns-then-not-is_whole c = not_sound _ _ _ _ (c.is_shaped.ensures ∙ c.if-not-is_shaped.false) (c.is_shaped-2.ensures ∙ c.if-not-is_shaped-2.false) (if_no c.is_whole.result c.if-not-is_whole.true c.is_whole.ensures)

pub returns : goal.returns
returns c = both_pass _ _ _ _ _ (c.is_shaped.ensures ∙ c.if-not-is_shaped.false) (c.is_shaped-2.ensures ∙ c.if-not-is_shaped-2.false) (if_yes c.is_whole.result c.if-not-is_whole.false c.is_whole.ensures) c.clone_from.ensures
