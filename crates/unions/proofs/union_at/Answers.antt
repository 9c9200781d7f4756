use lib.Dec.{ltb}
use mathlib.Core.Path.{refl, ◌∙◌}
use Rattle.unions.proofs.Joining.{union-same, union-first, union-second, union_differ}
use Rattle.unions.proofs.union_at.Goals as goal

pub returns-then-first-second : goal.returns-then-first-second
returns-then-first-second c = union-same _ _ _ _ _ _ (rw (← c.get-second.ensures, ← c.get-first.ensures) c.if-first-second.true) refl

pub returns-then-is_sealed : goal.returns-then-is_sealed
returns-then-is_sealed c = union-first _ _ _ _ _ (rw (← c.get-second.ensures, ← c.get-first.ensures) c.if-first-second.false) _ (c.is_sealed.ensures ∙ c.if-is_sealed.true) refl

pub returns-then-is_sealed-2 : goal.returns-then-is_sealed-2
returns-then-is_sealed-2 c = union-second _ _ _ _ _ (rw (← c.get-second.ensures, ← c.get-first.ensures) c.if-first-second.false) _ (c.is_sealed.ensures ∙ c.if-is_sealed.false) (c.is_sealed-2.ensures ∙ c.if-is_sealed-2.true) refl

pub returns : goal.returns
returns c = union_differ _ _ _ _ _ (rw (← c.get-second.ensures, ← c.get-first.ensures) c.if-first-second.false) _ (ltb c.get-first_size.result c.get-second_size.result) _ (c.is_sealed.ensures ∙ c.if-is_sealed.false) (c.is_sealed-2.ensures ∙ c.if-is_sealed-2.false) c.assign-role.ensures (rw (c.get-second_size.ensures, c.get-first_size.ensures, c.get-second.ensures, c.get-first.ensures)) c.join.ensures
