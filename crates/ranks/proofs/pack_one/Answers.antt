use Rattle.ranks.proofs.Packing.{lower, down}
use Rattle.ranks.specs.Passes.{met}
use mathlib.Core.Path.{refl, ◌∙◌}
use Rattle.ranks.proofs.pack_one.Goals as goal

pub returns : goal.returns
returns c = met (λ q. c.if-live-eq0.false (c.get-live.ensures ∙ q)) (down _ _ _ _ _ _ _ _ c.requires.2 (lower c.requires.0 c.requires.3) c.shift.ensures c.put.ensures) refl
