-- The tests, in their order, decide what the door gives.
use Rattle.rules.proofs.Laws.Doors.{misshapen, unsound}
use Rattle.pools.proofs.Ask.{if_no}
use mathlib.Core.Path.{◌∙◌}
use Rattle.gate.proofs.gate.Goals as goal
use Rattle.gate.proofs.gate.Goals.{then-not-is_sound-via-then-not-is_sound, then-not-is_sound-via-else-not-is_sound+then-not-remembers}

pub returns-then-not-is_shaped : goal.returns-then-not-is_shaped
returns-then-not-is_shaped c = λ lent call. misshapen _ lent call (c.is_shaped.ensures ∙ c.if-not-is_shaped.true)

pub returns-then-not-is_sound : goal.returns-then-not-is_sound
returns-then-not-is_sound c = λ lent call. unsound _ lent call (c.is_shaped.ensures ∙ c.if-not-is_shaped.false) (λ whole. elim c.then-not-is_sound.branch [
  | then-not-is_sound-via-then-not-is_sound w ↦ if_no c.is_sound.result w.if-not-is_sound.true c.is_sound.ensures whole.0
  | then-not-is_sound-via-else-not-is_sound+then-not-remembers w ↦ if_no w.remembers.result w.if-not-remembers.true w.remembers.ensures whole.1
])
