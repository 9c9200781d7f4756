use Rattle.slots.proofs.Ways.{looks_none, looks_past, looks_free, looks_live, looks_other}
use Rattle.slots.proofs.find.Goals.{then-slot-eq0-via-then-slot-eq0, then-slot-eq0-via-else-slot-eq0+then-head-slot}
use Rattle.slots.proofs.find.Goals as goal

pub returns-then-slot-eq0 : goal.returns-then-slot-eq0
returns-then-slot-eq0 c = λ s. elim c.then-slot-eq0.branch [
  | then-slot-eq0-via-then-slot-eq0 w ↦ looks_none _ _ w.if-slot-eq0.true
  | then-slot-eq0-via-else-slot-eq0+then-head-slot w ↦ looks_past _ _ w.if-head-slot.true
]

pub returns-then-generation-eq0 : goal.returns-then-generation-eq0
returns-then-generation-eq0 c = λ s. looks_free _ _ c.if-slot-eq0.false c.if-head-slot.false (rw (← c.get-generation.ensures) c.if-generation-eq0.true)

pub returns-then-generation-key : goal.returns-then-generation-key
returns-then-generation-key c = λ s. looks_live _ _ c.if-slot-eq0.false c.if-head-slot.false (rw (← c.get-generation.ensures) c.if-generation-eq0.false) (rw (← c.get-generation.ensures) c.if-generation-key.true)

pub returns : goal.returns
returns c = λ s. looks_other _ _ c.if-slot-eq0.false c.if-head-slot.false (rw (← c.get-generation.ensures) c.if-generation-eq0.false) (rw (← c.get-generation.ensures) c.if-generation-key.false)
