-- Ticket 12: a study goes to other tables in canonical order, and its own are cleared.
use Rattle.std.specs.Prelude.{ℕ, Bool, false, ◌||◌, if◌then◌else◌, ◌==◌}
use Rattle.rules.specs.declared.Refusal.TheVariants.{NoElement, NoShared, OutOfRange}
use Rattle.rules.specs.Notation.{◌<?◌}
use Rattle.rules.specs.Tables.{last_generation, State}
use Rattle.rules.specs.Slots.{overflows}
use Rattle.rules.specs.Drains.{cleared}
use Rattle.rules.specs.Compress.{canonical_frames, canonical_classes, renumbered_in}
use Rattle.rules.specs.Undo.{Whole}
use Rattle.rules.specs.TwoTables.{TwoRuling, refuse, accept, TwoOutcome, two_outcome, AtTwoDoors}

-- the target then: all frames of the source with the generation `g`, and nothing to undo; whatever it held is gone
abbrev pub moved : (target source : State) → (g : ℕ) → State
moved target source g = renumbered_in target.head.elems.capacity target.head.shared.capacity source (canonical_frames source) (canonical_classes source) g

-- 13: not in the range of a generation; of the numbers that a u32 can be, only 0 is not
unfoldable pub is_none : (g : ℕ) → Bool
is_none g = (g == 0) || (last_generation <? g)

-- the call: 13; then 5 and 6, by live numbers. An empty source is not touched, any other is cleared, and its overflow said
unfoldable pub transfer : (target source : State) → (g : ℕ) → TwoRuling
transfer target source g =
    if is_none g then refuse OutOfRange else
    if target.head.elems.capacity <? source.head.elems.live then refuse NoElement else
    if target.head.shared.capacity <? source.head.shared.live then refuse NoShared else
    if source.head.elems.live == 0 then accept false (moved target source g) source else
    accept (overflows source) (moved target source g) (cleared source)

-- at the inner door, which rests on the soundness of both
abbrev pub transfer_step : (target source : State) → (g : ℕ) → TwoOutcome
transfer_step target source g = two_outcome target source (transfer target source g)

-- at the host's door: 2 is asked of the source and of the target
abbrev pub AtMove : (target source : State) → (g : ℕ) → TwoOutcome → Type 0
AtMove target source g = AtTwoDoors target source (Whole source × Whole target) (transfer target source g)
