-- Ticket 12: what is claimed of a move, apart from its rule: when it is refused, what the target has then, and what is left of the source.
use Rattle.std.specs.Prelude.{ℕ, ◌+◌, ◌<◌, ◌≡◌, ◌≢◌, ◌⊎◌, Bool, false, []}
use Rattle.rules.specs.Tables.{last_generation, generation_of, State, blank}
use Rattle.rules.specs.Sound.{Frame}
use Rattle.rules.specs.Refusals.{shaped}
use Rattle.rules.specs.Compress.{canonical_frames, canonical_classes, place_of, packed_in}
use Rattle.rules.specs.Undo.{Whole}
use Rattle.rules.specs.Calls.{clear, Ready, step}
use Rattle.rules.specs.Renaming.{SameRuns}
use Rattle.rules.specs.TwoTables.{TwoOutcome, give◌when◌else◌, accepted}
use Rattle.rules.specs.Move.{AtMove}

-- order: 1, then 2, source before target in each, which for 2 cannot be seen; 13; 5 and 6 by live numbers against the target's capacities
abbrev pub MoveGives : (target source : State) → (g : ℕ) → ℕ → Type 0
MoveGives target source g =
    give 1 when shaped source ≡ false else
    give 1 when shaped target ≡ false else
    give 2 when (Whole source × Whole target → ⊥) else
    give 13 when (g ≡ 0) ⊎ (last_generation < g) else
    give 5 when target.head.elems.capacity < source.head.elems.live else
    give 6 when target.head.shared.capacity < source.head.shared.live else
    accepted

-- the target has the source's runs up to the renaming of canonical compression, all with the given generation
pub record MovedTo (target source : State) (g : ℕ) (now : State) : Type 0 where
  pub ready : Ready now
  pub runs : SameRuns source now (place_of (canonical_frames source)) (place_of (canonical_classes source))
  pub generation : now.head.generation ≡ g
  pub generations : (s : ℕ) → Frame now s → generation_of now.elems s ≡ g
  pub elems : now.head.elems ≡ packed_in target.head.elems.capacity source.head.elems.live
  pub shared : now.head.shared ≡ packed_in target.head.shared.capacity source.head.shared.live
  pub undo : now.head.undo ≡ blank

-- the source is as clear leaves it, its overflow told; an empty one is not touched, and has nothing to undo as it stands
pub record MovedFrom (source : State) (over : Bool) (now : State) : Type 0 where
  pub empty : source.head.elems.live ≡ 0 → (now ≡ source) × (over ≡ false)
  pub cleared : source.head.elems.live ≢ 0 → (now ≡ (step source [] clear).state) × (over ≡ (step source [] clear).said.over)
  pub ready : Ready now
  pub undo : now.head.undo ≡ blank

pub record Transfers (target source : State) (g : ℕ) (o : TwoOutcome) : Type 0 where
  -- each number exactly then
  pub gives : MoveGives target source g o.said.number
  -- nothing moves on refusal
  pub refused : o.said.number ≢ 0 → (o.target ≡ target) × (o.source ≡ source) × (o.said.over ≡ false)
  pub to : o.said.number ≡ 0 → MovedTo target source g o.target
  pub from : o.said.number ≡ 0 → MovedFrom source o.said.over o.source
  -- the frames of both sides together fall by exactly the target's old number
  pub fall : o.said.number ≡ 0 → o.target.head.elems.live + o.source.head.elems.live + target.head.elems.live ≡ target.head.elems.live + source.head.elems.live

-- THE CLAIM, of every move at the host's door
abbrev pub Moving : Type 0
Moving = (target source : State) (g : ℕ) (o : TwoOutcome) → AtMove target source g o → Transfers target source g o
