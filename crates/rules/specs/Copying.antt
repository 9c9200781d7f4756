-- Ticket 10: what is claimed of a copy, apart from its rule: when it is refused, what it keeps, and that reads of it answer alike.
use Rattle.std.specs.Prelude.{ℕ, suc, ◌<◌, ◌≡◌, ◌≢◌, ◌⊎◌, false, List, T, if◌then◌else◌}
use Rattle.rules.specs.declared.Key.{Key}
use Rattle.rules.specs.declared.Cause.TheVariants.{NoSlot}
use Rattle.rules.specs.Notation.{◌<?◌}
use Rattle.rules.specs.Tables.{blank, State, is_live, cause, LiveKey}
use Rattle.rules.specs.Sound.{Frame, Header, Each, chain_at}
use Rattle.rules.specs.Refusals.{Outcome, shaped}
use Rattle.rules.specs.Undo.{Whole}
use Rattle.rules.specs.Calls.{Call, Ready, step}
use Rattle.rules.specs.Keeping.{reads, effect}
use Rattle.rules.specs.Renaming.{SameRuns}
use Rattle.rules.specs.TwoTables.{TwoOutcome, give◌when◌else◌, accepted}
use Rattle.rules.specs.Copy.{AtCopy}

-- order: 1 for the source, 1 for the target, 2 for the source; then 5 and 6, when a live slot, and so the last one, exceeds the target's capacity
abbrev pub CopyGives : (target source : State) → ℕ → Type 0
CopyGives target source =
    give 1 when shaped source ≡ false else
    give 1 when shaped target ≡ false else
    give 2 when (Whole source → ⊥) else
    give 5 when ((s : ℕ) × Frame source s × (target.head.elems.capacity < s)) else
    give 6 when ((c : ℕ) × Header source c × (target.head.shared.capacity < c)) else
    accepted

-- the same number and the same places written; and accepted, the same answer
pub record Alike (o o' : Outcome) : Type 0 where
  pub number : o.said.number ≡ o'.said.number
  pub said : o.said.number ≡ 0 → o.said ≡ o'.said
  pub lent : o.lent ≡ o'.lent

-- the copy of a source
pub record CopyOf (source copy : State) : Type 0 where
  pub ready : Ready copy
  -- keys of live frames stay valid, and no other is
  pub keys : (k : Key) → (LiveKey source k → LiveKey copy k) × (LiveKey copy k → LiveKey source k)
  -- rings, counts, totals and marks, payloads and sizes are the same, each in its slot; so is the generation; and there is nothing to undo
  pub runs : SameRuns source copy (λ s. s) (λ c. c)
  pub generation : copy.head.generation ≡ source.head.generation
  pub undo : copy.head.undo ≡ blank
  -- each extent is 0 or a live slot, and so the last one; free slots are chained lowest first
  pub extents : Each (λ t. (t.pool.extent ≡ 0) ⊎ T (is_live t t.pool.extent)) copy
  pub rising : Each (λ t. (k : ℕ) → chain_at t (suc k) ≢ 0 → chain_at t k < chain_at t (suc k)) copy
  -- each call that only reads answers alike; a dead key has the same cause, but that a slot past the last live one is past the extent
  pub alike : (lent : List ℕ) (c : Call) → effect c ≡ reads → Alike (step copy lent c) (step source lent c)
  pub causes : (k : Key) → cause copy k ≡ (if copy.head.elems.extent <? k.slot then NoSlot else cause source k)

pub record Copies (target source : State) (o : TwoOutcome) : Type 0 where
  -- each number exactly then
  pub gives : CopyGives target source o.said.number
  -- the source, its undo included, does not change, nor does the target on refusal
  pub unchanged : o.source ≡ source
  pub refused : o.said.number ≢ 0 → o.target ≡ target
  -- accepted, the target is the copy, in tables as large as before
  pub copy : o.said.number ≡ 0 → CopyOf source o.target
  pub elems : o.target.head.elems.capacity ≡ target.head.elems.capacity
  pub shared : o.target.head.shared.capacity ≡ target.head.shared.capacity

-- THE CLAIM, of every copy at the host's door
abbrev pub Copying : Type 0
Copying = (target source : State) (o : TwoOutcome) → AtCopy target source o → Copies target source o
