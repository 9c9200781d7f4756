-- The host's door before a call on two tables: what its tests make of the outcome, and what the outcome tells of them (Tickets 10 and 12).
use Rattle.std.specs.Prelude.{if◌then◌else◌}
use mathlib.Core.Path.{◌≡◌, refl, sym, ◌∙◌}
use mathlib.Core.Logic.{◌≢◌}
use mathlib.Core.Bool.{Bool, true, false, true≢false}
use Rattle.rules.specs.declared.Refusal.TheVariants.{Shape, Unsound}
use Rattle.rules.specs.Tables.{State}
use Rattle.rules.specs.Refusals.{shaped}
use Rattle.rules.specs.Calls.{Is}
use Rattle.rules.specs.TwoTables.{TwoRuling, refuse, accept, TwoOutcome, two_outcome, two_doors, AtTwoDoors}

module _ (target source : State) (Asked : Type 0) (ruling : TwoRuling) where
  -- all pass: the inner call's outcome
  pub both_pass : (o : TwoOutcome) → shaped source ≡ true → shaped target ≡ true → Asked → o ≡ two_outcome target source ruling → AtTwoDoors target source Asked ruling o
  unfolding two_doors
  both_pass o s t a e = record { sound = true; decided = λ _ _. a; same = rw (s, t) e }

  -- 1, of the source and of the target
  pub source_misshapen : shaped source ≡ false → AtTwoDoors target source Asked ruling (two_outcome target source (refuse Shape))
  unfolding two_doors
  source_misshapen e = record { sound = false; decided = λ h _. absurd (true≢false (sym h ∙ e)); same = rw e refl }

  pub target_misshapen : shaped source ≡ true → shaped target ≡ false → AtTwoDoors target source Asked ruling (two_outcome target source (refuse Shape))
  unfolding two_doors
  target_misshapen s e = record { sound = false; decided = λ _ h. absurd (true≢false (sym h ∙ e)); same = rw (s, e) refl }

  -- 2
  pub not_sound : shaped source ≡ true → shaped target ≡ true → (Asked → ⊥) → AtTwoDoors target source Asked ruling (two_outcome target source (refuse Unsound))
  unfolding two_doors
  not_sound s t n = record { sound = false; decided = λ _ _. n; same = rw (s, t) refl }

  -- and back: which of the four it was
  pub data Met (o : TwoOutcome) : Type 0 where
    source_1 : shaped source ≡ false → o ≡ two_outcome target source (refuse Shape) → Met o
    target_1 : shaped source ≡ true → shaped target ≡ false → o ≡ two_outcome target source (refuse Shape) → Met o
    sound_2 : shaped source ≡ true → shaped target ≡ true → (Asked → ⊥) → o ≡ two_outcome target source (refuse Unsound) → Met o
    passes : shaped source ≡ true → shaped target ≡ true → Asked → o ≡ two_outcome target source ruling → Met o

  pub met : (o : TwoOutcome) → AtTwoDoors target source Asked ruling o → Met o
  unfolding two_doors
  met o d = go (shaped source) (shaped target) d.sound refl refl d.decided d.same
    where
      go : (s t b : Bool) → shaped source ≡ s → shaped target ≡ t → (shaped source ≡ true → shaped target ≡ true → Is Asked b)
          → o ≡ two_outcome target source (if s then (if t then (if b then ruling else refuse Unsound) else refuse Shape) else refuse Shape) → Met o
      go false t b s q f e = source_1 s e
      go true false b s q f e = target_1 s q e
      go true true false s q f e = sound_2 s q (f s q) e
      go true true true s q f e = passes s q (f s q) e

  -- no second outcome fits
  pub two_only : (o p : TwoOutcome) → AtTwoDoors target source Asked ruling o → AtTwoDoors target source Asked ruling p → o ≡ p
  unfolding two_doors
  two_only o p d e = d.same ∙ go (shaped source) (shaped target) d.sound e.sound refl refl d.decided e.decided ∙ sym e.same
    where
      go : (s t a b : Bool) → shaped source ≡ s → shaped target ≡ t → (shaped source ≡ true → shaped target ≡ true → Is Asked a) → (shaped source ≡ true → shaped target ≡ true → Is Asked b)
          → two_outcome target source (if s then (if t then (if a then ruling else refuse Unsound) else refuse Shape) else refuse Shape) ≡ two_outcome target source (if s then (if t then (if b then ruling else refuse Unsound) else refuse Shape) else refuse Shape)
      go false t a b s q f g = refl
      go true false a b s q f g = refl
      go true true true true s q f g = refl
      go true true false false s q f g = refl
      go true true true false s q f g = absurd (g s q (f s q))
      go true true false true s q f g = absurd (f s q (g s q))

-- Refusals, below the table: a refused call leaves both as they were
pub two_refused : (target source : State) (ruling : TwoRuling) → (two_outcome target source ruling).said.number ≢ 0 → ((two_outcome target source ruling).target ≡ target) × ((two_outcome target source ruling).source ≡ source)
two_refused target source (refuse r) n = (refl, refl)
two_refused target source (accept over t s) n = absurd (n refl)
