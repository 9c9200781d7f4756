-- Rulings: what holds of all that a rule can lead to holds of what it rules.
use Rattle.std.specs.Prelude.{if◌then◌else◌}
use mathlib.Core.Path.{◌≡◌, refl, ap, ◌∙◌}
use mathlib.Core.Logic.{◌≢◌}
use mathlib.Core.Bool.{Bool, true, false}
use mathlib.Core.List.{List, [], ◌∷◌}
use Prim.Native.Nat.{ℕ}
use native.Mathlib.Omega.{arith}
use Rattle.rules.specs.declared.Key.{Key}
use Rattle.std.specs.Prelude.{Result, Ok, Err}
use Rattle.rules.specs.declared.Cause.{Cause}
use Rattle.rules.specs.declared.Refusal.{Refusal}
use Rattle.rules.specs.declared.Refusal.TheVariants.{Dead}
use Rattle.rules.specs.Tables.{State, found, LiveKey}
use Rattle.rules.specs.Refusals.{Ruling, refuse, when_live, with_live, with_all_live}
use Rattle.rules.proofs.Laws.Lists.{All}
use Rattle.rules.proofs.Laws.Working.{view}
use Rattle.rules.proofs.Laws.Safe.{looked}

-- a live key's slot holds a frame
pub live_at : (st : State) (k : Key) → LiveKey st k → (view st).gen k.slot ≢ 0
live_at st k e = let l = looked st k k.slot e in omega (arith, l.live.used)

-- what holds of every refusal and of what is ruled where a test or a key leads, holds of the ruling
module _ (P : Ruling → Type 0) where
  pub by_test : (b : Bool) (p q : Ruling) → (b ≡ true → P p) → (b ≡ false → P q) → P (if b then p else q)
  by_test true p q f g = f refl
  by_test false p q f g = g refl

  pub by_key : ((r : Refusal) → P (refuse r)) → (st : State) (k : Key) (rule : ℕ → Ruling) → (LiveKey st k → P (rule k.slot)) → P (with_live st k rule)
  by_key n st k rule f = go (found st k) refl
    where
      go : (x : Result ℕ Cause) → found st k ≡ x → P (when_live x rule)
      go (Ok x) e = let q : x ≡ k.slot = (looked st k x e).same in rw q (f (e ∙ ap Ok q))
      go (Err cause) e = n (Dead cause)

  pub by-keys : ((r : Refusal) → P (refuse r)) → (st : State) (ks : List Key) (rule : List ℕ → Ruling) → ((xs : List ℕ) → All (λ x. (view st).gen x ≢ 0) xs → P (rule xs)) → P (with_all_live st ks rule)
  by-keys n st [] rule f = f [] tt
  by-keys n st (k ∷ ks) rule f = by_key n st k (λ x. with_all_live st ks (λ xs. rule (x ∷ xs))) (λ l. by-keys n st ks (λ xs. rule (k.slot ∷ xs)) (λ xs a. f (k.slot ∷ xs) (live_at st k l, a)))
