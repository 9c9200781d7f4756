-- A copy begins a history anew, with the frames of its source put in under their own keys (Ticket 10).
use mathlib.Core.Path.{◌≡◌, refl, ap, ◌∙◌, subst}
use mathlib.Core.List.{List, [], ◌∷◌, map}
use Prim.Native.Nat.{ℕ, ◌≤◌}
use native.Mathlib.Nat.{add-zero}
use Rattle.rules.specs.declared.Key.{Key}
use Rattle.rules.specs.Tables.{most_slots, State}
use Rattle.rules.specs.Copy.{copied}
use Rattle.rules.specs.History.{History, Given, named_anew, frames, begun_with}
use Rattle.rules.proofs.Laws.Working.{view, Working}
use Rattle.rules.proofs.Laws.Safe.{working}
use Rattle.rules.proofs.Laws.Keys.{key_path}
use Rattle.rules.proofs.Laws.Rep.{LiveKey}
use Rattle.rules.proofs.Laws.Good.{Good}
use Rattle.rules.proofs.Laws.Copy.{itself, Roomy, gens, copy_renumbers, copy_keeps}
use Rattle.rules.proofs.Laws.Histories.Renumber.{rekeyed}
use Rattle.rules.proofs.Laws.Histories.Renamed.{Carried, carried}

-- no key is renamed
abbrev own : Key → Key
own k = k

pub map_same : {A : Type 0} (f : A → A) → ((x : A) → f x ≡ x) → (xs : List A) → map f xs ≡ xs
map_same f e [] = refl
map_same f e (x ∷ xs) = rw (e x, map_same f e xs)

module _ (a b : ℕ) (st : State) (W : Working (view st)) where
  own_key : (k : Key) → LiveKey (view st) k → rekeyed (view st) (view (copied a b st)) itself (copy_renumbers a b st W) W k ≡ k
  own_key k l = key_path _ _ refl (ap (λ (col : ℕ → ℕ). col k.slot) (gens a b st W) ∙ l.gen)

  -- THE STEP: the target holds what the source holds, key by key
  pub copy_carried : (rs : List (List Key)) (ss : List Key) (gs : List Given) → Carried (view st) rs ss gs → Carried (view (copied a b st)) rs ss gs
  copy_carried rs ss gs C =
      subst (λ (qs : List (List Key)). Carried (view (copied a b st)) qs ss gs) (map_same (map own) (map_same own (λ k. refl)) rs)
      (subst (λ (qs : List Key). Carried (view (copied a b st)) (map (map own) rs) qs gs) (map_same own (λ k. refl) ss)
      (subst (λ (qs : List Given). Carried (view (copied a b st)) (map (map own) rs) (map own ss) qs) (map_same (named_anew own) (λ g. refl) gs)
      (carried (view st) (view (copied a b st)) itself (copy_renumbers a b st W) W own own_key rs ss gs C)))

pub good-copied : (a b : ℕ) (st : State) (h : History) → Good st h → (1 ≤ a) × (a ≤ most_slots) × (1 ≤ b) × (b ≤ most_slots) → Roomy a b st → Good (copied a b st) (begun_with h)
good-copied a b st h G r M =
    let C = copy_carried a b st (working st G.ready) h.runs h.sealed h.sizes (record { rings = G.rings; seals = G.seals; sizes = G.sizes }) in
    record { ready = copy_keeps a b st G.ready r M; rings = C.rings; generation = G.generation; seals = C.seals; sizes = C.sizes; counts = add-zero (frames h) }
