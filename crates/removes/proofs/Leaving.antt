-- Removal: what its steps leave is the rule's state, and each of its ways.
use Rattle.std.specs.Prelude.{if◌then◌else◌, ◌==◌}
use Prim.Native.Nat.{ℕ, ◌-◌, ◌≤◌}
use mathlib.Core.Path.{◌≡◌, refl, sym, ap, ◌∙◌}
use mathlib.Core.Logic.{◌≢◌}
use mathlib.Core.Bool.{Bool, true, false}
use mathlib.Core.List.{List}
use native.Mathlib.Omega.{arith}
use borrow.Author.Tests.{eq-eqb, ne_eqb}
use Rattle.rules.specs.declared.Head.{Head}
use Rattle.rules.specs.declared.Rest.{Rest}
use Rattle.rules.specs.declared.Rest.TheVariants.{GoesOn, Last}
use Rattle.rules.specs.Tables.{class_of, previous_of, next_of, bytes_of, count_of, value_of, total_of, State, state_of, with_shared, with_generation}
use Rattle.rules.specs.Slots.{free_element, free_shared, raised, raise}
use Rattle.rules.specs.Runs.{counted, linked, unlinked, left, removed}
use Rattle.rules.specs.declared.Step.{Step}
use Rattle.removes.specs.Removal.{LeftClass}

module _ (st : State) (c z : ℕ) (r : Step Rest) (s : List ℕ) where
  pub left-last : count_of st.shared c ≡ 1 → state_of r.head st.elems s ≡ free_shared st c → r.answer ≡ Last (value_of st.shared c) → LeftClass st c z r s
  unfolding left
  left-last e p q = record { state = simp (eq-eqb _ _ e) p; rest = simp (eq-eqb _ _ e) q }

  pub left-on : count_of st.shared c ≢ 1
      → state_of r.head st.elems s ≡ with_shared st (counted st.shared c (count_of st.shared c - 1) (total_of st.shared c - z)) → r.answer ≡ GoesOn → LeftClass st c z r s
  unfolding left
  left-on n p q = record { state = simp (ne_eqb _ _ n) p; rest = simp (ne_eqb _ _ n) q }

-- the generation stays until it is raised
left_either : (st : State) (c z : ℕ) (b : Bool)
    → (if b then free_shared st c else with_shared st (counted st.shared c (count_of st.shared c - 1) (total_of st.shared c - z))).head.generation ≡ st.head.generation
unfolding free_shared
left_either st c z true = refl
left_either st c z false = refl

left-generation : (st : State) (c z : ℕ) → (left st c z).head.generation ≡ st.head.generation
unfolding left
left-generation st c z = left_either st c z (count_of st.shared c == 1)

freed-generation : (st : State) (x : ℕ) → (free_element st x).head.generation ≡ st.head.generation
unfolding free_element
freed-generation st x = refl

raised_of : (st : State) → state_of (with_generation st.head (raised st.head.generation)) st.elems st.shared ≡ raise st
unfolding raise
raised_of st = refl

-- an element slot is freed: the shared pool stays
pub kept-live : (st : State) (x : ℕ) (h : Head) (e : List ℕ) → state_of h e st.shared ≡ free_element st x → 1 ≤ st.head.shared.live → 1 ≤ h.shared.live
unfolding free_element
kept-live st x h e p l = let q : h.shared.live ≡ st.head.shared.live = ap (λ (t : State). t.head.shared.live) p in omega arith

module _ (st : State) (x c z : ℕ) (h₁ h₂ : Head) (e₁ e₂ s₂ : List ℕ)
    (p : e₁ ≡ linked st.elems (previous_of st.elems x) (next_of st.elems x))
    (q : state_of h₁ e₂ st.shared ≡ free_element (state_of st.head e₁ st.shared) x)
    (k : c ≡ class_of st.elems x)
    (j : z ≡ bytes_of st.elems x)
    (r : state_of h₂ e₂ s₂ ≡ left (state_of h₁ e₂ st.shared) c z) where
  pub same-generation : h₂.generation ≡ st.head.generation
  same-generation =
      ap (λ (t : State). t.head.generation) r ∙ left-generation (state_of h₁ e₂ st.shared) c z
      ∙ ap (λ (t : State). t.head.generation) q ∙ freed-generation (state_of st.head e₁ st.shared) x

  pub removed-by : state_of (with_generation h₂ (raised h₂.generation)) e₂ s₂ ≡ removed st x
  unfolding removed unlinked
  removed-by = raised_of (state_of h₂ e₂ s₂) ∙ ap raise (r ∙ rw (k, j, q, p))
