-- Union of live slots: what its steps leave is the rule's state, and each of its ways.
use Rattle.std.specs.Prelude.{if◌then◌else◌}
use Prim.Native.Nat.{ℕ, suc, ◌+◌, ◌≤◌, ◌<◌}
use mathlib.Core.Path.{◌≡◌, refl, ap, ◌∙◌}
use mathlib.Core.Logic.{◌≢◌}
use mathlib.Core.Bool.{Bool, true, false}
use mathlib.Core.List.{List, [], ◌∷◌}
use native.Mathlib.Omega.{arith}
use lib.ListN.{length}
use borrow.Author.Tests.{eq-eqb, ne_eqb}
use Rattle.rules.specs.declared.Head.{Head}
use Rattle.rules.specs.declared.Key.{Key}
use Rattle.std.specs.Prelude.{Ok}
use Rattle.rules.specs.declared.Refusal.TheVariants.{SameClass, Sealed}
use Rattle.rules.specs.Notation.{◌<?◌}
use Rattle.rules.specs.Tables.{class_of, value_of, total_of, next_of, State, state_of, size_at, is_sealed, remembering, with_undo}
use Rattle.rules.specs.Refusals.{Outcome, outcome, refuse, answer}
use Rattle.rules.specs.Slots.{free_shared}
use Rattle.rules.specs.Runs.{counted, rewritten, exchanged, joined, remembered, keeping}
use Rattle.rules.specs.Answers.{joined_values, after}
use Rattle.slots.specs.Asked.{Next}
use Rattle.slots.proofs.Rewrites.{rewritten-next, length-rewritten}
use Rattle.unions.specs.declared.Roles.{Roles}
use Rattle.slots.specs.Asked.{OnLive}
use Rattle.unions.specs.Union.{BothLive, union_at}

-- a live slot and its next stand in the table after the rewrite
pub next_in : (st : State) (x n y c : ℕ) → OnLive st x → Next (rewritten n st.elems y c) x
next_in st x n y c o =
    let e : length (rewritten n st.elems y c) ≡ length st.elems = length-rewritten n st.elems y c in
    let t = o.safe.elems in
    let f = o.frame in
    let l = o.live in
    record {
      frame = record { some = l.some; inside = omega arith };
      next = rw (rewritten-next n st.elems y c) (record { some = f.next-some; inside = omega arith });
    }

pub joined_by : (st : State) (x y c : ℕ) (next : Head) (e s s' : List ℕ)
    → state_of next e s' ≡ free_shared (state_of st.head e s) c → c ≡ class_of st.elems y
    → e ≡ exchanged (rewritten (size_at st y) st.elems y (class_of st.elems x)) x y
    → s ≡ counted st.shared (class_of st.elems x) (size_at st x + size_at st y) (total_of st.shared (class_of st.elems x) + total_of st.shared (class_of st.elems y))
    → state_of next e s' ≡ joined st x y
unfolding joined
joined_by st x y c next e s s' f p q r = f ∙ rw (p, q, r)

pub keeping-by : (st : State) (x y : ℕ) (kept : Key) (next : Head) (e s : List ℕ) (was moved : ℕ)
    → was ≡ value_of st.shared (class_of st.elems y) → moved ≡ size_at st y → state_of next e s ≡ joined st x y
    → after joined_values st.head (Ok (record { head = remembering next (record { kept = x; gone = y; moved = moved; value = was }); answer = record { was = was; kept = kept; moved = moved }; over = false })) e s [] ≡ outcome st [] (keeping st x y kept)
unfolding keeping
keeping-by st x y kept next e s was moved p q f =
    rw (p, q) (ap (λ (t : State). outcome st [] (answer (value_of st.shared (class_of st.elems y) ∷ kept.slot ∷ kept.generation ∷ size_at st y ∷ []) (with_undo t (remembered st x y)))) f)

-- who keeps its class
abbrev pub chosen : (x y : ℕ) → (j k : Key) → Bool → Roles
chosen x y j k b = if b then record { keeps = y; goes = x; kept = k } else record { keeps = x; goes = y; kept = j }

module _ (st : State) (x y : ℕ) (j k : Key) where
  pub chosen_live : (b : Bool) (r : Roles) → r ≡ chosen x y j k b → BothLive st x y → BothLive st r.keeps r.goes
  chosen_live true r e l = rw e (record { first = l.second; second = l.first })
  chosen_live false r e l = rw e l

  chosen_keeping : (b : Bool) (r : Roles) → r ≡ chosen x y j k b → keeping st r.keeps r.goes r.kept ≡ (if b then keeping st y x k else keeping st x y j)
  chosen_keeping true r e = rw e
  chosen_keeping false r e = rw e

  pub union-same : (o : Outcome) → class_of st.elems x ≡ class_of st.elems y → o ≡ outcome st [] (refuse SameClass) → o ≡ outcome st [] (union_at st x y j k)
  unfolding union_at
  union-same o e p = simp (eq-eqb _ _ e) p

  module _ (n : class_of st.elems x ≢ class_of st.elems y) where
    pub union-first : (o : Outcome) → is_sealed st x ≡ true → o ≡ outcome st [] (refuse Sealed) → o ≡ outcome st [] (union_at st x y j k)
    unfolding union_at
    union-first o s p = simp (ne_eqb _ _ n, s) p

    pub union-second : (o : Outcome) → is_sealed st x ≡ false → is_sealed st y ≡ true → o ≡ outcome st [] (refuse Sealed) → o ≡ outcome st [] (union_at st x y j k)
    unfolding union_at
    union-second o s t p = simp (ne_eqb _ _ n, s, t) p

    pub union_differ : (o : Outcome) (b : Bool) (r : Roles) → is_sealed st x ≡ false → is_sealed st y ≡ false → r ≡ chosen x y j k b
        → (size_at st x <? size_at st y) ≡ b → o ≡ outcome st [] (keeping st r.keeps r.goes r.kept) → o ≡ outcome st [] (union_at st x y j k)
    unfolding union_at
    union_differ o b r s t e l p = simp (ne_eqb _ _ n, s, t, l) (p ∙ ap (outcome st []) (chosen_keeping b r e))
