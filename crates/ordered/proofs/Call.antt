-- The call: refused 7 with nothing changed, or accepted with what the passes leave.
use Rattle.std.specs.Prelude.{◌==◌, Ok, Err}
use mathlib.Core.Path.{◌≡◌, sym, ◌∙◌}
use mathlib.Core.Bool.{Bool, ◌&&◌, not}
use mathlib.Core.List.{List, [], ◌∷◌, ◌++◌, map}
use Prim.Native.Nat.{ℕ, suc, ◌*◌, ◌≤◌, ◌<◌}
use native.Mathlib.Omega.{arith}
use lib.ListN.{length, drop}
use Rattle.rules.specs.declared.Head.{Head}
use Rattle.rules.specs.declared.Refusal.TheVariants.{Short}
use Rattle.rules.specs.Notation.{◌<?◌, flat}
use Rattle.rules.specs.Tables.{blank, last_generation, State, state_of, elem_side, shared_side}
use Rattle.rules.specs.Refusals.{said_accepted}
use Rattle.rules.specs.Answers.{leaves, one_value, after}
use Rattle.rules.specs.Slots.{overflows}
use Rattle.rules.specs.Calls.{Ready, step, compress_with}
use Rattle.rules.specs.Compress.{packed, renumbered_in, renumbered, generation_after, live_slots, pair_width, key_pair}
use Rattle.rules.specs.Compress as rule
use Rattle.rules.proofs.Laws.Tests.{le_is, is_true, is_false}
use Rattle.rules.proofs.Laws.Safe.{safe}
use Rattle.ranks.specs.Passes.{Told}
use Rattle.ordered.proofs.Final.{pairs_final}

-- both tables at once, for a caller that hands both over
pub both : (h : Head) (e e' s s' : List ℕ) → e ≡ e' → s ≡ s' → state_of h e s ≡ state_of h e' s'
both h e e' s s' p q = λ i. state_of h (p i) (q i)

module _ (st : State) (lent : List ℕ) (reset : Bool) where
  abbrev need : ℕ
  need = st.head.elems.live * pair_width

  abbrev to : ℕ → State
  to g = renumbered st (live_slots (elem_side st)) (live_slots (shared_side st)) g

  abbrev pairs : ℕ → List ℕ
  pairs g = flat (map (key_pair st (live_slots (elem_side st)) g) (live_slots (elem_side st)))

  pub need_small : Ready st → st.head.elems.live * pair_width ≤ 262144
  need_small R = let s = safe st R in omega (arith, s.elems.pool.live, s.elems.pool.within, s.elems.pool.small)

  pub with_short : length lent < st.head.elems.live * pair_width → after one_value st.head (Err Short) st.elems st.shared lent ≡ step st lent (compress_with reset)
  unfolding rule.compress_with
  with_short h = rw (is_true (length lent <? need) (le_is (suc (length lent)) need) h)

  with_done : st.head.elems.live * pair_width ≤ length lent → (g : ℕ) → g ≡ generation_after reset st.head.generation
      → step st lent (compress_with reset) ≡ leaves (to g).head (to g).elems (to g).shared (pairs g ++ drop (length (pairs g)) lent) (said_accepted (st.head.elems.live ∷ []) (not reset && (st.head.generation == last_generation)))
  unfolding rule.compress_with overflows
  with_done h g e = rw (e, is_false (length lent <? need) (le_is (suc (length lent)) need) (λ l. omega arith))

  head-is : (g : ℕ) (h : Head) → h ≡ record { elems = packed st.head.elems; shared = packed st.head.shared; generation = g; undo = blank } → h ≡ (to g).head
  unfolding renumbered_in
  head-is g h q = q

  pub with_is : Ready st → st.head.elems.live * pair_width ≤ length lent → (g : ℕ) → g ≡ generation_after reset st.head.generation → (e s out : List ℕ) → Told st.elems lent g st.head.elems.extent out
      → state_of st.head e s ≡ state_of st.head (to g).elems (to g).shared
      → (h : Head) → h ≡ record { elems = packed st.head.elems; shared = packed st.head.shared; generation = g; undo = blank } → (over : Bool) → over ≡ (not reset && (st.head.generation == last_generation))
      → after one_value st.head (Ok (record { head = h; answer = st.head.elems.live; over = over })) e s out ≡ step st lent (compress_with reset)
  with_is R room g same e s out T S h q over o =
      (λ i. leaves (head-is g h q i) (S i).elems (S i).shared (pairs_final st R g lent out room T i) (said_accepted (st.head.elems.live ∷ []) (o i)))
      ∙ sym (with_done room g same)
