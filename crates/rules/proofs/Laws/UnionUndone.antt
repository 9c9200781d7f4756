-- THE LAWS of undo, call by call: after an accepted union it gives back the state before it, exactly; the same union can then be made again, with the same answer and state; and no frame is gained or lost.
use Rattle.std.specs.Prelude.{if◌then◌else◌, ◌==◌}
use mathlib.Core.Path.{◌≡◌, refl, sym, ap, ◌∙◌}
use mathlib.Core.Logic.{◌≢◌}
use mathlib.Core.Bool.{◌&&◌, ◌||◌, not}
use mathlib.Core.List.{List, []}
use Prim.Native.Nat.{ℕ}
use native.Mathlib.Omega.{arith}
use Rattle.rules.specs.declared.Pool.{Pool}
use Rattle.rules.specs.declared.Key.{Key}
use Rattle.rules.specs.declared.Memory.{Memory}
use Rattle.rules.specs.declared.Cause.TheVariants.{NoSlot, FreeSlot, OtherGeneration}
use Rattle.std.specs.Prelude.{Result, Ok, Err}
use Rattle.rules.specs.declared.Cause.{Cause}
use Rattle.rules.specs.Notation.{◌≤?◌, ◌<?◌}
use Rattle.rules.specs.Tables
use Rattle.rules.specs.Tables.{State, with_undo, forgetting, generation_of, payload_of, bytes_of, elem_side, found}
use Rattle.rules.specs.Refusals.{Ruling, refuse, accept, answer, Outcome, outcome}
use Rattle.rules.specs.Slots.{free_shared}
use Rattle.rules.specs.Runs
use Rattle.rules.specs.Runs.{joined, remembered}
use Rattle.rules.specs.Undo
use Rattle.rules.specs.Undo.{taken_back, Remembers}
use Rattle.rules.specs.Keeping.{Joins, Then, Accepted, joins}
use Rattle.rules.specs.Calls.{union, undo, ruling, step, Ready}
use Rattle.rules.proofs.Laws.Sides.{live_of}
use Rattle.rules.proofs.Laws.Tests.{eq_is, is_false}
use Rattle.rules.proofs.Laws.Working.{View}
use Rattle.rules.proofs.Laws.Cut.{split_v}
use Rattle.rules.proofs.Laws.Traced.{Traced, undo-union, back_view}
use Rattle.rules.proofs.Laws.Undone.{traced_memory}
use Rattle.rules.proofs.Laws.Dropped.{memory_then}
use Rattle.rules.proofs.Laws.DemandThree.{not-accepted}

-- an accepted union is one of two live slots
module _ (st : State) (R : Ready st) (lent : List ℕ) (j k : Key) where
  joins_of : (step st lent (union j k)).said.number ≡ 0 → Joins st (step st lent (union j k)).state
  joins_of = go (ruling st lent (union j k)) (memory_then st R lent (union j k))
    where
      go : (r : Ruling) → Accepted (Then joins st) r → (outcome st lent r).said.number ≡ 0 → Joins st (outcome st lent r).state
      go (refuse r) t e = absurd (not-accepted r e)
      go (accept values over after places) t e = t

-- undo there gives back the state before
undo-joined : (st : State) → Ready st → (lent : List ℕ) (st' : State) → Joins st st' → step st' lent undo ≡ outcome st' lent (answer [] (forgetting st))
unfolding Undo.undo
undo-joined st R lent st' J =
    let hx = live_of (elem_side st) J.x J.frame-x in
    let hy = live_of (elem_side st) J.y J.frame-y in
    let n : J.x ≢ 0 = omega (arith, hx.low) in
    rw (J.now, is_false (J.x == 0) (eq_is J.x 0) n, undo-union st R J.x J.y hx.used hy.used J.apart J.unsealed-x J.unsealed-y J.small)

-- a union does not see what the head remembers
union_blind : (st : State) (m : Memory) (j k : Key) → Runs.union (with_undo st m) j k ≡ Runs.union st j k
unfolding Runs.union Runs.keeping Runs.joined free_shared found Tables.cause Tables.is_live Tables.is_free
union_blind st m j k = refl

module _ (st : State) (R : Ready st) (lent : List ℕ) (j k : Key) (e : (step st lent (union j k)).said.number ≡ 0) where
  abbrev first : Outcome
  first = step st lent (union j k)

  abbrev back : Outcome
  back = step first.state lent undo

  pub union_undone : back ≡ outcome first.state lent (answer [] (forgetting st))
  union_undone = undo-joined st R lent first.state (joins_of st R lent j k e)

  -- with nothing to undo before it, it is that state itself
  pub union_undone_same : st.head.undo ≡ Tables.blank → back.state ≡ st
  union_undone_same b = ap (λ (o : Outcome). o.state) union_undone ∙ ap (λ (m : Memory). with_undo st m) (sym b)

  -- the same union again: the same answer, state and lent buffer
  pub union-again : step back.state lent (union j k) ≡ first
  union-again = rw union_undone (ap (λ (r : Ruling). outcome (forgetting st) lent r) (union_blind st Tables.blank j k) ∙ same (Runs.union st j k) e)
    where
      same : (r : Ruling) → (outcome st lent r).said.number ≡ 0 → outcome (forgetting st) lent r ≡ outcome st lent r
      same (refuse r) q = absurd (not-accepted r q)
      same (accept values over after places) q = refl

-- ---- no frame is gained or lost

-- what looking up a key reads
abbrev found_by : Pool → (generations : ℕ → ℕ) → Key → Result ℕ Cause
found_by p g k =
    if (1 ≤? k.slot) && (k.slot ≤? p.extent) && not (g k.slot == 0) && (g k.slot == k.generation) then Ok k.slot else
    Err (if (k.slot == 0) || (p.extent <? k.slot) then NoSlot else if (1 ≤? k.slot) && (k.slot ≤? p.extent) && (g k.slot == 0) then FreeSlot else OtherGeneration)

found-by : (st : State) (k : Key) → found st k ≡ found_by st.head.elems (generation_of st.elems) k
unfolding found Tables.cause Tables.is_live Tables.is_free
found-by st k = refl

pub record SameFrames (st st' : State) : Type 0 where
  pub pool : st'.head.elems ≡ st.head.elems
  pub found : (k : Key) → Tables.found st' k ≡ Tables.found st k
  pub payload : (s : ℕ) → payload_of st'.elems s ≡ payload_of st.elems s
  pub bytes : (s : ℕ) → bytes_of st'.elems s ≡ bytes_of st.elems s

pub undo-frames : (st : State) → Ready st → Remembers st → st.head.undo.kept ≢ 0 → SameFrames st (taken_back st)
unfolding taken_back split_v
undo-frames st R M n =
    let t : Traced st = traced_memory st R M n in
    let e = back_view st R t in
    record {
      pool = refl;
      found = λ k. found-by (taken_back st) k ∙ ap (λ (v : View). found_by st.head.elems v.gen k) e ∙ sym (found-by st k);
      payload = λ s. ap (λ (v : View). v.pay s) e;
      bytes = λ s. ap (λ (v : View). v.bytes s) e;
    }
