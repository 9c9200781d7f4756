-- Ticket 4: where new run or insert needs a slot and the number's turn comes, 5 is given exactly when no element slot up to the capacity is free, and 6 exactly when no shared slot is.
use Prim.Native.Nat.{ℕ}
use mathlib.Core.Path.{◌≡◌}
use mathlib.Core.Logic.{◌↔◌}
use mathlib.Core.Bool.{Bool, true, false}
use mathlib.Core.List.{List}
use lib.Dec.{T}
use Rattle.rules.specs.declared.Key.{Key}
use Rattle.rules.specs.declared.Refusal.TheVariants.{NoElement, NoShared}
use Rattle.rules.specs.Tables.{State, elem_side, shared_side}
use Rattle.rules.specs.Undo.{Whole}
use Rattle.rules.specs.Refusals.{Outcome, shaped}
use Rattle.rules.specs.Calls.{Call, new_run, insert, Is, AtDoor}
use Rattle.rules.specs.Exact.{asks, NoneFree, Turn}
use Rattle.rules.proofs.Laws.Vacant.{full_exactly}
use Rattle.rules.proofs.Exactly.{exactly_5, exactly_6}

-- past 1 and 2 the state is sound
module _ (st : State) (lent : List ℕ) (c : Call) (o : Outcome) (d : AtDoor st lent c o) where
  sound_then : (shaped st ≡ false → ⊥) → ((Whole st → ⊥) → ⊥) → Whole st
  sound_then fits sound = go d.sound (d.decided (not-false (shaped st) fits))
    where
      not-false : (b : Bool) → (b ≡ false → ⊥) → b ≡ true
      not-false true n = cc
      not-false false n = absurd (n cc)

      go : (b : Bool) → Is (Whole st) b → Whole st
      go true s = s
      go false n = absurd (sound n)

  -- of any call that needs the slot
  pub no_element_exactly : T (asks st c).element → Turn st lent c NoElement → (o.said.number ≡ 5) ↔ NoneFree (elem_side st)
  no_element_exactly a t =
      let e = exactly_5 st lent c o d in
      let f = (full_exactly st (sound_then t.0 t.1.0).0).0 in
      ((λ n. f.0 (e.0 n).0.1), λ n. e.1 ((a, f.1 n), t))

  pub no_shared_exactly : T (asks st c).shared → Turn st lent c NoShared → (o.said.number ≡ 6) ↔ NoneFree (shared_side st)
  no_shared_exactly a t =
      let e = exactly_6 st lent c o d in
      let f = (full_exactly st (sound_then t.0 t.1.0).0).1 in
      ((λ n. f.0 (e.0 n).0.1), λ n. e.1 ((a, f.1 n), t))

module _ (st : State) (lent : List ℕ) (o : Outcome) where
  pub new_run-5 : (payload value size : ℕ) → AtDoor st lent (new_run payload value size) o → Turn st lent (new_run payload value size) NoElement → (o.said.number ≡ 5) ↔ NoneFree (elem_side st)
  new_run-5 payload value size d = no_element_exactly st lent (new_run payload value size) o d tt

  pub new_run-6 : (payload value size : ℕ) → AtDoor st lent (new_run payload value size) o → Turn st lent (new_run payload value size) NoShared → (o.said.number ≡ 6) ↔ NoneFree (shared_side st)
  new_run-6 payload value size d = no_shared_exactly st lent (new_run payload value size) o d tt

  pub insert_5 : (k : Key) (payload size : ℕ) → AtDoor st lent (insert k payload size) o → Turn st lent (insert k payload size) NoElement → (o.said.number ≡ 5) ↔ NoneFree (elem_side st)
  insert_5 k payload size d = no_element_exactly st lent (insert k payload size) o d tt
