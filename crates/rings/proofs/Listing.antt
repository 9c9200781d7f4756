-- List: the places written so far, and the call's ways.
use Prim.Native.Nat.{ℕ, zero, suc, ◌+◌, ◌*◌, ◌≤◌, ◌<◌}
use mathlib.Core.Path.{◌≡◌, refl, sym, ap, ◌∙◌}
use mathlib.Core.Bool.{false}
use mathlib.Core.List.{List, [], ◌∷◌, ◌++◌}
use native.Mathlib.Nat.{mul-le-mul_right}
use native.Mathlib.Omega.{arith}
use lib.ListN.{length}
use lib.Seq.{sets}
use Rattle.rules.specs.declared.Key.{Key}
use Rattle.std.specs.Prelude.{Ok, Err}
use Rattle.rules.specs.declared.Cause.{Cause}
use Rattle.rules.specs.declared.Refusal.TheVariants.{Dead, Short}
use Rattle.std.proofs.Common.{add-one}
use Rattle.std.proofs.lemmas.List.{append-nil, append_assoc}
use Rattle.rules.specs.Notation.{steps, along}
use Rattle.rules.specs.Tables.{next_of, row, State, found, size_at}
use Rattle.rules.specs.Refusals.{outcome, said_accepted, refuse}
use Rattle.rules.specs.Drains.{key_width, list}
use Rattle.rules.specs.Calls.{step}
use Rattle.rules.specs.Calls as calls
use Rattle.rules.proofs.Laws.Steps.{length-along}
use Rattle.rules.proofs.Laws.Places.{length_rows}
use Rattle.slots.specs.Asked.{Within}
use Rattle.rings.specs.Answered.{places_along, key_place, keys_along}
use Rattle.rings.proofs.Written.{sets_append, written_row}
use Rattle.rings.proofs.Ways.{written_3, written_7, written-done}

-- ---- places of `w` numbers, written one after another along next: those of a list, and of a seal
pub places_long : (w : ℕ) (place : ℕ → List ℕ) → ((s : ℕ) → length (place s) ≡ w) → (e : List ℕ) (n x : ℕ) → length (places_along place e n x) ≡ n * w
places_long w place wide e n x = length_rows w place wide (along (next_of e) n x) ∙ ap (λ (k : ℕ). k * w) (length-along (next_of e) n x)

-- one more place is that of the slot the steps lead to
places_more : (place : ℕ → List ℕ) (e : List ℕ) (k x : ℕ) → places_along place e (suc k) x ≡ places_along place e k x ++ place (steps (next_of e) k x)
places_more place e zero x = append-nil (place x)
places_more place e (suc k) x = ap (λ (vs : List ℕ). place x ++ vs) (places_more place e k (next_of e x)) ∙ sym (append_assoc (place x) (places_along place e k (next_of e x)) (place (steps (next_of e) k (next_of e x))))

-- a place more has room, and is written after the others
pub place_next : (w n k : ℕ) (t out : List ℕ) → length out ≡ length t → n * w ≤ length t → k < n → Within w out (k + 1)
place_next w n k t out l r h =
    let m : (k + 1) * w ≤ n * w = mul-le-mul_right w (omega arith) in
    record { some = omega arith; inside = omega arith }

pub places_next : (w : ℕ) (place : ℕ → List ℕ) → ((s : ℕ) → length (place s) ≡ w) → (e t : List ℕ) (x k : ℕ)
    → row w (sets t 0 (places_along place e k x)) (k + 1) (place (steps (next_of e) k x)) ≡ sets t 0 (places_along place e (k + 1) x)
places_next w place wide e t x k =
    let vs = places_along place e k x in
    let v = place (steps (next_of e) k x) in
    let long : k * w ≡ 0 + length vs = omega (arith, places_long w place wide e k x) in
    written_row w (sets t 0 vs) k v ∙ rw (long, add-one, places_more place e k x) (sym (sets_append vs v t 0))

-- list, by its three ways
module _ (st : State) (lent : List ℕ) (k : Key) where
  pub list_3 : {cause : Cause} → found st k ≡ Err cause → outcome st lent (refuse (Dead cause)) ≡ step st lent (calls.list k)
  unfolding list
  list_3 = written_3 st lent k key_width (λ x. st) (λ x. keys_along st.elems (size_at st x) x)

  module _ (x : ℕ) (live : found st k ≡ Ok x) where
    pub list_7 : length lent < size_at st x * key_width → outcome st lent (refuse Short) ≡ step st lent (calls.list k)
    unfolding list
    list_7 = written_7 st lent k key_width (λ x. st) (λ x. keys_along st.elems (size_at st x) x) x live

    pub list_done : (out : List ℕ) → size_at st x * key_width ≤ length lent → out ≡ sets lent 0 (keys_along st.elems (size_at st x) x)
        → record { said = said_accepted (size_at st x ∷ []) false; state = st; lent = out } ≡ step st lent (calls.list k)
    unfolding list
    list_done out l e = written-done st lent k key_width (λ x. st) (λ x. keys_along st.elems (size_at st x) x) x st out live l (places_long key_width (key_place st.elems) (λ s. refl) st.elems (size_at st x) x) refl e
