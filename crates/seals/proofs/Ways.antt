-- Seal, by its four ways.
use Prim.Native.Nat.{ℕ, suc, ◌*◌, ◌≤◌, ◌<◌}
use mathlib.Core.Path.{◌≡◌, refl}
use mathlib.Core.Bool.{true, false}
use mathlib.Core.List.{List, [], ◌∷◌}
use native.Mathlib.Omega.{arith}
use borrow.Author.Tests.{le-leb, lt-leb}
use lib.ListN.{length}
use lib.Seq.{sets}
use Rattle.rules.specs.declared.Key.{Key}
use Rattle.std.specs.Prelude.{Ok, Err}
use Rattle.rules.specs.declared.Cause.{Cause}
use Rattle.rules.specs.declared.Refusal.TheVariants.{Dead, Short, Sealed}
use Rattle.rules.specs.Tables.{header_width, header_at, put, class_of, value_of, State, with_shared, forgetting, found, size_at, is_sealed}
use Rattle.rules.specs.Refusals.{outcome, said_accepted, refuse}
use Rattle.rules.specs.Seals.{seal_width, sealed, seal}
use Rattle.rules.specs.Calls.{step}
use Rattle.rules.specs.Calls as calls
use Rattle.rings.specs.Answered.{places_along}
use Rattle.rings.proofs.Written.{written_all}
use Rattle.rings.proofs.Listing.{places_long}
use Rattle.seals.specs.Answered.{frame_place}

module _ (st : State) (lent : List ℕ) (k : Key) where
  pub seal_3 : {cause : Cause} → found st k ≡ Err cause → outcome st lent (refuse (Dead cause)) ≡ step st lent (calls.seal k)
  unfolding seal
  seal_3 p = simp p

  module _ (x : ℕ) (live : found st k ≡ Ok x) where
    pub seal_12 : is_sealed st x ≡ true → outcome st lent (refuse Sealed) ≡ step st lent (calls.seal k)
    unfolding seal
    seal_12 s = simp (live, s)

    pub seal_7 : is_sealed st x ≡ false → length lent < size_at st x * seal_width → outcome st lent (refuse Short) ≡ step st lent (calls.seal k)
    unfolding seal
    seal_7 s l = simp (live, s, le-leb _ _ l)

    pub seal-done : (value : ℕ) (shared out : List ℕ) → is_sealed st x ≡ false → size_at st x * seal_width ≤ length lent
        → value ≡ value_of st.shared (class_of st.elems x) → shared ≡ put header_width st.shared (class_of st.elems x) header_at.mark 1
        → out ≡ sets lent 0 (places_along (frame_place st.elems) st.elems (size_at st x) x)
        → record { said = said_accepted (value ∷ size_at st x ∷ []) false; state = forgetting (with_shared st shared); lent = out } ≡ step st lent (calls.seal k)
    unfolding seal sealed
    seal-done value shared out s l v m e =
        let places = places_along (frame_place st.elems) st.elems (size_at st x) x in
        let long = places_long seal_width (frame_place st.elems) (λ z. refl) st.elems (size_at st x) x in
        let fits : size_at st x * seal_width < suc (length lent) = omega arith in
        simp (live, s, lt-leb _ _ fits) (rw (v, m, e, written_all places lent (omega (arith, long))))
