-- Arrays of four, and the four-key exchange's accepted way.
use Prim.Native.Nat.{ℕ}
use mathlib.Core.Path.{◌≡◌, refl, sym, ap, subst, ◌∙◌}
use mathlib.Core.List.{List, [], ◌∷◌}
use native.Mathlib.Omega.{arith}
use lib.ListN.{length, get_or}
use Rattle.rules.specs.Tables.{header_width, header_at, put, class_of, State}
use Rattle.rules.specs.Exchange.{valued}
use Rattle.rules.specs.declared.Key.{Key}
use Rattle.rules.specs.Refusals.{Outcome}
use Rattle.rules.specs.Calls.{step, exchange}
use Rattle.slots.specs.Asked.{OnLive}
use Rattle.slots.proofs.Live.{live_in, header_in}
use Rattle.exchange.specs.Asked.{Classed}

pub four_is : {A : Type 0} (l : List A) (d : A) → length l ≡ 4 → l ≡ get_or l 0 d ∷ get_or l 1 d ∷ get_or l 2 d ∷ get_or l 3 d ∷ []
four_is [] d h = absurd (omega arith)
four_is (a ∷ []) d h = absurd (omega arith)
four_is (a ∷ b ∷ []) d h = absurd (omega arith)
four_is (a ∷ b ∷ c ∷ []) d h = absurd (omega arith)
four_is (a ∷ b ∷ c ∷ e ∷ []) d h = refl
four_is (a ∷ b ∷ c ∷ e ∷ f ∷ l) d h = absurd (omega arith)

abbrev store : List ℕ → (class value : ℕ) → List ℕ
store s c v = put header_width s c header_at.value v

valued_cons : (s : List ℕ) (a b c d u v w x : ℕ) → valued s (a ∷ b ∷ c ∷ d ∷ []) (u ∷ v ∷ w ∷ x ∷ []) ≡ store (store (store (store s a u) b v) c w) d x
unfolding valued
valued_cons s a b c d u v w x = refl

pub valued_four : (s : List ℕ) (a b c d : ℕ) (vs : List ℕ) → length vs ≡ 4
    → store (store (store (store s a (get_or vs 0 0)) b (get_or vs 1 0)) c (get_or vs 2 0)) d (get_or vs 3 0) ≡ valued s (a ∷ b ∷ c ∷ d ∷ []) vs
valued_four s a b c d vs h =
    subst (λ (l : List ℕ). store (store (store (store s a (get_or vs 0 0)) b (get_or vs 1 0)) c (get_or vs 2 0)) d (get_or vs 3 0) ≡ valued s (a ∷ b ∷ c ∷ d ∷ []) l)
    (sym (four_is vs 0 h)) (sym (valued_cons s a b c d (get_or vs 0 0) (get_or vs 1 0) (get_or vs 2 0) (get_or vs 3 0)))

-- a live slot and its class stand in the tables
pub classed : (st : State) (x : ℕ) → OnLive st x → Classed st.elems st.shared x
classed st x o = record { frame = live_in st x o.safe o.live; header = header_in st x o.safe o.live }

-- the call on four keys is the call on their list
pub of_four : (st : State) (keys : List Key) (values : List ℕ) (d : Key) (o : Outcome) → length keys ≡ 4
    → o ≡ step st [] (exchange (get_or keys 0 d ∷ get_or keys 1 d ∷ get_or keys 2 d ∷ get_or keys 3 d ∷ []) values) → o ≡ step st [] (exchange keys values)
of_four st keys values d o h e = e ∙ ap (λ (ks : List Key). step st [] (exchange ks values)) (sym (four_is keys d h))
