-- Ticket 6: the sizes that a history has are those of the live frames.
use Rattle.std.specs.Prelude.{if◌then◌else◌}
use mathlib.Core.Path.{◌≡◌, refl, sym, ap, ◌∙◌, subst}
use mathlib.Core.Logic.{◌≢◌}
use mathlib.Core.Bool.{Bool, true, false}
use mathlib.Core.List.{List, [], ◌∷◌, map}
use Prim.Native.Nat.{ℕ, zero, suc}
use native.Mathlib.Omega.{arith}
use native.Mathlib.Decide.{ℕ_discrete}
use Rattle.rules.specs.declared.Key.{Key}
use Rattle.rules.specs.Notation.{along, sum, flat}
use Rattle.rules.specs.Calls.{Is}
use Rattle.rules.specs.History.{Given, same_key, holds, still_given, given_for, named_anew}
use Rattle.rules.proofs.Laws.Lists.{All, In, all_map, all-at, all_of}
use Rattle.rules.proofs.Laws.Sums.{keep_of}
use Rattle.rules.proofs.Laws.Tests.{is_T, is-told}
use Rattle.rules.proofs.Laws.Keys.{same-is, holds-is}
use Rattle.rules.proofs.Laws.Working.{View}
use Rattle.rules.proofs.Laws.Rep.{key_at, next_key, LiveKey, Rep, key_live, held}
use Rattle.rules.proofs.Laws.Steady.{Fewer}
use Rattle.rules.proofs.Laws.Seals.{fewer-live, keep-keep}

pub record Givens (v : View) (gs : List Given) : Type 0 where
  pub live : All (λ g. LiveKey v g.key) gs
  pub given : (k : Key) → LiveKey v k → v.bytes k.slot ≡ given_for k gs

-- twice some are taken out
pub given_still_still : (rs qs : List (List Key)) (gs : List Given) → ((k : Key) → In k (flat qs) → In k (flat rs)) → still_given qs (still_given rs gs) ≡ still_given qs gs
given_still_still rs qs gs f = keep-keep (λ g. holds g.key (flat qs)) (λ g. holds g.key (flat rs)) (λ g t. is-told (holds g.key (flat rs)) (holds-is g.key (flat rs)) (f g.key (is_T (holds g.key (flat qs)) (holds-is g.key (flat qs)) t))) gs

-- the sizes of those that stay
given-still : (rs : List (List Key)) (k : Key) → In k (flat rs) → (gs : List Given) → given_for k gs ≡ given_for k (still_given rs gs)
given-still rs k m [] = refl
given-still rs k m (g ∷ gs) = go (same_key k g.key) (same-is k g.key) refl (holds g.key (flat rs)) (holds-is g.key (flat rs)) (given-still rs k m gs)
  where
    go : (b : Bool) → Is (k ≡ g.key) b → same_key k g.key ≡ b → (c : Bool) → Is (In g.key (flat rs)) c → given_for k gs ≡ given_for k (still_given rs gs)
        → (if b then g.bytes else given_for k gs) ≡ given_for k (if c then g ∷ still_given rs gs else still_given rs gs)
    go true e q true i r = rw q
    go true e q false i r = absurd (i (subst (λ (j : Key). In j (flat rs)) e m))
    go false e q true i r = rw q r
    go false e q false i r = r

module _ (v v' : View) where
  -- frames are taken out
  pub givens_fewer : Fewer v v' → (rs : List (List Key)) → Rep v' rs → (gs : List Given) → Givens v gs → Givens v' (still_given rs gs)
  givens_fewer F rs R gs G = record {
    live = all_of (λ g. LiveKey v' g.key) (still_given rs gs) (λ g m. all-at (LiveKey v') g.key (flat rs) R.live (is_T (holds g.key (flat rs)) (holds-is g.key (flat rs)) (keep_of (λ g. holds g.key (flat rs)) g gs m).1));
    given = λ k l. F.bytes k.slot l.live ∙ G.given k (fewer-live v v' F k l) ∙ given-still rs k (held v' rs k R l) gs;
  }

  -- the same frames
  pub givens_same : v'.gen ≡ v.gen → v'.bytes ≡ v.bytes → (gs : List Given) → Givens v gs → Givens v' gs
  givens_same e f gs G = record {
    live = all_map (λ g l. record { live = rw e l.live; gen = rw e l.gen }) gs G.live;
    given = λ k l. ap (λ (b : ℕ → ℕ). b k.slot) f ∙ G.given k (record { live = rw e at l.live; gen = rw e at l.gen });
  }

  -- a frame is put in at the slot `i`
  pub givens_put : (i z : ℕ) → v.gen i ≡ 0 → v'.gen i ≢ 0 → v'.bytes i ≡ z → ((s : ℕ) → s ≢ i → (v'.gen s ≡ v.gen s) × (v'.bytes s ≡ v.bytes s)) → (gs : List Given) → Givens v gs
      → Givens v' (record { key = key_at v' i; bytes = z } ∷ gs)
  givens_put i z free new size off gs G = record {
    live = (record { live = new; gen = refl }, all_map (λ g l. stays g.key l) gs G.live);
    given = λ k l. given k l (ℕ_discrete k.slot i) (same_key k (key_at v' i)) (same-is k (key_at v' i));
  }
    where
      stays : (k : Key) → LiveKey v k → LiveKey v' k
      stays k l = let o = off k.slot (λ e. l.live (ap v.gen e ∙ free)) in record { live = rw o.0 l.live; gen = o.0 ∙ l.gen }

      given : (k : Key) → LiveKey v' k → Dec (k.slot ≡ i) → (b : Bool) → Is (k ≡ key_at v' i) b → v'.bytes k.slot ≡ (if b then z else given_for k gs)
      given k l (yes e) true q = ap v'.bytes e ∙ size
      given k l (yes e) false q = absurd (q (sym (key_live v' k l) ∙ ap (key_at v') e))
      given k l (no e) true q = absurd (e (ap (λ (j : Key). j.slot) q))
      given k l (no e) false q = let o = off k.slot e in o.1 ∙ G.given k (record { live = rw o.0 at l.live; gen = sym o.0 ∙ l.gen })

-- none is live
pub givens_none : (v : View) → ((s : ℕ) → v.gen s ≡ 0) → (gs : List Given) → Givens v (still_given [] gs)
givens_none v z gs = record { live = all_of (λ g. LiveKey v g.key) (still_given [] gs) (λ g m. absurd (keep_of (λ g. holds g.key []) g gs m).1); given = λ k l. absurd (l.live (z k.slot)) }

-- keys are named anew, live ones apart
module _ (P : Key → Type 0) (new : Key → Key) (apart : (j k : Key) → P j → P k → new j ≡ new k → j ≡ k) where
  pub given-renamed : (j : Key) → P j → (gs : List Given) → All (λ g. P g.key) gs → given_for (new j) (map (named_anew new) gs) ≡ given_for j gs
  given-renamed j p [] h = refl
  given-renamed j p (g ∷ gs) h = go (same_key j g.key) (same-is j g.key) (same_key (new j) (new g.key)) (same-is (new j) (new g.key)) (given-renamed j p gs h.1)
    where
      go : (b : Bool) → Is (j ≡ g.key) b → (c : Bool) → Is (new j ≡ new g.key) c → given_for (new j) (map (named_anew new) gs) ≡ given_for j gs
          → (if c then g.bytes else given_for (new j) (map (named_anew new) gs)) ≡ (if b then g.bytes else given_for j gs)
      go true e true f r = refl
      go true e false f r = absurd (f (ap new e))
      go false e true f r = absurd (e (apart j g.key p h.0 f))
      go false e false f r = r

-- two ways to name keys that agree on some of them
pub given-live : (P : Key → Type 0) (f g : Key → Key) (gs : List Given) → ((k : Key) → P k → f k ≡ g k) → All (λ x. P x.key) gs → map (named_anew f) gs ≡ map (named_anew g) gs
given-live P f g [] e a = refl
given-live P f g (x ∷ xs) e a = rw (e x.key a.0, given-live P f g xs e a.1)

-- a sum along the keys of a ring, and along its slots
pub slots-sum : (v : View) (b : ℕ → ℕ) (n : ℕ) (k : Key) → sum (map (λ j. b j.slot) (along (next_key v) n k)) ≡ sum (map b (along v.next n k.slot))
slots-sum v b zero k = refl
slots-sum v b (suc n) k = omega (arith, slots-sum v b n (next_key v k))
