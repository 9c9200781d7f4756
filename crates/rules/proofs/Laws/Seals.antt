-- Ticket 1: the keys that a history calls sealed are those of the live frames whose header is marked.
use Rattle.std.specs.Prelude.{if◌then◌else◌}
use mathlib.Core.Path.{◌≡◌, refl, sym, ap, ◌∙◌}
use mathlib.Core.Bool.{Bool, true, false}
use mathlib.Core.List.{List, [], ◌∷◌}
use Prim.Native.Nat.{ℕ}
use native.Mathlib.Omega.{arith}
use native.Mathlib.Decide.{ℕ_discrete}
use lib.Dec.{T}
use Rattle.rules.specs.declared.Key.{Key}
use Rattle.rules.specs.Notation.{flat, keep}
use Rattle.rules.specs.Calls.{Is}
use Rattle.rules.specs.History.{holds, still_in}
use Rattle.rules.proofs.Laws.Lists.{All, In, all_map, all-at, all_of}
use Rattle.rules.proofs.Laws.Sums.{keep_in, keep_of}
use Rattle.rules.proofs.Laws.Tests.{is_true, is_false, is_T, is-told}
use Rattle.rules.proofs.Laws.Keys.{holds-is}
use Rattle.rules.proofs.Laws.Working.{View}
use Rattle.rules.proofs.Laws.Rep.{LiveKey, Rep, held}
use Rattle.rules.proofs.Laws.Steady.{mark_at, Fewer, Steady}

-- 1 for a key of the list
abbrev pub flag : Key → List Key → ℕ
flag k ss = if holds k ss then 1 else 0

pub flag_in : (k : Key) (ss : List Key) → In k ss → flag k ss ≡ 1
flag_in k ss m = ap (λ (b : Bool). if b then 1 else 0) (is_true (holds k ss) (holds-is k ss) m)

pub flag-out : (k : Key) (ss : List Key) → (In k ss → ⊥) → flag k ss ≡ 0
flag-out k ss n = ap (λ (b : Bool). if b then 1 else 0) (is_false (holds k ss) (holds-is k ss) n)

pub flag_one : (k : Key) (ss : List Key) → flag k ss ≡ 1 → In k ss
flag_one k ss e = go (holds k ss) (holds-is k ss) e
  where
    go : (b : Bool) → Is (In k ss) b → ◌≡◌ {A = ℕ} (if b then 1 else 0) 1 → In k ss
    go true m q = m
    go false m q = absurd (omega (arith, q))

-- one key is in one list exactly if another is in another
pub flag-both : (j k : Key) (ss ts : List Key) → (In j ss → In k ts) → (In k ts → In j ss) → flag j ss ≡ flag k ts
flag-both j k ss ts f g = go (holds j ss) (holds-is j ss)
  where
    go : (b : Bool) → Is (In j ss) b → (if b then 1 else 0) ≡ flag k ts
    go true m = sym (flag_in k ts (f m))
    go false m = sym (flag-out k ts (λ i. m (g i)))

pub flag_same : (k : Key) (ss ts : List Key) → (In k ss → In k ts) → (In k ts → In k ss) → flag k ss ≡ flag k ts
flag_same k = flag-both k k

pub record Seals (v : View) (ss : List Key) : Type 0 where
  pub live : All (LiveKey v) ss
  pub marked : (k : Key) → LiveKey v k → mark_at v k.slot ≡ flag k ss

-- those still in the runs
module _ (rs : List (List Key)) (ss : List Key) (k : Key) where
  pub still_in_lem : In k (flat rs) → In k ss → In k (still_in rs ss)
  still_in_lem m i = keep_in (λ j. holds j (flat rs)) k ss i (is-told (holds k (flat rs)) (holds-is k (flat rs)) m)

  pub still_of : In k (still_in rs ss) → In k ss × In k (flat rs)
  still_of m = let t = keep_of (λ j. holds j (flat rs)) k ss m in (t.0, is_T (holds k (flat rs)) (holds-is k (flat rs)) t.1)

pub keep-keep : {A : Type 0} (p q : A → Bool) → ((x : A) → T (p x) → T (q x)) → (ss : List A) → keep p (keep q ss) ≡ keep p ss
keep-keep p q f [] = refl
keep-keep p q f (s ∷ ss) = go (q s) (p s) (f s) refl (keep-keep p q f ss)
  where
    first : (c : Bool) → keep p (keep q ss) ≡ keep p ss → (if c then s ∷ keep p (keep q ss) else keep p (keep q ss)) ≡ (if c then s ∷ keep p ss else keep p ss)
    first c e = rw e

    go : (b c : Bool) → (T c → T b) → p s ≡ c → keep p (keep q ss) ≡ keep p ss → keep p (if b then s ∷ keep q ss else keep q ss) ≡ (if c then s ∷ keep p ss else keep p ss)
    go true c t z e = rw z (first c e)
    go false true t z e = absurd (t tt)
    go false false t z e = e

-- twice some are taken out
pub still-still : (rs qs : List (List Key)) (ss : List Key) → ((k : Key) → In k (flat qs) → In k (flat rs)) → still_in qs (still_in rs ss) ≡ still_in qs ss
still-still rs qs ss f = keep-keep (λ k. holds k (flat qs)) (λ k. holds k (flat rs)) (λ k t. is-told (holds k (flat rs)) (holds-is k (flat rs)) (f k (is_T (holds k (flat qs)) (holds-is k (flat qs)) t))) ss

module _ (v v' : View) where
  -- frames are taken out
  pub fewer-live : Fewer v v' → (k : Key) → LiveKey v' k → LiveKey v k
  fewer-live F k l = let e = F.gen k.slot l.live in record { live = rw e at l.live; gen = sym e ∙ l.gen }

  pub seals_fewer : Fewer v v' → (rs : List (List Key)) → Rep v' rs → (ss : List Key) → Seals v ss → Seals v' (still_in rs ss)
  seals_fewer F rs R ss S = record {
    live = all_of (LiveKey v') (still_in rs ss) (λ k m. all-at (LiveKey v') k (flat rs) R.live (still_of rs ss k m).1);
    marked = λ k l.
        ap v'.mark (F.class k.slot l.live) ∙ F.mark k.slot l.live ∙ S.marked k (fewer-live F k l)
        ∙ flag_same k ss (still_in rs ss) (still_in_lem rs ss k (held v' rs k R l)) (λ m. (still_of rs ss k m).0);
  }

  -- or put in, or stay
  pub steady_live : Steady v v' → (k : Key) → LiveKey v k → LiveKey v' k
  steady_live F k l = let e = F.stays k.slot l.live in record { live = rw e l.live; gen = e ∙ l.gen }

  pub seals_steady : Steady v v' → (ss : List Key) → Seals v ss → Seals v' ss
  seals_steady F ss S = record {
    live = all_map (steady_live F) ss S.live;
    marked = λ k l. marked k l (ℕ_discrete (v.gen k.slot) 0);
  }
    where
      marked : (k : Key) → LiveKey v' k → Dec (v.gen k.slot ≡ 0) → mark_at v' k.slot ≡ flag k ss
      marked k l (yes z) = F.new k.slot z l.live ∙ sym (flag-out k ss (λ m. (all-at (LiveKey v) k ss S.live m).live z))
      marked k l (no n) = F.mark k.slot n ∙ S.marked k (record { live = n; gen = sym (F.stays k.slot n) ∙ l.gen })

-- none is live
pub seals_none : (v : View) → ((s : ℕ) → v.gen s ≡ 0) → (ss : List Key) → Seals v (still_in [] ss)
seals_none v z ss = record { live = all_of (LiveKey v) (still_in [] ss) (λ k m. absurd (still_of [] ss k m).1); marked = λ k l. absurd (l.live (z k.slot)) }
