-- One history, written in two ways: the runs in another order, each begun anywhere. The run of a key comes to the front.
use Rattle.std.specs.Prelude.{if◌then◌else◌}
use mathlib.Core.Path.{◌≡◌, refl, sym, ap, ◌∙◌}
use mathlib.Core.Logic.{◌≢◌, ◌⊎◌, inl, inr}
use mathlib.Core.Bool.{Bool, true, false, not}
use mathlib.Core.List.{List, [], ◌∷◌, ◌++◌, append_assoc}
use Prim.Native.Nat.{ℕ, suc, ◌+◌}
use native.Mathlib.Omega.{arith}
use lib.ListN.{length, length-append}
use Rattle.rules.specs.declared.Key.{Key}
use Rattle.rules.specs.Notation.{flat}
use Rattle.rules.specs.Calls.{Is}
use Rattle.rules.specs.History.{before, after, holds, others_of, run_of, runs_but}
use Rattle.rules.proofs.Laws.Lists.{All, In, Out, NoDup, all_map, all-at, all_of, in_left, in_right, in_parts, in_swap, nodup_parts, nodup_append, nodup_swap, out-not}
use Rattle.rules.proofs.Laws.Keys.{holds-is, cut_at}

pub data Same : List (List Key) → List (List Key) → Type 0 where
  same : {h : List (List Key)} → Same h h
  turn : {h : List (List Key)} (p : List Key) (k : Key) (q : List Key) → Same ((p ++ k ∷ q) ∷ h) ((k ∷ (q ++ p)) ∷ h)
  swap : {r s : List Key} {h : List (List Key)} → Same (r ∷ s ∷ h) (s ∷ r ∷ h)
  under : {r : List Key} {h g : List (List Key)} → Same h g → Same (r ∷ h) (r ∷ g)
  via : {h g f : List (List Key)} → Same h g → Same g f → Same h f

pub same-all : (C : List Key → Type 0) → ((p : List Key) (k : Key) (q : List Key) → C (p ++ k ∷ q) → C (k ∷ (q ++ p))) → {h g : List (List Key)} → Same h g → All C h → All C g
same-all C t same a = a
same-all C t (turn p k q) a = (t p k q a.0, a.1)
same-all C t swap a = (a.1.0, (a.0, a.1.1))
same-all C t (under s) a = (a.0, same-all C t s a.1)
same-all C t (via s u) a = same-all C t u (same-all C t s a)

in_under : (x : Key) (r : List Key) (h g : List Key) → (In x h → In x g) → In x (r ++ h) → In x (r ++ g)
in_under x r h g f m = go (in_parts x r h m)
  where
    go : In x r ⊎ In x h → In x (r ++ g)
    go (inl k) = in_left x r g k
    go (inr k) = in_right x r g (f k)

pub in_over : (x : Key) (r s : List Key) (h : List Key) → (In x r → In x s) → In x (r ++ h) → In x (s ++ h)
in_over x r s h f m = go (in_parts x r h m)
  where
    go : In x r ⊎ In x h → In x (s ++ h)
    go (inl k) = in_left x s h (f k)
    go (inr k) = in_right x s h k

pub same_in : (x : Key) {h g : List (List Key)} → Same h g → In x (flat h) → In x (flat g)
same_in x same m = m
same_in x (turn {h = h} p k q) m = in_over x (p ++ k ∷ q) (k ∷ (q ++ p)) (flat h) (in_swap x p (k ∷ q)) m
same_in x (swap {r = r} {s = s} {h = h}) m = rw append_assoc at (in_over x (r ++ s) (s ++ r) (flat h) (in_swap x r s) (rw append_assoc m))
same_in x (under {r = r} {h = h} {g = g} s) m = in_under x r (flat h) (flat g) (λ j. same_in x s j) m
same_in x (via s u) m = same_in x u (same_in x s m)

pub same_back : (x : Key) {h g : List (List Key)} → Same h g → In x (flat g) → In x (flat h)
same_back x same m = m
same_back x (turn {h = h} p k q) m = in_over x (k ∷ (q ++ p)) (p ++ k ∷ q) (flat h) (in_swap x (k ∷ q) p) m
same_back x (swap {r = r} {s = s} {h = h}) m = rw append_assoc at (in_over x (s ++ r) (r ++ s) (flat h) (in_swap x s r) (rw append_assoc m))
same_back x (under {r = r} {h = h} {g = g} s) m = in_under x r (flat g) (flat h) (λ j. same_back x s j) m
same_back x (via s u) m = same_back x s (same_back x u m)

pub nodup_over : (r s h : List Key) → ((x : Key) → In x s → In x r) → NoDup s → NoDup (r ++ h) → NoDup (s ++ h)
nodup_over r s h f u d =
    let p = nodup_parts r h d in
    nodup_append s h u p.1 (all_of (λ x. Out x h) s (λ x m. all-at (λ y. Out y h) x r p.2 (f x m)))

nodup_under : (r h g : List Key) → ((x : Key) → In x g → In x h) → NoDup g → NoDup (r ++ h) → NoDup (r ++ g)
nodup_under r h g f u d =
    let p = nodup_parts r h d in
    nodup_append r g p.0 u (all_map (λ x o. all_of (λ y. x ≢ y) g (λ y m. all-at (λ y. x ≢ y) y h o (f y m))) r p.2)

pub same_nodup : {h g : List (List Key)} → Same h g → NoDup (flat h) → NoDup (flat g)
same_nodup same d = d
same_nodup (turn {h = h} p k q) d = nodup_over (p ++ k ∷ q) (k ∷ (q ++ p)) (flat h) (λ x. in_swap x (k ∷ q) p) (nodup_swap p (k ∷ q) (nodup_parts (p ++ k ∷ q) (flat h) d).0) d
same_nodup (swap {r = r} {s = s} {h = h}) d =
    let e : NoDup ((r ++ s) ++ flat h) = rw append_assoc d in
    rw append_assoc at (nodup_over (r ++ s) (s ++ r) (flat h) (λ x. in_swap x s r) (nodup_swap r s (nodup_parts (r ++ s) (flat h) e).0) e)
same_nodup (under {r = r} {h = h} {g = g} s) d = nodup_under r (flat h) (flat g) (λ x j. same_back x s j) (same_nodup s (nodup_parts r (flat h) d).1) d
same_nodup (via s u) d = same_nodup u (same_nodup s d)

pub same_length : {h g : List (List Key)} → Same h g → length (flat h) ≡ length (flat g)
same_length same = refl
same_length (turn {h = h} p k q) = simp length-append (omega arith)
same_length (swap {r = r} {s = s} {h = h}) = simp length-append (omega arith)
same_length (under {r = r} {h = h} {g = g} s) = length-append r (flat h) ∙ ap (λ (n : ℕ). length r + n) (same_length s) ∙ sym (length-append r (flat g))
same_length (via s u) = same_length s ∙ same_length u

-- as many runs
pub same_runs : {h g : List (List Key)} → Same h g → length h ≡ length g
same_runs same = refl
same_runs (turn p k q) = refl
same_runs swap = refl
same_runs (under s) = ap suc (same_runs s)
same_runs (via s u) = same_runs s ∙ same_runs u

-- a key that no run holds
pub runs_but-none : (k : Key) (rs : List (List Key)) → (In k (flat rs) → ⊥) → runs_but k rs ≡ rs
unfolding runs_but
runs_but-none k [] n = refl
runs_but-none k (r ∷ rs) n = go (holds k r) (holds-is k r) (runs_but-none k rs (λ m. n (in_right k r (flat rs) m)))
  where
    go : (b : Bool) → Is (In k r) b → runs_but k rs ≡ rs → (if not b then r ∷ runs_but k rs else runs_but k rs) ≡ r ∷ rs
    go true m e = absurd (n (in_left k r (flat rs) m))
    go false m e = ap {B = List (List Key)} (λ l. r ∷ l) e

-- the run of a key that the history holds, begun at the key, and the other runs
pub fronted : (k : Key) (rs : List (List Key)) → NoDup (flat rs) → In k (flat rs) → Same rs (run_of k rs ∷ runs_but k rs)
unfolding others_of runs_but
fronted k [] d m = elim m [ ]
fronted k (r ∷ rs) d m = go (holds k r) (holds-is k r) (λ i. fronted k rs (nodup_parts r (flat rs) d).1 i)
  where
    elsewhere : (In k r → ⊥) → In k r ⊎ In k (flat rs) → In k (flat rs)
    elsewhere n (inl i) = absurd (n i)
    elsewhere n (inr i) = i

    begun : (p q : List Key) (hs : List (List Key)) → r ≡ p ++ k ∷ q → hs ≡ rs → Same (r ∷ rs) ((k ∷ (q ++ p)) ∷ hs)
    begun p q hs e f = rw (e, f) (turn p k q)

    go : (b : Bool) → Is (In k r) b → (In k (flat rs) → Same rs (run_of k rs ∷ runs_but k rs))
        → Same (r ∷ rs) ((k ∷ (if b then after k r ++ before k r else others_of k rs)) ∷ (if not b then r ∷ runs_but k rs else runs_but k rs))
    go true i f = begun (before k r) (after k r) (runs_but k rs) (cut_at k r i)
        (runs_but-none k rs (λ j. out-not k (flat rs) (all-at (λ x. Out x (flat rs)) k r (nodup_parts r (flat rs) d).2 i) j))
    go false n f = via (under (f (elsewhere n (in_parts k r (flat rs) m)))) swap

-- the run of `j`, which is no run of `k`, among the runs that do not hold `k`
pub others_but : (j k : Key) (rs : List (List Key)) → NoDup (flat rs) → In k (flat rs) → In j (flat (runs_but k rs)) → others_of j (runs_but k rs) ≡ others_of j rs
unfolding others_of runs_but
others_but j k [] d i m = elim i [ ]
others_but j k (r ∷ rs) d i m = go (holds k r) (holds-is k r) m (λ i m. others_but j k rs (nodup_parts r (flat rs) d).1 i m)
  where
    within : In j r ⊎ In j (flat (runs_but k rs)) → (In j r → ⊥) → In j (flat (runs_but k rs))
    within (inl q) n = absurd (n q)
    within (inr q) n = q

    elsewhere : In k r ⊎ In k (flat rs) → (In k r → ⊥) → In k (flat rs)
    elsewhere (inl q) n = absurd (n q)
    elsewhere (inr q) n = q

    apart : (x : Key) → In x r → In x (flat rs) → ⊥
    apart x p q = out-not x (flat rs) (all-at (λ y. Out y (flat rs)) x r (nodup_parts r (flat rs) d).2 p) q

    third : (c : Bool) → Is (In j r) c → In j r ⊎ In j (flat (runs_but k rs)) → (In j (flat (runs_but k rs)) → others_of j (runs_but k rs) ≡ others_of j rs)
        → (if c then after j r ++ before j r else others_of j (runs_but k rs)) ≡ (if c then after j r ++ before j r else others_of j rs)
    third true h m f = refl
    third false h m f = f (within m h)

    gone : (c : Bool) → Is (In j r) c → (In j r → ⊥) → others_of j rs ≡ (if c then after j r ++ before j r else others_of j rs)
    gone true h n = absurd (n h)
    gone false h n = refl

    go : (b : Bool) → Is (In k r) b → In j (flat (if not b then r ∷ runs_but k rs else runs_but k rs)) → (In k (flat rs) → In j (flat (runs_but k rs)) → others_of j (runs_but k rs) ≡ others_of j rs)
        → others_of j (if not b then r ∷ runs_but k rs else runs_but k rs) ≡ (if holds j r then after j r ++ before j r else others_of j rs)
    go true h m f =
        let e : runs_but k rs ≡ rs = runs_but-none k rs (apart k h) in
        ap (others_of j) e ∙ gone (holds j r) (holds-is j r) (λ p. apart j p (rw e at m))
    go false h m f = third (holds j r) (holds-is j r) (in_parts j r (flat (runs_but k rs)) m) (f (elsewhere (in_parts k r (flat rs) i) h))
