-- The headers of a history's runs: each its own, all of them, and their counts sum to the frames.
use mathlib.Core.Path.{◌≡◌, refl, sym, ap, ◌∙◌}
use mathlib.Core.Logic.{◌≢◌, ◌⊎◌, inl, inr}
use mathlib.Core.List.{List, [], ◌∷◌, map}
use Prim.Native.Nat.{ℕ, suc, ◌≤◌, ◌<◌}
use native.Mathlib.Omega.{arith}
use lib.ListN.{length, length-append, length-map}
use Rattle.rules.specs.declared.Key.{Key}
use Rattle.rules.specs.Notation.{sum, up_to, flat}
use Rattle.rules.proofs.Laws.Lists.{All, In, Out, NoDup, all-at, all_of, all_map, all_image, in_right, in_parts, in_map, nodup_parts, nodup_image, out-not}
use Rattle.rules.proofs.Laws.Sums.{sum_same, up_to-in, up_to-once}
use Rattle.rules.proofs.Laws.Pools.{live_in}
use Rattle.rules.proofs.Laws.Count.{exact}
use Rattle.rules.proofs.Laws.Working.{View, Working}
use Rattle.rules.proofs.Laws.Rep.{key_at, LiveKey, Rep, slots_apart}
use Rattle.rules.proofs.Laws.Classes.{Run, runs_of_lem, run-size, one_class, own-run}

module _ (v : View) where
  abbrev pub headers : List (List Key) → List ℕ
  headers [] = []
  headers ([] ∷ rs) = headers rs
  headers ((k ∷ ks) ∷ rs) = v.class k.slot ∷ headers rs

  -- a header is that of some key
  whose : (c : ℕ) (rs : List (List Key)) → In c (headers rs) → (j : Key) × In j (flat rs) × (c ≡ v.class j.slot)
  whose c [] m = elim m [ ]
  whose c ([] ∷ rs) m = whose c rs m
  whose c ((k ∷ ks) ∷ rs) (inl e) = (k, inl refl, e)
  whose c ((k ∷ ks) ∷ rs) (inr m) = let r = whose c rs m in (r.0, in_right r.0 (k ∷ ks) (flat rs) r.1, r.2)

  module _ (S : Working v) where
    header_in : (rs : List (List Key)) → All (Run v) rs → (j : Key) → In j (flat rs) → In (v.class j.slot) (headers rs)
    header_in [] a j m = elim m [ ]
    header_in ([] ∷ rs) a j m = header_in rs a.1 j m
    header_in ((k ∷ ks) ∷ rs) a j m = go (in_parts j (k ∷ ks) (flat rs) m) (λ i. header_in rs a.1 j i)
      where
        go : In j (k ∷ ks) ⊎ In j (flat rs) → (In j (flat rs) → In (v.class j.slot) (headers rs)) → In (v.class j.slot) (headers ((k ∷ ks) ∷ rs))
        go (inl i) f = inl (all-at (λ x. v.class x.slot ≡ v.class k.slot) j (k ∷ ks) (one_class v S k ks a.0) i)
        go (inr i) f = inr (f i)

    once : (rs : List (List Key)) → All (Run v) rs → All (LiveKey v) (flat rs) → NoDup (flat rs) → NoDup (headers rs)
    once [] a l d = tt
    once ([] ∷ rs) a l d = once rs a.1 l d
    once ((k ∷ ks) ∷ rs) a l d = (apart, once rs a.1 (later l) (nodup_parts (k ∷ ks) (flat rs) d).1)
      where
        later : All (LiveKey v) (flat ((k ∷ ks) ∷ rs)) → All (LiveKey v) (flat rs)
        later l = all_of (LiveKey v) (flat rs) (λ x m. all-at (LiveKey v) x (flat ((k ∷ ks) ∷ rs)) l (in_right x (k ∷ ks) (flat rs) m))

        apart : Out (v.class k.slot) (headers rs)
        apart = all_of (λ c. v.class k.slot ≢ c) (headers rs) (λ c m e.
            let w = whose c rs m in
            let j = w.0 in
            let i : In j (k ∷ ks) = own-run v S k ks a.0 j (all-at (LiveKey v) j (flat rs) (later l) w.1) (sym (e ∙ w.2)) in
            out-not j (flat rs) (all-at (λ x. Out x (flat rs)) j (k ∷ ks) (nodup_parts (k ∷ ks) (flat rs) d).2 i) w.1)

    counted : (rs : List (List Key)) → All (Run v) rs → sum (map v.count (headers rs)) ≡ length (flat rs)
    counted [] a = refl
    counted ([] ∷ rs) a = counted rs a.1
    counted ((k ∷ ks) ∷ rs) a = omega (arith, run-size v S k ks a.0, counted rs a.1, length-append ks (flat rs))

    as_many : (rs : List (List Key)) → All (Run v) rs → length (headers rs) ≡ length rs
    as_many [] a = refl
    as_many ([] ∷ rs) a = absurd a.0.ring
    as_many ((k ∷ ks) ∷ rs) a = ap suc (as_many rs a.1)

    module _ (rs : List (List Key)) (R : Rep v rs) where
      runs : All (Run v) rs
      runs = runs_of_lem v rs R.rings R.live R.once

      used : (c : ℕ) → In c (headers rs) → v.count c ≢ 0
      used c m = let w = whose c rs m in rw w.2 (S.class-live w.0.slot (all-at (LiveKey v) w.0 (flat rs) R.live w.1).live)

      every : (c : ℕ) → v.count c ≢ 0 → In c (headers rs)
      every c n =
          let l = S.ring c n in
          let f = l.1.frames.0 in
          rw f.mine at (header_in rs runs (key_at v l.0) (R.whole l.0 f.live))

      -- all counts sum to the frames of the history
      pub counts-sum : sum (map v.count (up_to v.head.shared.extent)) ≡ length (flat rs)
      counts-sum =
          sum_same v.count (up_to v.head.shared.extent) (headers rs) (up_to-once v.head.shared.extent) (once rs runs R.live R.once)
          (λ c m n. every c n) (λ c m n. let l = live_in S.shared c n in up_to-in v.head.shared.extent c l.0 l.1)
          ∙ counted rs runs

      -- there are as many live headers as runs
      pub live-runs : v.head.shared.live ≡ length rs
      live-runs = sym S.shared.number ∙ exact (headers rs) v.count v.head.shared.extent (once rs runs R.live R.once)
          (all_of (λ c. (v.count c ≢ 0) × (0 < c) × (c ≤ v.head.shared.extent)) (headers rs) (λ c m. let l = live_in S.shared c (used c m) in (used c m, l.0, l.1))) every ∙ as_many rs runs

-- there are as many live frames as keys in the history
pub live-frames : (v : View) (S : Working v) (rs : List (List Key)) → Rep v rs → v.head.elems.live ≡ length (flat rs)
live-frames v S rs R =
    let slot : Key → ℕ = λ k. k.slot in
    sym S.elems.number
    ∙ exact (map slot (flat rs)) v.gen v.head.elems.extent (nodup_image slot (LiveKey v) (flat rs) (λ a b la lb n. slots_apart v a b la lb n) R.live R.once)
    (all_image slot (λ s. (v.gen s ≢ 0) × (0 < s) × (s ≤ v.head.elems.extent)) (flat rs) (all_map (λ k l. let i = live_in S.elems k.slot l.live in (l.live, i.0, i.1)) (flat rs) R.live))
    (λ s n. in_map slot (key_at v s) (flat rs) (R.whole s n))
    ∙ length-map (flat rs) slot
