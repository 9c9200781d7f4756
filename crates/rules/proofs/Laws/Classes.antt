-- A run and its class: the keys of one class are the keys of one run, and the header counts them.
use mathlib.Core.Path.{◌≡◌, refl, sym, ap, ◌∙◌}
use mathlib.Core.Logic.{◌≢◌, inl, inr}
use mathlib.Core.List.{List, [], ◌∷◌, map}
use Prim.Native.Nat.{ℕ, suc}
use lib.ListN.{length, length-map}
use Rattle.rules.specs.declared.Key.{Key}
use Rattle.rules.specs.Notation.{flat}
use Rattle.rules.proofs.Laws.Lists.{All, In, NoDup, Cycle, all_both, all-at, all_of, all_parts, all_image, in_map, nodup_parts, walk-only, walk_image}
use Rattle.rules.proofs.Laws.Working.{View, Working, Frame}
use Rattle.rules.proofs.Laws.Soundness.{ring-at}
use Rattle.rules.proofs.Laws.Rep.{next_key, LiveKey, Rep, slots_apart}

abbrev pub slot : Key → ℕ
slot k = k.slot

-- one run of a history
pub record Run (v : View) (r : List Key) : Type 0 where
  pub ring : Cycle (next_key v) r
  pub live : All (LiveKey v) r
  pub once : NoDup r

pub runs_of_lem : (v : View) (h : List (List Key)) → All (Cycle (next_key v)) h → All (LiveKey v) (flat h) → NoDup (flat h) → All (Run v) h
runs_of_lem v [] c l d = tt
runs_of_lem v (r ∷ h) c l d =
    let p = all_parts (LiveKey v) r (flat h) l in
    let q = nodup_parts r (flat h) d in
    (record { ring = c.0; live = p.0; once = q.0 }, runs_of_lem v h c.1 p.1 q.1)

pub first_run : (v : View) (r : List Key) (hs : List (List Key)) → Rep v (r ∷ hs) → Run v r
first_run v r hs R = (runs_of_lem v (r ∷ hs) R.rings R.live R.once).0

module _ (v : View) (S : Working v) where
  -- live keys with one slot are one key
  pub in_slots : (k : Key) (ks : List Key) → LiveKey v k → All (LiveKey v) ks → In k.slot (map slot ks) → In k ks
  in_slots k [] l a x3 = elim x3 [ ]
  in_slots k (j ∷ js) l a (inl e) = inl (λ i. record { slot = e i; generation = (sym l.gen ∙ ap v.gen e ∙ a.0.gen) i })
  in_slots k (j ∷ js) l a (inr m) = inr (in_slots k js l a.1 m)

  module _ (k : Key) (xs : List Key) (r : Run v (k ∷ xs)) where
    pub slots-run : map slot xs ≡ (ring-at v S k.slot r.live.0.live).rest
    slots-run =
        let q = ring-at v S k.slot r.live.0.live in
        let o = all_both (λ x l n. slots_apart v k x r.live.0 l n) xs r.live.1 r.once.0 in
        walk-only v.next (v.next k.slot) k.slot (map slot xs) q.rest (all_image slot (λ s. k.slot ≢ s) xs o) q.once.0
        (walk_image slot (next_key v) v.next (λ x. refl) (next_key v k) k xs r.ring) q.round

    pub run-size : suc (length xs) ≡ v.count (v.class k.slot)
    run-size = ap suc (sym (length-map xs slot) ∙ ap length slots-run) ∙ (ring-at v S k.slot r.live.0.live).sized

    pub one_class : All (λ x. v.class x.slot ≡ v.class k.slot) (k ∷ xs)
    one_class =
        let q = ring-at v S k.slot r.live.0.live in
        all_of (λ x. v.class x.slot ≡ v.class k.slot) (k ∷ xs) (λ x m. (all-at (Frame v.gen v.class (v.class k.slot)) x.slot (k.slot ∷ q.rest) q.frames (rw slots-run at (in_map slot x (k ∷ xs) m))).mine)

    pub own-run : (j : Key) → LiveKey v j → v.class j.slot ≡ v.class k.slot → In j (k ∷ xs)
    own-run j l e =
        let q = ring-at v S k.slot r.live.0.live in
        in_slots j (k ∷ xs) l r.live (rw slots-run (q.whole j.slot (record { live = l.live; mine = e })))
