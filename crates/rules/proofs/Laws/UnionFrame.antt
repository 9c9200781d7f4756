-- Union's frame theorem: what it rewrites, how often, and that no third run is touched.
use Rattle.std.specs.Prelude.{◌==◌}
use mathlib.Core.Path.{◌≡◌, refl, sym, ap, ◌∙◌}
use mathlib.Core.Logic.{◌≢◌}
use mathlib.Core.Bool.{Bool, not}
use mathlib.Core.List.{List, ◌∷◌, map}
use Prim.Native.Nat.{ℕ, zero, suc, ◌<◌}
use native.Mathlib.Omega.{arith}
use native.Mathlib.Decide.{ℕ_discrete}
use lib.ListN.{length, length-map}
use Rattle.rules.specs.declared.Key.{Key}
use Rattle.rules.specs.Notation.{up_to}
use Rattle.rules.specs.Tables.{frame_width, header_width, cell, class_of, State}
use Rattle.rules.specs.Runs.{joined}
use Rattle.rules.specs.Calls.{Ready}
use Rattle.rules.specs.Demand.{rewrites}
use Rattle.rules.proofs.Laws.Columns.{upd_same, upd_other}
use Rattle.rules.proofs.Laws.Lists.{In, all-at, in_map, in_image, nodup_image}
use Rattle.rules.proofs.Laws.Tests.{eq_is, not_is, is_T, is-told}
use Rattle.rules.proofs.Laws.Sums.{length-same, keep_in, keep_of, keep-once, up_to-in, up_to-once}
use Rattle.rules.proofs.Laws.Pools.{live_in}
use Rattle.rules.proofs.Laws.Working.{View, view, Working, next-class}
use Rattle.rules.proofs.Laws.Links.{live_ne}
use Rattle.rules.proofs.Laws.Safe.{working}
use Rattle.rules.proofs.Laws.Rewritten.{recolour}
use Rattle.rules.proofs.Laws.Union.{joined_v, joined_view}
use Rattle.rules.proofs.Laws.Rep.{key_at, LiveKey, slots_apart}
use Rattle.rules.proofs.Laws.Classes.{slot, Run, one_class, own-run}

-- on columns: a slot of a third class, and a third header
module _ (v : View) (S : Working v) (a b : ℕ) (ha : v.gen a ≢ 0) (hb : v.gen b ≢ 0) where
  other : (s t : ℕ) → v.class s ≢ v.class t → s ≢ t
  other s t n e = n (ap v.class e)

  after : (s t : ℕ) → v.gen t ≢ 0 → v.class s ≢ v.class t → s ≢ v.next t
  after s t h n e = n (ap v.class e ∙ next-class v S t h)

  module _ (s : ℕ) (na : v.class s ≢ v.class a) (nb : v.class s ≢ v.class b) where
    class-third : (joined_v v a b).class s ≡ v.class s
    unfolding joined_v recolour
    class-third = upd_other (λ k. k) (v.class b) (v.class a) (v.class s) nb

    prev_third : (joined_v v a b).prev s ≡ v.prev s
    unfolding joined_v
    prev_third =
        let p : s ≢ v.next a = after s a ha na in
        let q : s ≢ v.next b = after s b hb nb in
        simp upd_other

    next-third : (joined_v v a b).next s ≡ v.next s
    unfolding joined_v
    next-third =
        let p : s ≢ a = other s a na in
        let q : s ≢ b = other s b nb in
        simp upd_other

  -- a class entry that differs was of the class that goes
  class_was : (s : ℕ) → (joined_v v a b).class s ≢ v.class s → v.class s ≡ v.class b
  unfolding joined_v recolour
  class_was s n = go (ℕ_discrete (v.class s) (v.class b))
    where
      go : Dec (v.class s ≡ v.class b) → v.class s ≡ v.class b
      go (yes e) = e
      go (no e) = absurd (n (upd_other (λ k. k) (v.class b) (v.class a) (v.class s) e))

  class-now : (s : ℕ) → v.class s ≡ v.class b → (joined_v v a b).class s ≡ v.class a
  unfolding joined_v recolour
  class-now s e = rw (e, upd_same)

module _ (st : State) (R : Ready st) (a b : ℕ) (ha : (view st).gen a ≢ 0) (hb : (view st).gen b ≢ 0) where
  W : Working (view st)
  W = working st R

  seen : {A : Type 0} (f : View → A) → f (view (joined st a b)) ≡ f (joined_v (view st) a b)
  seen f = ap f (joined_view st R a b ha hb)

  -- no frame of a third run changes in any field
  pub third-frames : (s f : ℕ) → f < frame_width → class_of st.elems s ≢ class_of st.elems a → class_of st.elems s ≢ class_of st.elems b
      → cell frame_width (joined st a b).elems f s ≡ cell frame_width st.elems f s
  unfolding joined_v
  third-frames s zero l na nb = seen (λ v. v.gen s)
  third-frames s (suc zero) l na nb = seen (λ v. v.pay s)
  third-frames s (suc (suc zero)) l na nb = seen (λ v. v.class s) ∙ class-third (view st) W a b ha hb s na nb
  third-frames s (suc (suc (suc zero))) l na nb = seen (λ v. v.prev s) ∙ prev_third (view st) W a b ha hb s na nb
  third-frames s (suc (suc (suc (suc zero)))) l na nb = seen (λ v. v.next s) ∙ next-third (view st) W a b ha hb s na nb
  third-frames s (suc (suc (suc (suc (suc zero))))) l na nb = seen (λ v. v.bytes s)
  third-frames s (suc (suc (suc (suc (suc (suc f)))))) l na nb = absurd (omega arith)

  -- no header of a third run changes in any field
  pub third-headers : (c f : ℕ) → f < header_width → c ≢ class_of st.elems a → c ≢ class_of st.elems b → cell header_width (joined st a b).shared f c ≡ cell header_width st.shared f c
  unfolding joined_v
  third-headers c zero l na nb = seen (λ v. v.count c) ∙ simp upd_other
  third-headers c (suc zero) l na nb = seen (λ v. v.value c) ∙ simp upd_other
  third-headers c (suc (suc zero)) l na nb = seen (λ v. v.chain c) ∙ simp upd_other
  third-headers c (suc (suc (suc zero))) l na nb = seen (λ v. v.mark c) ∙ simp upd_other
  third-headers c (suc (suc (suc (suc zero)))) l na nb = seen (λ v. v.total c) ∙ simp upd_other
  third-headers c (suc (suc (suc (suc (suc f))))) l na nb = absurd (omega arith)

-- the class entries that differ are those of the run that goes
module _ (st : State) (R : Ready st) (a : ℕ) (ha : (view st).gen a ≢ 0) (k : Key) (xs : List Key) (r : Run (view st) (k ∷ xs)) (differ : (view st).class a ≢ (view st).class k.slot) where
  abbrev b : ℕ
  b = k.slot

  works : Working (view st)
  works = working st R

  now : (s : ℕ) → class_of (joined st a b).elems s ≡ (joined_v (view st) a b).class s
  now s = seen st R a b ha r.live.0.live (λ v. v.class s)

  abbrev differs : ℕ → Bool
  differs s = not (class_of st.elems s == class_of (joined st a b).elems s)

  rewritten-is : (s : ℕ) → In s (rewrites st (joined st a b)) → In s (map slot (k ∷ xs))
  rewritten-is s m =
      let d = is_T (differs s) (not_is (class_of st.elems s ≡ class_of (joined st a b).elems s) (class_of st.elems s == class_of (joined st a b).elems s) (eq_is (class_of st.elems s) (class_of (joined st a b).elems s))) (keep_of differs s (up_to st.head.elems.extent) m).1 in
      let e = class_was (view st) works a b ha r.live.0.live s (λ q. d (sym (now s ∙ q))) in
      let l : (view st).gen s ≢ 0 = λ z. live_ne (view st).count (works.class-live b r.live.0.live) works.shared.none (sym e ∙ (works.zeros s z).1) in
      in_map slot (key_at (view st) s) (k ∷ xs) (own-run (view st) works k xs r (key_at (view st) s) (record { live = l; gen = refl }) e)

  is-rewritten : (s : ℕ) → In s (map slot (k ∷ xs)) → In s (rewrites st (joined st a b))
  is-rewritten s m =
      let i = in_image slot s (k ∷ xs) m in
      let x = i.0 in
      let e : (view st).class x.slot ≡ (view st).class b = all-at (λ y. (view st).class y.slot ≡ (view st).class b) x (k ∷ xs) (one_class (view st) works k xs r) i.1 in
      let l = live_in works.elems x.slot (all-at (LiveKey (view st)) x (k ∷ xs) r.live i.1).live in
      rw i.2 (keep_in differs x.slot (up_to st.head.elems.extent) (up_to-in st.head.elems.extent x.slot l.0 l.1)
      (is-told (differs x.slot) (not_is (class_of st.elems x.slot ≡ class_of (joined st a b).elems x.slot) (class_of st.elems x.slot == class_of (joined st a b).elems x.slot) (eq_is (class_of st.elems x.slot) (class_of (joined st a b).elems x.slot)))
      (λ q. differ (sym (class-now (view st) works a b ha r.live.0.live x.slot e) ∙ sym (now x.slot) ∙ sym q ∙ e))))

  -- as many as the run has frames
  pub rewrites-run : length (rewrites st (joined st a b)) ≡ length (k ∷ xs)
  rewrites-run =
      length-same (rewrites st (joined st a b)) (map slot (k ∷ xs)) (keep-once differs (up_to st.head.elems.extent) (up_to-once st.head.elems.extent))
      (nodup_image slot (LiveKey (view st)) (k ∷ xs) (slots_apart (view st)) r.live r.once) rewritten-is is-rewritten
      ∙ length-map (k ∷ xs) slot
