-- All slots are renumbered: what compression, a copy and a move rest on. Links, classes and rings follow from the columns' agreement.
use mathlib.Core.Path.{◌≡◌, refl, sym, ap, ◌∙◌, subst}
use mathlib.Core.Logic.{◌≢◌}
use mathlib.Core.List.{List, [], ◌∷◌, map}
use Prim.Native.Nat.{ℕ, zero, suc, ◌≤◌, ◌<◌}
use native.Mathlib.Omega.{arith}
use native.Mathlib.Decide.{ℕ_discrete}
use lib.ListN.{length-map}
use Rattle.rules.specs.Notation.{along, sum}
use Rattle.rules.specs.Tables.{most_bytes}
use Rattle.rules.proofs.Laws.Lists.{All, In, Walk, all_map, all_image, in_map, nodup_image}
use Rattle.rules.proofs.Laws.Working.{View, Links, Frame, Ring, Working, ring-over, total-over}
use Rattle.rules.proofs.Laws.Totals.{Sizes, whole, whole-none}

-- a walk under a map that carries the links of its members
pub walk_carried : {A B : Type 0} (f : A → B) (n : A → A) (m : B → B) (a b : A) (xs : List A) → All (λ x. m (f x) ≡ f (n x)) xs → Walk n a b xs → Walk m (f a) (f b) (map f xs)
walk_carried f n m a b [] h w = ap f w
walk_carried f n m a b (x ∷ xs) h w = (ap f w.0, rw h.0 (walk_carried f n m (n x) b xs h.1 w.1))

-- the new slot of an old one and back, and so of the class slots
pub record Renaming : Type 0 where
  pub new : ℕ → ℕ
  pub old : ℕ → ℕ
  pub new_class : ℕ → ℕ
  pub old_class : ℕ → ℕ

pub record Renumbered (v v' : View) (m : Renaming) : Type 0 where
  -- the live slots of each side are those of the other
  pub out : (s : ℕ) → v.gen s ≢ 0 → (v'.gen (m.new s) ≢ 0) × (m.old (m.new s) ≡ s)
  pub into : (t : ℕ) → v'.gen t ≢ 0 → (v.gen (m.old t) ≢ 0) × (m.new (m.old t) ≡ t)
  pub class-out : (c : ℕ) → v.count c ≢ 0 → m.old_class (m.new_class c) ≡ c
  pub class-into : (d : ℕ) → v'.count d ≢ 0 → (v.count (m.old_class d) ≢ 0) × (m.new_class (m.old_class d) ≡ d)
  -- and the columns agree
  pub nexts : (s : ℕ) → v.gen s ≢ 0 → v'.next (m.new s) ≡ m.new (v.next s)
  pub prevs : (s : ℕ) → v.gen s ≢ 0 → v'.prev (m.new s) ≡ m.new (v.prev s)
  pub classes : (s : ℕ) → v.gen s ≢ 0 → v'.class (m.new s) ≡ m.new_class (v.class s)
  pub payloads : (s : ℕ) → v.gen s ≢ 0 → v'.pay (m.new s) ≡ v.pay s
  pub sizes : (s : ℕ) → v.gen s ≢ 0 → v'.bytes (m.new s) ≡ v.bytes s
  pub counts : (c : ℕ) → v.count c ≢ 0 → v'.count (m.new_class c) ≡ v.count c
  pub values : (c : ℕ) → v.count c ≢ 0 → v'.value (m.new_class c) ≡ v.value c
  pub marks : (c : ℕ) → v.count c ≢ 0 → v'.mark (m.new_class c) ≡ v.mark c
  pub totals : (c : ℕ) → v.count c ≢ 0 → v'.total (m.new_class c) ≡ v.total c

module _ (v v' : View) (m : Renaming) (N : Renumbered v v' m) (S : Working v) where
  -- what holds of every new slot of a live one holds of every live slot
  pub by_old : (P : ℕ → Type 0) → ((s : ℕ) → v.gen s ≢ 0 → P (m.new s)) → (t : ℕ) → v'.gen t ≢ 0 → P t
  by_old P f t h = let i = N.into t h in subst P i.1 (f (m.old t) i.0)

  pub renumbered-links : Links v'.gen v'.prev v'.next
  renumbered-links =
      let L = S.links in
      record {
        next-live = by_old (λ t. v'.gen (v'.next t) ≢ 0) (λ s h. rw (N.nexts s h) (N.out (v.next s) (L.next-live s h)).0);
        prev_live = by_old (λ t. v'.gen (v'.prev t) ≢ 0) (λ s h. rw (N.prevs s h) (N.out (v.prev s) (L.prev_live s h)).0);
        prev_next = by_old (λ t. v'.prev (v'.next t) ≡ t) (λ s h. rw (N.nexts s h, N.prevs (v.next s) (L.next-live s h), L.prev_next s h));
        next_prev = by_old (λ t. v'.next (v'.prev t) ≡ t) (λ s h. rw (N.prevs s h, N.nexts (v.prev s) (L.prev_live s h), L.next_prev s h));
      }

  pub renumbered_class_live : (t : ℕ) → v'.gen t ≢ 0 → v'.count (v'.class t) ≢ 0
  renumbered_class_live = by_old (λ t. v'.count (v'.class t) ≢ 0) (λ s h. rw (N.classes s h, N.counts (v.class s) (S.class-live s h)) (S.class-live s h))

  -- the ring of a class, moved
  pub ring_image : (c : ℕ) → v.count c ≢ 0 → (x : ℕ) → Ring v.gen v.class v.next c x (v.count c) → Ring v'.gen v'.class v'.next (m.new_class c) (m.new x) (v.count c)
  ring_image c live x r = record {
    rest = map m.new r.rest;
    round = rw (N.nexts x r.frames.0.live) (walk_carried m.new v.next v'.next (v.next x) x r.rest (all_map (λ s f. N.nexts s f.live) r.rest r.frames.1) r.round);
    once = nodup_image m.new (Frame v.gen v.class c) (x ∷ r.rest) (λ a b f g n e. n (sym (N.out a f.live).1 ∙ ap m.old e ∙ (N.out b g.live).1)) r.frames r.once;
    frames = all_image m.new (Frame v'.gen v'.class (m.new_class c)) (x ∷ r.rest) (all_map (λ s f. record { live = (N.out s f.live).0; mine = N.classes s f.live ∙ ap m.new_class f.mine }) (x ∷ r.rest) r.frames);
    whole = λ t f.
        let i = N.into t f.live in
        let s = m.old t in
        let e : v.class s ≡ c = sym (N.class-out (v.class s) (S.class-live s i.0)) ∙ ap m.old_class (sym (N.classes s i.0) ∙ ap v'.class i.1 ∙ f.mine) ∙ N.class-out c live in
        subst (λ (z : ℕ). In z (map m.new (x ∷ r.rest))) i.1 (in_map m.new s (x ∷ r.rest) (r.whole s (record { live = i.0; mine = e })));
    sized = rw length-map r.sized;
  }

  pub renumbered-ring : (d : ℕ) → v'.count d ≢ 0 → (y : ℕ) × Ring v'.gen v'.class v'.next d y (v'.count d)
  renumbered-ring d h =
      let i = N.class-into d h in
      let c = m.old_class d in
      let r = S.ring c i.0 in
      (m.new r.0, subst (λ (e : ℕ). Ring v'.gen v'.class v'.next e (m.new r.0) (v'.count e)) i.1 (rw (N.counts c i.0) (ring_image c i.0 r.0 r.1)))

  -- Ticket 6: the new columns of sizes and totals
  pub renumbered-sizes : (n : ℕ) → ((t : ℕ) → v'.bytes t ≤ most_bytes) → ((t : ℕ) → v'.gen t ≡ 0 → v'.bytes t ≡ 0) → ((d : ℕ) → v'.count d ≡ 0 → v'.total d ≡ 0) → ((t : ℕ) → v'.gen t ≢ 0 → (0 < t) × (t ≤ n))
      → Sizes n v'.gen v'.class v'.bytes v'.total
  unfolding ring_image
  renumbered-sizes n most free none inside = record { most = most; free = free; total = λ d. total d (ℕ_discrete (v'.count d) 0) }
    where
      bytes-moved : (xs : List ℕ) → All (λ s. v.gen s ≢ 0) xs → sum (map v'.bytes (map m.new xs)) ≡ sum (map v.bytes xs)
      bytes-moved [] h = refl
      bytes-moved (x ∷ xs) h = omega (arith, N.sizes x h.0, bytes-moved xs h.1)

      moved : (c : ℕ) → v.count c ≢ 0 → v'.total (m.new_class c) ≡ whole n v'.class v'.bytes (m.new_class c)
      moved c l =
          let r = S.ring c l in
          let i = ring_image c l r.0 r.1 in
          let xs = r.0 ∷ r.1.rest in
          N.totals c l ∙ total-over v S c r.0 r.1
          ∙ sym (bytes-moved xs (all_map (λ s f. f.live) xs r.1.frames)) ∙ sym (ring-over n i free inside)

      total : (d : ℕ) → Dec (v'.count d ≡ 0) → v'.total d ≡ whole n v'.class v'.bytes d
      total d (yes e) = none d e ∙ sym (whole-none n v'.gen v'.class v'.bytes d free (λ t h q. renumbered_class_live t h (ap v'.count q ∙ e)))
      total d (no e) = let i = N.class-into d e in subst (λ (z : ℕ). v'.total z ≡ whole n v'.class v'.bytes z) i.1 (moved (m.old_class d) i.0)

  -- a ring is met in the same order
  pub renumbered-along : (k s : ℕ) → v.gen s ≢ 0 → along v'.next k (m.new s) ≡ map m.new (along v.next k s)
  renumbered-along zero s h = refl
  renumbered-along (suc k) s h = rw (N.nexts s h) (ap {B = List ℕ} (λ l. m.new s ∷ l) (renumbered-along k (v.next s) (S.links.next-live s h)))

  -- and has as many frames
  pub renumbered-size : (s : ℕ) → v.gen s ≢ 0 → v'.count (v'.class (m.new s)) ≡ v.count (v.class s)
  renumbered-size s h = rw (N.classes s h, N.counts (v.class s) (S.class-live s h))
