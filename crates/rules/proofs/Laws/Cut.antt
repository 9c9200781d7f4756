-- A union taken back, on columns: the frames `ys` and then `y`, which follow `x` in its ring, come off with the free root for their class.
use mathlib.Core.Path.{◌≡◌, refl, sym, ap, ◌∙◌, fun_ext}
use mathlib.Core.Logic.{◌≢◌, inl}
use mathlib.Core.List.{List, ◌∷◌, ◌++◌, map}
use Prim.Native.Nat.{ℕ, suc, ◌+◌, ◌-◌}
use native.Mathlib.Omega.{arith}
use native.Mathlib.Decide.{ℕ_discrete}
use lib.ListN.{length, length-append}
use Rattle.rules.specs.Notation.{sum}
use Rattle.rules.specs.Tables.{with_pools}
use Rattle.rules.specs.Slots.{freed}
use Rattle.rules.proofs.Laws.Lists.{All, In, Out, NoDup, Walk, all-at, all_parts, in_dec, out_of, out-by}
use Rattle.rules.proofs.Laws.Columns.{choose, upd, upd_same, upd_other}
use Rattle.rules.proofs.Laws.Sums.{sum_append}
use Rattle.rules.proofs.Laws.Pools.{Taken, relink, keep, popped}
use Rattle.rules.proofs.Laws.Marked.{marked-count, marked-zero}
use Rattle.rules.proofs.Laws.Totals.{share, share_other, share_same, whole, whole_same}
use Rattle.rules.proofs.Laws.Working.{View, view_path, Frame, Ring, Working, ring-over, total-none, total-over, live_inside}
use Rattle.rules.proofs.Laws.Soundness.{ring-at}
use Rattle.rules.proofs.Laws.Links.{Which, one, two, neither, which, live_ne, ring-frame, Exchanged, links-exchange}
use Rattle.rules.proofs.Laws.Rewritten.{recolour}
use Rattle.rules.proofs.Laws.Union.{joined_v}
use Rattle.rules.proofs.Laws.Remembering.{with_memory}
use Rattle.rules.proofs.Laws.Split.{links_crossed, next-again, prev_again, walk_off, once_off, ring-kept, ring_off, rest-kept, rest_off}

-- `f` with `d` at each slot of the list
unfoldable pub painted : List ℕ → ℕ → (ℕ → ℕ) → ℕ → ℕ
painted xs d f s = choose (in_dec ℕ_discrete s xs) d (f s)

pub painted_in : (xs : List ℕ) (d : ℕ) (f : ℕ → ℕ) (s : ℕ) → In s xs → painted xs d f s ≡ d
unfolding painted
painted_in xs d f s m = go (in_dec ℕ_discrete s xs)
  where
    go : (q : Dec (In s xs)) → choose q d (f s) ≡ d
    go (yes i) = refl
    go (no i) = absurd (i m)

pub painted_out : (xs : List ℕ) (d : ℕ) (f : ℕ → ℕ) (s : ℕ) → Out s xs → painted xs d f s ≡ f s
unfolding painted
painted_out xs d f s o = go (in_dec ℕ_discrete s xs)
  where
    go : (q : Dec (In s xs)) → choose q d (f s) ≡ f s
    go (yes i) = absurd (all-at (λ z. s ≢ z) s xs o i refl)
    go (no i) = refl

unfoldable pub split_v : View → (x y : ℕ) → List ℕ → ℕ → View
split_v v x y ys w =
    let p = v.head.shared in
    record {
      head = with_pools v.head v.head.elems (record { capacity = p.capacity; extent = p.extent; root = v.chain p.root; live = p.live + 1 });
      gen = v.gen;
      pay = v.pay;
      class = painted (y ∷ ys) p.root v.class;
      prev = upd (upd v.prev (v.next y) x) (v.next x) y;
      next = upd (upd v.next x (v.next y)) y (v.next x);
      bytes = v.bytes;
      count = upd (upd v.count p.root (suc (length ys))) (v.class x) (v.count (v.class x) - suc (length ys));
      value = upd v.value p.root w;
      chain = upd v.chain p.root 0;
      mark = upd v.mark p.root 0;
      total = upd (upd v.total p.root (sum (map v.bytes (y ∷ ys)))) (v.class x) (v.total (v.class x) - sum (map v.bytes (y ∷ ys)));
    }

module _ (v : View) (S : Working v) (x y : ℕ) (hx : v.gen x ≢ 0) (ys xs : List ℕ) (cut : (ring-at v S x hx).rest ≡ ys ++ y ∷ xs) (full : v.head.shared.root ≢ 0) (w : ℕ) where
  abbrev c : ℕ
  c = v.class x

  abbrev d : ℕ
  d = v.head.shared.root

  abbrev u : View
  u = split_v v x y ys w

  frames_of_lem : All (Frame v.gen v.class c) (ys ++ y ∷ xs)
  frames_of_lem = rw cut at (ring-at v S x hx).frames.1

  -- the frames that come off
  pub off : (s : ℕ) → In s (y ∷ ys) → Frame v.gen v.class c s
  off s m = let f = all_parts (Frame v.gen v.class c) ys (y ∷ xs) frames_of_lem in all-at (Frame v.gen v.class c) s (y ∷ ys) (f.1.0, f.0) m

  pub live-y : v.gen y ≢ 0
  live-y = (off y (inl refl)).live

  pub apart : x ≢ y
  apart =
      let o : All (λ z. x ≢ z) (ys ++ y ∷ xs) = rw cut at (ring-at v S x hx).once.0 in
      (all_parts (λ z. x ≢ z) ys (y ∷ xs) o).1.0

  stays-x : Out x (y ∷ ys)
  stays-x =
      let o : All (λ z. x ≢ z) (ys ++ y ∷ xs) = rw cut at (ring-at v S x hx).once.0 in
      (apart, (all_parts (λ z. x ≢ z) ys (y ∷ xs) o).0)

  taken : Taken v.head.shared v.count v.chain d u.head.shared
  unfolding split_v
  taken = popped S.shared full

  pub unused : (s : ℕ) → v.gen s ≢ 0 → v.class s ≢ d
  unused s h = live_ne v.count (S.class-live s h) taken.unused

  pub differ : c ≢ d
  differ = unused x hx

  -- the class entries
  pub class_off : (s : ℕ) → In s (y ∷ ys) → u.class s ≡ d
  unfolding split_v
  class_off s m = painted_in (y ∷ ys) d v.class s m

  pub class-stays : (s : ℕ) → Out s (y ∷ ys) → u.class s ≡ v.class s
  unfolding split_v
  class-stays s o = painted_out (y ∷ ys) d v.class s o

  pub class-x : u.class x ≡ c
  class-x = class-stays x stays-x

  -- the links
  pub links-split : Exchanged v.prev v.next u.prev u.next x y
  unfolding split_v
  links-split = links_crossed S.links x y hx live-y apart

  -- the counts
  pub fewer : suc (length ys) + suc (length xs) ≡ v.count c
  fewer = omega (arith, (ring-at v S x hx).sized, ap length cut, length-append ys (y ∷ xs))

  pub count_d : u.count d ≡ suc (length ys)
  unfolding split_v
  count_d = let e : d ≢ c = λ q. differ (sym q) in simp (upd_other, upd_same)

  pub count_c : u.count c ≡ suc (length xs)
  unfolding split_v
  count_c = upd_same (upd v.count d (suc (length ys))) c (v.count c - suc (length ys)) ∙ omega (arith, fewer)

  count_o : (k : ℕ) → k ≢ d → k ≢ c → u.count k ≡ v.count k
  unfolding split_v
  count_o k e f = simp upd_other

  -- the totals
  abbrev z : ℕ
  z = sum (map v.bytes (y ∷ ys))

  pub lighter : z + sum (map v.bytes (x ∷ xs)) ≡ v.total c
  lighter =
      omega (arith, total-over v S c x (ring-at v S x hx), ap (λ (l : List ℕ). sum (map v.bytes l)) cut, sum_append v.bytes ys (y ∷ xs))

  kept-ring : Ring v.gen u.class u.next c x (suc (length xs))
  kept-ring = ring-kept links-split (ring-at v S x hx) ys xs cut unused class_off class-stays

  off_ring : Ring v.gen u.class u.next d y (suc (length ys))
  off_ring = ring_off links-split (ring-at v S x hx) ys xs cut unused class_off class-stays

  whole-kept : whole v.head.elems.capacity u.class v.bytes c ≡ sum (map v.bytes (x ∷ xs))
  unfolding kept-ring
  whole-kept = rw (rest-kept links-split (ring-at v S x hx) ys xs cut unused class_off class-stays) at (ring-over v.head.elems.capacity kept-ring S.sizes.free (live_inside v S))

  whole_off : whole v.head.elems.capacity u.class v.bytes d ≡ z
  unfolding off_ring
  whole_off = rw (rest_off links-split (ring-at v S x hx) ys xs cut unused class_off class-stays) at (ring-over v.head.elems.capacity off_ring S.sizes.free (live_inside v S))

  -- the ring that comes off
  pub off_walk : Walk u.next (u.next y) y ys
  off_walk = walk_off links-split (ring-at v S x hx) ys xs cut unused class_off class-stays

  pub off_once : NoDup (y ∷ ys)
  off_once = once_off links-split (ring-at v S x hx) ys xs cut unused class_off class-stays

  pub split-sound : Working u
  unfolding split_v
  split-sound = record {
    least = S.least;
    most = S.most;
    elems = relink S.elems u.next (λ s e. links-split.n_o s (λ r. live_ne v.gen hx e (sym r)) (λ r. live_ne v.gen live-y e (sym r)));
    shared =
        let after = taken.after (suc (length ys)) u.chain (omega arith) (λ s e f. upd_other v.chain d 0 s f) in
        let l : upd v.count d (suc (length ys)) c ≢ 0 = rw (upd_other v.count d (suc (length ys)) c differ) (S.class-live x hx) in
        keep after c (v.count c - suc (length ys)) l (omega (arith, fewer)) u.chain (λ s e. refl);
    gens = S.gens;
    zeros = λ s h.
        let z = S.zeros s h in (
          z.0,
          class-stays s (out-by (Frame v.gen v.class c) s (y ∷ ys) (λ f. f.live h) (off y (inl refl), (all_parts (Frame v.gen v.class c) ys (y ∷ xs) frames_of_lem).0)) ∙ z.1,
          links-split.p_o s (λ r. live_ne v.gen (S.links.next-live x hx) h (sym r)) (λ r. live_ne v.gen (S.links.next-live y live-y) h (sym r)) ∙ z.2,
        );
    value-zero = λ k. value-zero k (which k d c);
    chain-zero = λ k. chain-zero k (which k d c);
    marks = marked-count (upd v.mark d 0) (upd v.count d (suc (length ys))) (marked-zero v.mark v.count S.marks d (suc (length ys))) c (v.count c - suc (length ys)) (omega (arith, fewer));
    sizes = record { most = S.sizes.most; free = S.sizes.free; total = λ k. total k (which k d c) };
    links = links-exchange links-split S.links hx live-y;
    class-live = λ s h. class-live s h (in_dec ℕ_discrete s (y ∷ ys));
    ring = λ k. ring k (which k d c);
  }
    where
      value-zero : (k : ℕ) → Which k d c → u.count k ≡ 0 → u.value k ≡ 0
      value-zero k (one e) h = absurd (omega (arith, count_d, rw e at h))
      value-zero k (two e) h = absurd (omega (arith, count_c, rw e at h))
      value-zero k (neither e f) h = rw upd_other (S.value-zero k (sym (count_o k e f) ∙ h))

      chain-zero : (k : ℕ) → Which k d c → u.count k ≢ 0 → u.chain k ≡ 0
      chain-zero k (one e) h = rw (e, upd_same)
      chain-zero k (two e) h = rw e (upd_other v.chain d 0 c differ ∙ S.chain-zero c (S.class-live x hx))
      chain-zero k (neither e f) h = upd_other v.chain d 0 k e ∙ S.chain-zero k (rw (count_o k e f) at h)

      total : (k : ℕ) → Which k d c → u.total k ≡ whole v.head.elems.capacity u.class v.bytes k
      total k (one e) = rw (e, upd_other (upd v.total d z) c (v.total c - z) d (λ q. differ (sym q)), upd_same v.total d z)
          (sym whole_off)
      total k (two e) = rw (e, upd_same (upd v.total d z) c (v.total c - z))
          (omega (arith, lighter, whole-kept))
      total k (neither e f) = rw (upd_other (upd v.total d z) c (v.total c - z) k f, upd_other v.total d z k e)
          (S.sizes.total k ∙ sym (whole_same v.head.elems.capacity v.class u.class v.bytes k (λ s. third s (in_dec ℕ_discrete s (y ∷ ys)))))
        where
          third : (s : ℕ) → Dec (In s (y ∷ ys)) → share u.class v.bytes k s ≡ share v.class v.bytes k s
          third s (yes m) = share_other u.class v.bytes k s (λ q. e (sym q ∙ class_off s m)) ∙ sym (share_other v.class v.bytes k s (λ q. f (sym q ∙ (off s m).mine)))
          third s (no m) = share_same v.class v.bytes u.class v.bytes k s (class-stays s (out_of s (y ∷ ys) m)) refl

      counted : (k : ℕ) → Which k d c → v.count k ≢ 0 → u.count k ≢ 0
      counted k (one e) h = absurd (h (ap v.count e ∙ taken.unused))
      counted k (two e) h = rw (e, count_c) (omega arith)
      counted k (neither e f) h = rw (count_o k e f) h

      class-live : (s : ℕ) → v.gen s ≢ 0 → Dec (In s (y ∷ ys)) → u.count (u.class s) ≢ 0
      class-live s h (yes m) = rw (class_off s m, count_d) (omega arith)
      class-live s h (no m) = rw (class-stays s (out_of s (y ∷ ys) m)) (counted (v.class s) (which (v.class s) d c) (S.class-live s h))

      ring : (k : ℕ) → Which k d c → u.count k ≢ 0 → (z : ℕ) × Ring u.gen u.class u.next k z (u.count k)
      ring k (one e) h = rw (e, count_d) (y, off_ring)
      ring k (two e) h = rw (e, count_c) (x, kept-ring)
      ring k (neither e f) h =
          let r = S.ring k (rw (count_o k e f) at h) in (
            r.0,
            rw (count_o k e f) (ring-frame r.1
                (λ s q. record { live = q.live; mine = class-stays s (out s q) ∙ q.mine })
                (λ s q. back s q (in_dec ℕ_discrete s (y ∷ ys)))
                (λ s q. links-split.n_o s (λ z. f (sym q.mine ∙ ap v.class z)) (λ z. f (sym q.mine ∙ ap v.class z ∙ (off y (inl refl)).mine)))),
          )
        where
          out : (s : ℕ) → Frame v.gen v.class k s → Out s (y ∷ ys)
          out s q = out_of s (y ∷ ys) (λ m. f (sym q.mine ∙ (off s m).mine))

          back : (s : ℕ) → Frame v.gen u.class k s → Dec (In s (y ∷ ys)) → Frame v.gen v.class k s
          back s q (yes m) = absurd (e (sym q.mine ∙ class_off s m))
          back s q (no m) = record { live = q.live; mine = sym (class-stays s (out_of s (y ∷ ys) m)) ∙ q.mine }

  -- a union of the two brings the columns back
  pub split-joined : with_memory (joined_v u x y) v.head.undo ≡ v
  unfolding joined_v split_v freed recolour
  split-joined =
      let L' = links_crossed split-sound.links x y hx live-y apart in
      view_path _ _ head refl refl (fun_ext λ s. class s (in_dec ℕ_discrete s (y ∷ ys))) (prev_again S.links hx live-y links-split L') (next-again S.links hx live-y links-split L')
      refl (fun_ext λ k. count k (which k d c)) (fun_ext λ k. value k (ℕ_discrete k d)) (fun_ext λ k. chain k (ℕ_discrete k d)) (fun_ext λ k. mark k (ℕ_discrete k d)) (fun_ext λ k. total k (which k d c))
    where
      at_y : painted (y ∷ ys) d v.class y ≡ d
      at_y = painted_in (y ∷ ys) d v.class y (inl refl)

      at_x : painted (y ∷ ys) d v.class x ≡ c
      at_x = painted_out (y ∷ ys) d v.class x stays-x

      head : (with_memory (joined_v u x y) v.head.undo).head ≡ v.head
      head =
          let live : v.head.shared.live + 1 - 1 ≡ v.head.shared.live = omega arith in
          λ i. record { elems = v.head.elems; shared = record { capacity = v.head.shared.capacity; extent = v.head.shared.extent; root = at_y i; live = live i }; generation = v.head.generation; undo = v.head.undo }

      other : (s : ℕ) → Dec (v.gen s ≡ 0) → v.class s ≢ d
      other s (yes e) q = full (sym q ∙ (S.zeros s e).1)
      other s (no e) q = unused s e q

      class : (s : ℕ) → Dec (In s (y ∷ ys)) → (joined_v u x y).class s ≡ v.class s
      class s (yes m) = rw (at_y, at_x, painted_in (y ∷ ys) d v.class s m) (upd_same (λ k. k) d c ∙ sym (off s m).mine)
      class s (no m) = rw (at_y, at_x, painted_out (y ∷ ys) d v.class s (out_of s (y ∷ ys) m)) (upd_other (λ k. k) d c (v.class s) (other s (ℕ_discrete (v.gen s) 0)))

      count : (k : ℕ) → Which k d c → (joined_v u x y).count k ≡ v.count k
      count k (one e) = rw (at_y, e, upd_same) (sym taken.unused)
      count k (two e) = rw (at_y, at_x, e) (upd_other _ d 0 c differ ∙ upd_same _ c _ ∙ omega (arith, count_c, count_d, fewer))
      count k (neither e f) = rw (at_y, at_x) (simp upd_other)

      value : (k : ℕ) → Dec (k ≡ d) → (joined_v u x y).value k ≡ v.value k
      value k (yes e) = rw (at_y, e, upd_same) (sym (S.value-zero d taken.unused))
      value k (no e) = rw at_y (simp upd_other)

      chain : (k : ℕ) → Dec (k ≡ d) → (joined_v u x y).chain k ≡ v.chain k
      chain k (yes e) = rw (at_y, e, upd_same)
      chain k (no e) = rw at_y (simp upd_other)

      mark : (k : ℕ) → Dec (k ≡ d) → (joined_v u x y).mark k ≡ v.mark k
      mark k (yes e) = rw (at_y, e, upd_same) (omega (arith, (S.marks d).1, taken.unused))
      mark k (no e) = rw at_y (simp upd_other)

      total : (k : ℕ) → Which k d c → (joined_v u x y).total k ≡ v.total k
      total k (one e) = rw (at_y, e, upd_same) (sym (total-none v S d taken.unused))
      total k (two e) = rw (at_y, at_x, e) (upd_other _ d 0 c differ ∙ upd_same _ c _ ∙ omega (arith, upd_same (upd v.total d z) c (v.total c - z), upd_other (upd v.total d z) c (v.total c - z) d (λ q. differ (sym q)), upd_same v.total d z, lighter))
      total k (neither e f) = rw (at_y, at_x) (simp upd_other)
