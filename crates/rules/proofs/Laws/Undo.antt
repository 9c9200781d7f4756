-- Undo: the columns after it, and that it brings back the state before a union.
use mathlib.Core.Path.{◌≡◌, refl, sym, ap, ◌∙◌, fun_ext, subst⁻¹}
use mathlib.Core.Logic.{◌≢◌}
use mathlib.Core.List.{List, ◌∷◌, ◌++◌, map}
use Prim.Native.Nat.{ℕ, zero, suc, ◌+◌, ◌-◌, ◌≤◌, ◌<◌}
use native.Mathlib.Omega.{arith}
use native.Mathlib.Decide.{ℕ_discrete}
use lib.ListN.{length}
use Rattle.rules.specs.declared.Memory.{Memory}
use Rattle.rules.specs.declared.Pool.{Pool}
use Rattle.rules.specs.Notation.{steps, along, sum}
use Rattle.rules.specs.Tables.{frame_width, blank, State, Side, shared_side, field_of, class_of, next_of}
use Rattle.rules.specs.Sound.{bytes_along}
use Rattle.rules.specs.Slots.{slot_of, taken, freed}
use Rattle.rules.specs.Runs.{rewritten, exchanged}
use Rattle.rules.specs.Undo.{taken_back}
use Rattle.rules.specs.Calls.{Ready}
use Rattle.rules.proofs.Laws.Lists.{In, Walk, all_of, all-at, in_dec, out_of, out-by, nodup_parts, across, walk-cut, walk-frame, walk-only}
use Rattle.rules.proofs.Laws.Columns.{upd, upd_same, upd_other, cols, length-put, length-row}
use Rattle.rules.proofs.Laws.Steps.{walk-along, walk_at, walk_end, walk-met}
use Rattle.rules.proofs.Laws.Pools.{if_ne, popped}
use Rattle.rules.proofs.Laws.Working.{View, view, view_path, Frame, Ring, Working, total-over}
use Rattle.rules.proofs.Laws.Soundness.{shaped_of, ring-at}
use Rattle.rules.proofs.Laws.Safe.{working}
use Rattle.rules.proofs.Laws.Stored.{Stored, Still, live_stored, taken_stored, taken-capacity}
use Rattle.rules.proofs.Laws.Links.{Which, one, two, neither, which, live_ne}
use Rattle.rules.proofs.Laws.Rewritten.{Rewritten, walk-rewritten, length-rewritten, length_exchanged, crossed, recolour}
use Rattle.rules.proofs.Laws.Union.{joined_v, links-exchanged, joined-sound}
use Rattle.rules.proofs.Laws.Remembering.{with_memory}
use Rattle.rules.proofs.Laws.Split.{links_crossed, next-again, prev_again}
use Rattle.rules.proofs.Laws.Cut.{painted, painted_in, painted_out, split_v, off, live-y, off_walk, off_once}

-- the ring from `x`, cut where `n` steps lead
pub pieces : (v : View) (S : Working v) (x y n : ℕ) (hx : v.gen x ≢ 0) → 1 ≤ n → n < v.count (v.class x) → steps v.next n x ≡ y
    → (ys : List ℕ) × (xs : List ℕ) × ((ring-at v S x hx).rest ≡ ys ++ y ∷ xs) × (suc (length ys) ≡ n)
pieces v S x y zero hx some less leads = absurd (omega arith)
pieces v S x y (suc k) hx some less leads =
    let r = ring-at v S x hx in
    let q = walk_at v.next (v.next x) x r.rest k r.round (omega (arith, r.sized)) in
    (q.0, q.1, rw leads at q.2, ap suc q.3)

-- ---- the book's rule

pub taken_back-still : (st : State) → Still st (taken_back st)
unfolding taken_back
taken_back-still st = record { elems = refl; shared = taken-capacity (shared_side st); elems-long = simp (length-rewritten, length_exchanged); shared_long = simp (length-put, length-row) }

-- the free root is taken
root-slot : (p : Pool) → p.root ≢ 0 → slot_of p ≡ p.root
unfolding slot_of
root-slot p e = if_ne p.root 0 _ _ e

root-taken : (t : Side) → t.pool.root ≢ 0 → taken t ≡ record { capacity = t.pool.capacity; extent = t.pool.extent; root = field_of t t.link t.pool.root; live = t.pool.live + 1 }
unfolding taken
root-taken t e = if_ne t.pool.root 0 _ _ e

module _ (st : State) (R : Ready st) (hx : (view st).gen st.head.undo.kept ≢ 0) (ys xs : List ℕ) (cut : (ring-at (view st) (working st R) st.head.undo.kept hx).rest ≡ ys ++ st.head.undo.gone ∷ xs)
    (full : st.head.shared.root ≢ 0) (sized : suc (length ys) ≡ st.head.undo.moved) where
  abbrev x : ℕ
  x = st.head.undo.kept

  abbrev y : ℕ
  y = st.head.undo.gone

  abbrev w : ℕ
  w = st.head.undo.value

  abbrev d : ℕ
  d = st.head.shared.root

  abbrev u : View
  u = split_v (view st) x y ys w

  abbrev W : Working (view st)
  W = working st R

  -- the bytes of the frames that come off
  pub back-bytes : bytes_along (exchanged st.elems x y) st.head.undo.moved y ≡ sum (map (view st).bytes (y ∷ ys))
  unfolding split_v
  back-bytes =
      let H = shaped_of st R.shape in
      let hy = live-y (view st) W x y hx ys xs cut full w in
      let in_e : (s : ℕ) → (view st).gen s ≢ 0 → Stored frame_width st.elems s = λ s h. live_stored H.elems W.elems s h in
      let k = crossed st.elems (view st).next refl x y (in_e x hx) (in_e y hy) (in_e ((view st).next x) (W.links.next-live x hx)) (in_e ((view st).next y) (W.links.next-live y hy)) in
      rw (k.next, k.bytes) (ap (λ (n : ℕ). sum (map (view st).bytes (along u.next n y))) (sym sized)
      ∙ ap (λ (l : List ℕ). sum (map (view st).bytes l)) (walk-along u.next y y (y ∷ ys) (refl, off_walk (view st) W x y hx ys xs cut full w)))

  pub taken_back-view : view (taken_back st) ≡ u
  unfolding taken_back split_v
  taken_back-view =
      let H = shaped_of st R.shape in
      let hy = live-y (view st) W x y hx ys xs cut full w in
      let in_e : (s : ℕ) → (view st).gen s ≢ 0 → Stored frame_width st.elems s = λ s h. live_stored H.elems W.elems s h in
      let k = crossed st.elems (view st).next refl x y (in_e x hx) (in_e y hy) (in_e ((view st).next x) (W.links.next-live x hx)) (in_e ((view st).next y) (W.links.next-live y hy)) in
      let l = length_exchanged st.elems x y in
      let r : Rewritten (exchanged st.elems x y) (rewritten st.head.undo.moved (exchanged st.elems x y) y d) d (y ∷ ys) =
      rw sized at (walk-rewritten (y ∷ ys) (exchanged st.elems x y) y y d (refl, subst⁻¹ (λ (n : ℕ → ℕ). Walk n (n y) y ys) k.next (off_walk (view st) W x y hx ys xs cut full w)) (off_once (view st) W x y hx ys xs cut full w)
      (all_of (Stored frame_width (exchanged st.elems x y)) (y ∷ ys) (λ s m. let q = in_e s (off (view st) W x y hx ys xs cut full w s m).live in record { low = q.low; high = rw l q.high }))) in
      let sd = taken_stored H.shared W.shared (popped W.shared full) in
      let sc = live_stored H.shared W.shared ((view st).class x) (W.class-live x hx) in
      rw (root-slot st.head.shared full, root-taken (shared_side st) full, back-bytes, sized)
      (view_path _ _ refl (r.gen ∙ k.gen) (r.pay ∙ k.pay) (fun_ext λ s. class s r k.class (in_dec ℕ_discrete s (y ∷ ys))) (r.prev ∙ k.prev) (r.next ∙ k.next) (r.bytes ∙ k.bytes) (search cols) (search cols) (search cols) (search cols) (search cols))
    where
      class : (s : ℕ) {e' : List ℕ} → Rewritten (exchanged st.elems x y) e' d (y ∷ ys) → class_of (exchanged st.elems x y) ≡ class_of st.elems → Dec (In s (y ∷ ys)) → class_of e' s ≡ painted (y ∷ ys) d (view st).class s
      class s r c (yes m) = r.hit s m ∙ sym (painted_in (y ∷ ys) d (view st).class s m)
      class s r c (no m) = let o = out_of s (y ∷ ys) m in r.miss s o ∙ ap (λ (f : ℕ → ℕ). f s) c ∙ sym (painted_out (y ∷ ys) d (view st).class s o)

  -- the frames that come off stand in the table, once the links are exchanged
  pub back-along : (k : ℕ) → k < st.head.undo.moved → Stored frame_width (exchanged st.elems x y) (steps (next_of (exchanged st.elems x y)) k y)
  unfolding split_v
  back-along k l =
      let H = shaped_of st R.shape in
      let hy = live-y (view st) W x y hx ys xs cut full w in
      let in_e : (s : ℕ) → (view st).gen s ≢ 0 → Stored frame_width st.elems s = λ s h. live_stored H.elems W.elems s h in
      let e = crossed st.elems (view st).next refl x y (in_e x hx) (in_e y hy) (in_e ((view st).next x) (W.links.next-live x hx)) (in_e ((view st).next y) (W.links.next-live y hy)) in
      let m = walk-met u.next y y (y ∷ ys) (refl, off_walk (view st) W x y hx ys xs cut full w) k (omega (arith, sized)) in
      let q = in_e (steps u.next k y) (off (view st) W x y hx ys xs cut full w (steps u.next k y) m).live in
      rw e.next (record { low = q.low; high = rw (length_exchanged st.elems x y) q.high })

-- ---- after a union

-- counts added, and taken apart again
counts-back : (f : ℕ → ℕ) (c d : ℕ) → c ≢ d → (k : ℕ) → Which k d c
    → upd (upd (upd (upd f c (f c + f d)) d 0) d (f d)) c (upd (upd f c (f c + f d)) d 0 c - f d) k ≡ f k
counts-back f c d n k (one e) = let q : d ≢ c = λ r. n (sym r) in rw e (simp (upd_other, upd_same))
counts-back f c d n k (two e) = rw e (upd_same (upd (upd (upd f c (f c + f d)) d 0) d (f d)) c _ ∙ ap (λ (i : ℕ). i - f d) (upd_other (upd f c (f c + f d)) d 0 c n ∙ upd_same f c (f c + f d)) ∙ omega arith)
counts-back f c d n k (neither e g) = simp upd_other

-- as many steps as the ring that went had frames lead from the kept slot to the gone one
module _ (v : View) (S : Working v) (a b : ℕ) (ha : v.gen a ≢ 0) (hb : v.gen b ≢ 0) (differ : v.class a ≢ v.class b) where
  abbrev gone : Ring v.gen v.class v.next (v.class b) b (v.count (v.class b))
  gone = ring-at v S b hb

  joined-walk : Walk (joined_v v a b).next ((joined_v v a b).next a) b gone.rest
  joined-walk =
      let X = links-exchanged v a b S ha hb differ in
      rw X.n_a (walk-frame v.next (joined_v v a b).next (v.next b) b gone.rest
      (all_of (λ s. (joined_v v a b).next s ≡ v.next s) gone.rest (λ s m. X.n_o s
      (λ e. differ (ap v.class (sym e) ∙ (all-at (Frame v.gen v.class (v.class b)) s gone.rest gone.frames.1 m).mine))
      (λ e. all-at (λ z. b ≢ z) s gone.rest gone.once.0 m (sym e)))) gone.round)

  pub joined_leads : steps (joined_v v a b).next (v.count (v.class b)) a ≡ b
  joined_leads = rw gone.sized at (walk_end (joined_v v a b).next a b (a ∷ gone.rest) (refl, joined-walk))

  -- so that is what a cut there takes off
  pub joined_off : (m : Memory) (S' : Working (with_memory (joined_v v a b) m)) (ha' : (joined_v v a b).gen a ≢ 0) (ys xs : List ℕ) → (ring-at (with_memory (joined_v v a b) m) S' a ha').rest ≡ ys ++ b ∷ xs → ys ≡ gone.rest
  unfolding joined_v
  joined_off m S' ha' ys xs cut =
      let r = ring-at (with_memory (joined_v v a b) m) S' a ha' in
      let w = walk-cut (joined_v v a b).next ((joined_v v a b).next a) a b ys xs (rw cut at r.round) in
      let q = nodup_parts ys (b ∷ xs) (rw cut at r.once.1) in
      walk-only (joined_v v a b).next ((joined_v v a b).next a) b ys gone.rest (across ys (b ∷ xs) q.2).0 gone.once.0 w.0 joined-walk

  -- the columns are brought back
  pub joined_back : (m : Memory) → 1 ≤ v.head.shared.live → v.mark (v.class b) ≡ 0 → split_v (with_memory (joined_v v a b) m) a b gone.rest (v.value (v.class b)) ≡ with_memory v blank
  unfolding split_v joined_v freed recolour
  joined_back m some unsealed =
      let c = v.class a in
      let d = v.class b in
      let X = links-exchanged v a b S ha hb differ in
      let L' = links_crossed {p = (joined_v v a b).prev} {n = (joined_v v a b).next} (joined-sound v a b S ha hb differ).links a b ha hb (λ e. differ (ap v.class e)) in
      view_path _ _ head refl refl (fun_ext λ s. class s (ℕ_discrete (v.class s) d)) (prev_again S.links ha hb X L') (next-again S.links ha hb X L')
      refl (fun_ext λ k. count k (which k d c)) (fun_ext λ k. value k (ℕ_discrete k d)) (fun_ext λ k. chain k (ℕ_discrete k d)) (fun_ext λ k. mark k (ℕ_discrete k d)) (fun_ext λ k. total k (which k d c))
    where
      class_a : (joined_v v a b).class a ≡ v.class a
      class_a = upd_other (λ k. k) (v.class b) (v.class a) (v.class a) differ

      head : (split_v (with_memory (joined_v v a b) m) a b gone.rest (v.value (v.class b))).head ≡ (with_memory v blank).head
      head =
          let root = upd_same v.chain (v.class b) v.head.shared.root in
          let live : v.head.shared.live - 1 + 1 ≡ v.head.shared.live = omega arith in
          λ i. record { elems = v.head.elems; shared = record { capacity = v.head.shared.capacity; extent = v.head.shared.extent; root = root i; live = live i }; generation = v.head.generation; undo = blank }

      class : (s : ℕ) → Dec (v.class s ≡ v.class b) → (split_v (with_memory (joined_v v a b) m) a b gone.rest (v.value (v.class b))).class s ≡ v.class s
      class s (yes e) = painted_in (b ∷ gone.rest) (v.class b) (joined_v v a b).class s (gone.whole s (record { live = λ h. live_ne v.count (S.class-live b hb) S.shared.none (sym e ∙ (S.zeros s h).1); mine = e })) ∙ sym e
      class s (no e) = painted_out (b ∷ gone.rest) (v.class b) (joined_v v a b).class s (out-by (Frame v.gen v.class (v.class b)) s (b ∷ gone.rest) (λ f. e f.mine) gone.frames) ∙ upd_other (λ k. k) (v.class b) (v.class a) (v.class s) e

      count : (k : ℕ) → Which k (v.class b) (v.class a) → (split_v (with_memory (joined_v v a b) m) a b gone.rest (v.value (v.class b))).count k ≡ v.count k
      count k q = rw (class_a, gone.sized) (counts-back v.count (v.class a) (v.class b) differ k q)

      value : (k : ℕ) → Dec (k ≡ v.class b) → (split_v (with_memory (joined_v v a b) m) a b gone.rest (v.value (v.class b))).value k ≡ v.value k
      value k (yes e) = rw (e, upd_same)
      value k (no e) = simp upd_other

      chain : (k : ℕ) → Dec (k ≡ v.class b) → (split_v (with_memory (joined_v v a b) m) a b gone.rest (v.value (v.class b))).chain k ≡ v.chain k
      chain k (yes e) = rw (e, upd_same) (sym (S.chain-zero (v.class b) (S.class-live b hb)))
      chain k (no e) = simp upd_other

      mark : (k : ℕ) → Dec (k ≡ v.class b) → (split_v (with_memory (joined_v v a b) m) a b gone.rest (v.value (v.class b))).mark k ≡ v.mark k
      mark k (yes e) = rw (e, upd_same) (sym unsealed)
      mark k (no e) = simp upd_other

      total : (k : ℕ) → Which k (v.class b) (v.class a) → (split_v (with_memory (joined_v v a b) m) a b gone.rest (v.value (v.class b))).total k ≡ v.total k
      total k q = rw (class_a, sym (total-over v S (v.class b) b gone)) (counts-back v.total (v.class a) (v.class b) differ k q)
