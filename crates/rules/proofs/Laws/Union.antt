-- Union: the columns after it, and that it keeps a sound state. The class of `a` is kept.
use mathlib.Core.Path.{◌≡◌, refl, sym, ap, ◌∙◌}
use mathlib.Core.Logic.{◌≢◌, ◌⊎◌, inl, inr}
use Prim.Native.Nat.{ℕ, ◌+◌}
use native.Mathlib.Omega.{arith}
use native.Mathlib.Decide.{ℕ_discrete}
use Rattle.rules.specs.Tables.{frame_width, State, blank, size_at}
use Rattle.rules.specs.Slots.{freed, free_slot, free_shared}
use Rattle.rules.specs.Runs.{rewritten, joined}
use Rattle.rules.specs.Calls.{Ready}
use Rattle.rules.proofs.Laws.Columns.{upd, upd_same, upd_other, cols, length-put, length-row}
use Rattle.rules.proofs.Laws.Pools.{relink, keep, free}
use Rattle.rules.proofs.Laws.Totals.{sizes-join}
use Rattle.rules.proofs.Laws.Marked.{marked-count, marked-zero}
use Rattle.rules.proofs.Laws.Working.{View, view, view_path, Frame, Ring, Working, turn}
use Rattle.rules.proofs.Laws.Soundness.{shaped_of}
use Rattle.rules.proofs.Laws.Safe.{working}
use Rattle.rules.proofs.Laws.Stored.{Stored, Still, ready-still, live_stored}
use Rattle.rules.proofs.Laws.Rewritten.{length-rewritten, length_exchanged, crossed, recolour, ring-rewritten, rewritten-class}
use Rattle.rules.proofs.Laws.Links.{Which, one, two, neither, which, live_ne, ring-frame, Exchanged, links-exchange, ring-join}

unfoldable pub joined_v : View → ℕ → ℕ → View
joined_v v a b = record {
  head = record { elems = v.head.elems; shared = freed v.head.shared (v.class b); generation = v.head.generation; undo = blank };
  gen = v.gen;
  pay = v.pay;
  class = recolour (v.class b) (v.class a) v.class;
  prev = upd (upd v.prev (v.next b) a) (v.next a) b;
  next = upd (upd v.next a (v.next b)) b (v.next a);
  bytes = v.bytes;
  count = upd (upd v.count (v.class a) (v.count (v.class a) + v.count (v.class b))) (v.class b) 0;
  value = upd v.value (v.class b) 0;
  chain = upd v.chain (v.class b) v.head.shared.root;
  mark = upd v.mark (v.class b) 0;
  total = upd (upd v.total (v.class a) (v.total (v.class a) + v.total (v.class b))) (v.class b) 0;
}

module _ (v : View) (a b : ℕ) (S : Working v) (ha : v.gen a ≢ 0) (hb : v.gen b ≢ 0) (differ : v.class a ≢ v.class b) where
  apart : a ≢ b
  apart e = differ (ap v.class e)

  pub links-exchanged : Exchanged v.prev v.next (joined_v v a b).prev (joined_v v a b).next a b
  unfolding joined_v
  links-exchanged =
      let ab : a ≢ b = apart in
      let mn : v.next b ≢ v.next a = λ e. apart (sym (S.links.prev_next a ha) ∙ sym (ap v.prev e) ∙ S.links.prev_next b hb) in
      record {
        n_a = simp (upd_other, upd_same);
        n_b = simp upd_same;
        n_o = λ s e f. simp upd_other;
        p_b = simp (upd_other, upd_same);
        p_a = simp upd_same;
        p_o = λ s e f. simp upd_other;
      }

  -- the class entries
  class_b : (s : ℕ) → v.class s ≡ v.class b → (joined_v v a b).class s ≡ v.class a
  unfolding joined_v recolour
  class_b s e = rw (e, upd_same)

  class_o : (s : ℕ) → v.class s ≢ v.class b → (joined_v v a b).class s ≡ v.class s
  unfolding joined_v recolour
  class_o s e = upd_other (λ k. k) (v.class b) (v.class a) (v.class s) e

  pub joined-sound : Working (joined_v v a b)
  unfolding joined_v
  joined-sound = record {
    least = S.least;
    most = S.most;
    elems = relink S.elems (joined_v v a b).next (λ s e. links-exchanged.n_o s (λ r. live_ne v.gen ha e (sym r)) (λ r. live_ne v.gen hb e (sym r)));
    shared =
        let both = v.count (v.class a) + v.count (v.class b) in
        let k = keep S.shared (v.class a) both (S.class-live a ha) (omega (arith, S.class-live a ha)) v.chain (λ s e. refl) in
        let l : upd v.count (v.class a) both (v.class b) ≢ 0 = rw (upd_other v.count (v.class a) both (v.class b) (λ e. differ (sym e))) (S.class-live b hb) in
        free k (v.class b) l (joined_v v a b).chain (upd_same v.chain (v.class b) v.head.shared.root)
        (λ s e. upd_other v.chain (v.class b) v.head.shared.root s (λ r. live_ne (upd v.count (v.class a) both) l e (sym r)));
    gens = S.gens;
    sizes = sizes-join S.sizes (v.class a) (v.class b) differ (joined_v v a b).class class_b class_o;
    zeros = λ s h.
        let z = S.zeros s h in (
          z.0,
          class_o s (λ e. live_ne v.count (S.class-live b hb) S.shared.none (sym e ∙ z.1)) ∙ z.1,
          links-exchanged.p_o s (λ r. live_ne v.gen (S.links.next-live a ha) h (sym r)) (λ r. live_ne v.gen (S.links.next-live b hb) h (sym r)) ∙ z.2,
        );
    value-zero = λ c. value-zero c (which c (v.class b) (v.class a));
    chain-zero = λ c. chain-zero c (which c (v.class b) (v.class a));
    marks =
        let both = v.count (v.class a) + v.count (v.class b) in
        marked-zero v.mark (upd v.count (v.class a) both) (marked-count v.mark v.count S.marks (v.class a) both (omega (arith, S.class-live a ha))) (v.class b) 0;
    links = links-exchange links-exchanged S.links ha hb;
    class-live = λ s h. class-live s h (ℕ_discrete (v.class s) (v.class b));
    ring = λ c. ring c (which c (v.class b) (v.class a));
  }
    where
      count_b : (joined_v v a b).count (v.class b) ≡ 0
      count_b = upd_same (upd v.count (v.class a) (v.count (v.class a) + v.count (v.class b))) (v.class b) 0

      count_a : (joined_v v a b).count (v.class a) ≡ v.count (v.class a) + v.count (v.class b)
      count_a = simp (upd_other, upd_same)

      count_o : (c : ℕ) → c ≢ v.class b → c ≢ v.class a → (joined_v v a b).count c ≡ v.count c
      count_o c e f = simp upd_other

      value-zero : (c : ℕ) → Which c (v.class b) (v.class a) → (joined_v v a b).count c ≡ 0 → (joined_v v a b).value c ≡ 0
      value-zero c (one e) h = rw (e, upd_same)
      value-zero c (two e) h = absurd (omega (arith, S.class-live a ha, rw (e, count_a) at h))
      value-zero c (neither e f) h = rw upd_other (S.value-zero c (rw (count_o c e f) at h))

      chain-zero : (c : ℕ) → Which c (v.class b) (v.class a) → (joined_v v a b).count c ≢ 0 → (joined_v v a b).chain c ≡ 0
      chain-zero c (one e) h = absurd (h (rw e count_b))
      chain-zero c (two e) h = rw e (rw upd_other (S.chain-zero (v.class a) (S.class-live a ha)))
      chain-zero c (neither e f) h = rw upd_other (S.chain-zero c (rw (count_o c e f) at h))

      counted : (c : ℕ) → Which c (v.class b) (v.class a) → c ≢ v.class b → v.count c ≢ 0 → (joined_v v a b).count c ≢ 0
      counted c (one r) e h = absurd (e r)
      counted c (two r) e h = rw (r, count_a) (omega (arith, S.class-live a ha))
      counted c (neither r f) e h = rw (count_o c r f) h

      class-live : (s : ℕ) → v.gen s ≢ 0 → Dec (v.class s ≡ v.class b) → (joined_v v a b).count ((joined_v v a b).class s) ≢ 0
      class-live s h (yes e) = rw (class_b s e, count_a) (omega (arith, S.class-live a ha))
      class-live s h (no e) = rw (class_o s e) (counted (v.class s) (which (v.class s) (v.class b) (v.class a)) e (S.class-live s h))

      ring : (c : ℕ) → Which c (v.class b) (v.class a) → (joined_v v a b).count c ≢ 0
          → (y : ℕ) × Ring (joined_v v a b).gen (joined_v v a b).class (joined_v v a b).next c y ((joined_v v a b).count c)
      ring c (one e) h = absurd (h (rw e count_b))
      ring c (two e) h =
          let k = S.ring (v.class a) (S.class-live a ha) in
          let l = S.ring (v.class b) (S.class-live b hb) in
          rw (e, count_a) (
            a,
            ring-join links-exchanged differ
                (λ s f. class_o s (λ r. differ (sym f.mine ∙ r)) ∙ f.mine)
                (λ s f. class_b s f.mine)
                (λ s g m. from s g m (ℕ_discrete (v.class s) (v.class b)))
                (turn k.1 (record { live = ha; mine = refl }))
                (turn l.1 (record { live = hb; mine = refl })),
          )
        where
          from : (s : ℕ) → v.gen s ≢ 0 → (joined_v v a b).class s ≡ v.class a → Dec (v.class s ≡ v.class b) → Frame v.gen v.class (v.class a) s ⊎ Frame v.gen v.class (v.class b) s
          from s g m (yes r) = inr (record { live = g; mine = r })
          from s g m (no r) = inl (record { live = g; mine = sym (class_o s r) ∙ m })
      ring c (neither e f) h =
          let k = S.ring c (rw (count_o c e f) at h) in (
            k.0,
            rw (count_o c e f) (ring-frame k.1
                (λ s r. record { live = r.live; mine = class_o s (λ z. e (sym r.mine ∙ z)) ∙ r.mine })
                (λ s r. back s r (ℕ_discrete (v.class s) (v.class b)))
                (λ s r. links-exchanged.n_o s (λ z. f (sym r.mine ∙ ap v.class z)) (λ z. e (sym r.mine ∙ ap v.class z)))),
          )
        where
          back : (s : ℕ) → Frame v.gen (joined_v v a b).class c s → Dec (v.class s ≡ v.class b) → Frame v.gen v.class c s
          back s r (yes z) = absurd (f (sym r.mine ∙ class_b s z))
          back s r (no z) = record { live = r.live; mine = sym (class_o s z) ∙ r.mine }

-- ---- the book's rule
pub joined-still : (st : State) (a b : ℕ) → Still st (joined st a b)
unfolding joined free_shared free_slot freed
joined-still st a b = record { elems = refl; shared = refl; elems-long = simp (length_exchanged, length-rewritten); shared_long = simp (length-row, length-put) }

module _ (st : State) (R : Ready st) (a b : ℕ) (ha : (view st).gen a ≢ 0) (hb : (view st).gen b ≢ 0) where
  pub joined_view : view (joined st a b) ≡ joined_v (view st) a b
  unfolding joined joined_v free_shared free_slot
  joined_view =
      let H = shaped_of st R.shape in
      let W = working st R in
      let e = rewritten (size_at st b) st.elems b ((view st).class a) in
      let r = ring-rewritten st R b ((view st).class a) hb in
      let in_e : (s : ℕ) → (view st).gen s ≢ 0 → Stored frame_width e s = λ s h. let q = live_stored H.elems W.elems s h in record { low = q.low; high = rw r.long q.high } in
      let x = crossed e (view st).next r.next a b (in_e a ha) (in_e b hb) (in_e ((view st).next a) (W.links.next-live a ha)) (in_e ((view st).next b) (W.links.next-live b hb)) in
      let ca = live_stored H.shared W.shared ((view st).class a) (W.class-live a ha) in
      let cb = live_stored H.shared W.shared ((view st).class b) (W.class-live b hb) in
      view_path _ _ refl
      (x.gen ∙ r.gen) (x.pay ∙ r.pay) (x.class ∙ rewritten-class st R b ((view st).class a) hb)
      (x.prev ∙ ap (λ (f : ℕ → ℕ). upd (upd f ((view st).next b) a) ((view st).next a) b) r.prev) x.next (x.bytes ∙ r.bytes)
      (search cols) (search cols) (search cols) (search cols) (search cols)

  pub joined_keeps : (view st).class a ≢ (view st).class b → Ready (joined st a b)
  joined_keeps differ = ready-still R (joined-still st a b) (rw joined_view (joined-sound (view st) a b (working st R) ha hb differ))
