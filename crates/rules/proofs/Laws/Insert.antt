-- Insert: the columns after it, and that it keeps a sound state.
use mathlib.Core.Path.{◌≡◌, refl, sym, ap, ◌∙◌}
use mathlib.Core.Logic.{◌≢◌}
use Prim.Native.Nat.{ℕ, ◌+◌, ◌≤◌}
use native.Mathlib.Omega.{arith}
use native.Mathlib.Decide.{ℕ_discrete}
use Rattle.rules.specs.declared.Pool.{Pool}
use Rattle.rules.specs.Tables.{last_generation, most_bytes, State, elem_side, blank}
use Rattle.rules.specs.Slots.{slot_of, taken}
use Rattle.rules.specs.Runs.{inserted}
use Rattle.rules.specs.Calls.{Ready}
use Rattle.rules.proofs.Laws.Columns.{upd, upd_same, upd_other, cols, length-put, length-row}
use Rattle.rules.proofs.Laws.Pools.{Room, Taken, take, keep}
use Rattle.rules.proofs.Laws.Marked.{marked-count}
use Rattle.rules.proofs.Laws.Totals.{sizes-put}
use Rattle.rules.proofs.Laws.Working.{View, view, view_path, Frame, Ring, Working, turn}
use Rattle.rules.proofs.Laws.Soundness.{shaped_of}
use Rattle.rules.proofs.Laws.Safe.{working}
use Rattle.rules.proofs.Laws.Stored.{Still, ready-still, taken-capacity, live_stored, taken_stored}
use Rattle.rules.proofs.Laws.Links.{live_ne, Spliced, links-insert, ring-frame, ring-insert}

-- the new frame has the slot `i`, and the pool is then `q`
unfoldable pub insert_v : View → (at payload size slot : ℕ) → Pool → View
insert_v v x t z i q = record {
  head = record { elems = q; shared = v.head.shared; generation = v.head.generation; undo = blank };
  gen = upd v.gen i v.head.generation;
  pay = upd v.pay i t;
  class = upd v.class i (v.class x);
  prev = upd (upd v.prev i x) (v.next x) i;
  next = upd (upd v.next i (v.next x)) x i;
  bytes = upd v.bytes i z;
  count = upd v.count (v.class x) (v.count (v.class x) + 1);
  value = v.value;
  chain = v.chain;
  mark = v.mark;
  total = upd v.total (v.class x) (v.total (v.class x) + z);
}

module _ (v : View) (x t z i : ℕ) (q : Pool) (S : Working v) (hx : v.gen x ≢ 0) (T : Taken v.head.elems v.gen v.next i q) where
  pub spliced : Spliced v.gen v.prev v.next (insert_v v x t z i q).gen (insert_v v x t z i q).prev (insert_v v x t z i q).next x i
  unfolding insert_v
  spliced =
      let xi : x ≢ i = live_ne v.gen hx T.unused in
      let mi : v.next x ≢ i = live_ne v.gen (S.links.next-live x hx) T.unused in
      let ix : i ≢ x = λ e. xi (sym e) in
      let im : i ≢ v.next x = λ e. mi (sym e) in
      record {
        target = hx;
        fresh = T.unused;
        g_i = rw upd_same (omega (arith, S.least));
        g_o = λ s e. upd_other v.gen i v.head.generation s e;
        n_x = simp upd_same;
        n_i = simp (upd_other, upd_same);
        n_o = λ s e f. simp upd_other;
        p_i = simp (upd_other, upd_same);
        p_m = simp upd_same;
        p_o = λ s e f. simp upd_other;
      }

  pub insert-sound : z ≤ most_bytes → Working (insert_v v x t z i q)
  unfolding insert_v
  insert-sound small = record {
    least = S.least;
    most = S.most;
    elems = T.after v.head.generation (insert_v v x t z i q).next (omega (arith, S.least)) (λ s e f. spliced.n_o s (λ r. live_ne v.gen hx e (sym r)) f);
    shared = keep S.shared (v.class x) (v.count (v.class x) + 1) (S.class-live x hx) (omega arith) v.chain (λ s e. refl);
    gens = λ s. gens s (ℕ_discrete s i);
    zeros = λ s. zeros s (ℕ_discrete s i);
    value-zero = λ c. value-zero c (ℕ_discrete c (v.class x));
    chain-zero = λ c. chain-zero c (ℕ_discrete c (v.class x));
    marks = marked-count v.mark v.count S.marks (v.class x) (v.count (v.class x) + 1) (omega arith);
    sizes = rw T.still (sizes-put S.sizes i v.head.generation (v.class x) z T.low T.fits T.unused (omega (arith, S.least)) small);
    links = links-insert spliced S.links;
    class-live = λ s. class-live s (ℕ_discrete s i);
    ring = λ c. ring c (ℕ_discrete c (v.class x));
  }
    where
      gens : (s : ℕ) → Dec (s ≡ i) → (insert_v v x t z i q).gen s ≤ last_generation
      gens s (yes e) = rw (e, upd_same) S.most
      gens s (no e) = rw upd_other (S.gens s)

      zeros : (s : ℕ) → Dec (s ≡ i) → (insert_v v x t z i q).gen s ≡ 0 → ((insert_v v x t z i q).pay s ≡ 0) × ((insert_v v x t z i q).class s ≡ 0) × ((insert_v v x t z i q).prev s ≡ 0)
      zeros s (yes e) h = absurd (spliced.g_i (rw e at h))
      zeros s (no e) h =
          let h' : v.gen s ≡ 0 = rw upd_other at h in
          let m : s ≢ v.next x = λ r. live_ne v.gen (S.links.next-live x hx) h' (sym r) in
          simp upd_other (S.zeros s h')

      value-zero : (c : ℕ) → Dec (c ≡ v.class x) → (insert_v v x t z i q).count c ≡ 0 → v.value c ≡ 0
      value-zero c (yes e) h = absurd (omega (arith, rw (e, upd_same) at h))
      value-zero c (no e) h = S.value-zero c (rw upd_other at h)

      chain-zero : (c : ℕ) → Dec (c ≡ v.class x) → (insert_v v x t z i q).count c ≢ 0 → v.chain c ≡ 0
      chain-zero c (yes e) h = rw e (S.chain-zero (v.class x) (S.class-live x hx))
      chain-zero c (no e) h = S.chain-zero c (rw upd_other at h)

      counted : (c : ℕ) → Dec (c ≡ v.class x) → v.count c ≢ 0 → (insert_v v x t z i q).count c ≢ 0
      counted c (yes e) h = rw (e, upd_same) (omega arith)
      counted c (no e) h = rw upd_other h

      class-live : (s : ℕ) → Dec (s ≡ i) → (insert_v v x t z i q).gen s ≢ 0 → (insert_v v x t z i q).count ((insert_v v x t z i q).class s) ≢ 0
      class-live s (yes e) h = rw (e, upd_same, upd_same) (omega arith)
      class-live s (no e) h = rw (upd_other v.class i (v.class x) s e) (counted (v.class s) (ℕ_discrete (v.class s) (v.class x)) (S.class-live s (rw upd_other at h)))

      ring : (c : ℕ) → Dec (c ≡ v.class x) → (insert_v v x t z i q).count c ≢ 0
          → (y : ℕ) × Ring (insert_v v x t z i q).gen (insert_v v x t z i q).class (insert_v v x t z i q).next c y ((insert_v v x t z i q).count c)
      ring c (yes e) h =
          let k = S.ring (v.class x) (S.class-live x hx) in
          let r = turn k.1 (record { live = hx; mine = refl }) in
          rw (e, upd_same) (x, ring-insert spliced (upd_same v.class i (v.class x)) (λ s o. upd_other v.class i (v.class x) s o) r)
      ring c (no e) h =
          let k = S.ring c (rw upd_other at h) in (
            k.0,
            rw (upd_other v.count (v.class x) (v.count (v.class x) + 1) c e) (ring-frame k.1
                (λ s f. let o : s ≢ i = live_ne v.gen f.live T.unused in record { live = rw upd_other f.live; mine = rw upd_other f.mine })
                (λ s f. back s f (ℕ_discrete s i))
                (λ s f. spliced.n_o s (λ r. e (sym f.mine ∙ ap v.class r)) (live_ne v.gen f.live T.unused))),
          )
        where
          back : (s : ℕ) → Frame (insert_v v x t z i q).gen (insert_v v x t z i q).class c s → Dec (s ≡ i) → Frame v.gen v.class c s
          back s f (yes r) = absurd (e (sym f.mine ∙ rw (r, upd_same)))
          back s f (no r) = record { live = rw upd_other at f.live; mine = rw upd_other at f.mine }

-- ---- the book's rule
pub inserted-still : (st : State) (x payload size : ℕ) → Still st (inserted st x payload size)
unfolding inserted
inserted-still st x payload size = record { elems = taken-capacity (elem_side st); shared = refl; elems-long = simp (length-put, length-row); shared_long = simp length-put }

module _ (st : State) (R : Ready st) (x payload size : ℕ) (hx : (view st).gen x ≢ 0) (room : Room st.head.elems) where
  pub inserted_view : view (inserted st x payload size) ≡ insert_v (view st) x payload size (slot_of st.head.elems) (taken (elem_side st))
  unfolding inserted insert_v
  inserted_view =
      let H = shaped_of st R.shape in
      let W = working st R in
      let si = taken_stored H.elems W.elems (take (elem_side st) W.elems room) in
      let sx = live_stored H.elems W.elems x hx in
      let sn = live_stored H.elems W.elems ((view st).next x) (W.links.next-live x hx) in
      let sc = live_stored H.shared W.shared ((view st).class x) (W.class-live x hx) in
      view_path _ _ refl (search cols) (search cols) (search cols) (search cols) (search cols) (search cols) (search cols) (search cols) (search cols) (search cols) (search cols)

  pub insert_keeps : size ≤ most_bytes → Ready (inserted st x payload size)
  insert_keeps small =
      ready-still R (inserted-still st x payload size)
      (rw inserted_view (insert-sound (view st) x payload size (slot_of st.head.elems) (taken (elem_side st)) (working st R) hx (take (elem_side st) (working st R).elems room) small))
