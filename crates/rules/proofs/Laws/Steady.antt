-- Ticket 1: what the calls but compression do to the live slots, their classes and their marks. No frame comes into a sealed run.
use Rattle.std.specs.Prelude.{◌==◌}
use mathlib.Core.Path.{◌≡◌, refl, sym, ap, ◌∙◌}
use mathlib.Core.Logic.{◌≢◌}
use mathlib.Core.Bool.{false}
use mathlib.Core.List.{List, ◌∷◌}
use Prim.Native.Nat.{ℕ, zero, suc, ◌≤◌}
use native.Mathlib.Omega.{arith}
use native.Mathlib.Decide.{ℕ_discrete}
use Rattle.rules.specs.Tables.{State, elem_side, shared_side, size_at, is_sealed}
use Rattle.rules.specs.Slots.{slot_of}
use Rattle.rules.specs.Runs.{begun, inserted, joined, removed}
use Rattle.rules.specs.Drains.{drained}
use Rattle.rules.specs.Calls.{Ready}
use Rattle.rules.proofs.Laws.Lists.{Out, out_of}
use Rattle.rules.proofs.Laws.Columns.{upd, upd_same, upd_other}
use Rattle.rules.proofs.Laws.Tests.{eq_is, is-not}
use Rattle.rules.proofs.Laws.Pools.{Room, take}
use Rattle.rules.proofs.Laws.Working.{View, view, Ring, Working}
use Rattle.rules.proofs.Laws.Soundness.{ring-at}
use Rattle.rules.proofs.Laws.Safe.{working}
use Rattle.rules.proofs.Laws.Links.{live_ne}
use Rattle.rules.proofs.Laws.Wiped.{wipe, wipe_out, wipe_in}
use Rattle.rules.proofs.Laws.NewRun.{new_run_v, begun_view}
use Rattle.rules.proofs.Laws.Insert.{insert_v, inserted_view}
use Rattle.rules.proofs.Laws.Rewritten.{recolour}
use Rattle.rules.proofs.Laws.Union.{joined_v, joined_view}
use Rattle.rules.proofs.Laws.Leaving.{last_one}
use Rattle.rules.proofs.Laws.Remove.{remove_v, removed-on, removed-last, remove_keeps, not_last}
use Rattle.rules.proofs.Laws.RemoveShared.{remove_shared_v, ring_removed, ring_removed-view}
use Rattle.rules.proofs.Laws.Drained.{onward}

-- the mark of a slot's class
abbrev pub mark_at : View → ℕ → ℕ
mark_at v s = v.mark (v.class s)

-- the test of a seal: a mark is 0 or 1
pub unmarked : (st : State) → Ready st → (x : ℕ) → is_sealed st x ≡ false → mark_at (view st) x ≡ 0
unmarked st R x e =
    let m = mark_at (view st) x in
    let n : m ≢ 1 = is-not (m ≡ 1) (m == 1) (eq_is m 1) e in
    omega (arith, ((working st R).marks ((view st).class x)).0)

-- ---- frames are only taken out: what is live was so, in the same run, with the same mark
pub record Fewer (v v' : View) : Type 0 where
  pub gen : (s : ℕ) → v'.gen s ≢ 0 → v'.gen s ≡ v.gen s
  pub class : (s : ℕ) → v'.gen s ≢ 0 → v'.class s ≡ v.class s
  pub mark : (s : ℕ) → v'.gen s ≢ 0 → v'.mark (v.class s) ≡ v.mark (v.class s)
  pub bytes : (s : ℕ) → v'.gen s ≢ 0 → v'.bytes s ≡ v.bytes s

pub fewer-none : (v v' : View) → ((s : ℕ) → v'.gen s ≡ 0) → Fewer v v'
fewer-none v v' z = record { gen = λ s h. absurd (h (z s)); class = λ s h. absurd (h (z s)); mark = λ s h. absurd (h (z s)); bytes = λ s h. absurd (h (z s)) }

pub fewer_then : (u v w : View) → Fewer u v → Fewer v w → Fewer u w
fewer_then u v w F E =
    let on : (s : ℕ) → w.gen s ≢ 0 → v.gen s ≢ 0 = λ s h z. h (E.gen s h ∙ z) in
    record {
      gen = λ s h. E.gen s h ∙ F.gen s (on s h);
      class = λ s h. E.class s h ∙ F.class s (on s h);
      mark = λ s h. let e = F.class s (on s h) in ap w.mark (sym e) ∙ E.mark s h ∙ ap v.mark e ∙ F.mark s (on s h);
      bytes = λ s h. E.bytes s h ∙ F.bytes s (on s h);
    }

pub fewer-same : (v v' : View) → v'.gen ≡ v.gen → v'.class ≡ v.class → v'.mark ≡ v.mark → v'.bytes ≡ v.bytes → Fewer v v'
fewer-same v v' g c m b = record { gen = λ s h. ap (λ (f : ℕ → ℕ). f s) g; class = λ s h. ap (λ (f : ℕ → ℕ). f s) c; mark = λ s h. ap (λ (f : ℕ → ℕ). f (v.class s)) m; bytes = λ s h. ap (λ (f : ℕ → ℕ). f s) b }

module _ (st : State) (R : Ready st) (x : ℕ) (hx : (view st).gen x ≢ 0) where
  abbrev v : View
  v = view st

  abbrev W : Working (view st)
  W = working st R

  -- Rules 7
  pub removed-fewer : Fewer (view st) (view (removed st x))
  unfolding remove_v
  removed-fewer = go (ℕ_discrete (v.count (v.class x)) 1)
    where
      apart : (s : ℕ) → upd v.gen x 0 s ≢ 0 → s ≢ x
      apart s h e = h (rw (e, upd_same))

      go : Dec (v.count (v.class x) ≡ 1) → Fewer v (view (removed st x))
      go (yes e) = rw (removed-last st R x hx e) (record {
        gen = λ s h. upd_other v.gen x 0 s (apart s h);
        class = λ s h. upd_other v.class x 0 s (apart s h);
        mark = λ s h.
            let l : v.gen s ≢ 0 = rw (upd_other v.gen x 0 s (apart s h)) at h in
            upd_other v.mark (v.class x) 0 (v.class s) (λ q. not_last v x _ _ _ _ _ W hx (last_one v x W hx e) s l (apart s h) q e);
        bytes = λ s h. upd_other v.bytes x 0 s (apart s h);
      })
      go (no e) = rw (removed-on st R x hx e) (record {
        gen = λ s h. upd_other v.gen x 0 s (apart s h);
        class = λ s h. upd_other v.class x 0 s (apart s h);
        mark = λ s h. refl;
        bytes = λ s h. upd_other v.bytes x 0 s (apart s h);
      })

  -- Rules 8
  pub ring_removed-fewer : Fewer (view st) (view (ring_removed st x))
  unfolding remove_shared_v
  ring_removed-fewer = rw (ring_removed-view st R x hx) (record {
    gen = λ s h. wipe_out xs v.gen s (outside s h);
    class = λ s h. wipe_out xs v.class s (outside s h);
    mark = λ s h.
        let l : v.gen s ≢ 0 = rw (wipe_out xs v.gen s (outside s h)) at h in
        upd_other v.mark (v.class x) 0 (v.class s) (λ e. h (wipe_in xs v.gen s (r.whole s (record { live = l; mine = e }))));
    bytes = λ s h. wipe_out xs v.bytes s (outside s h);
  })
    where
      r : Ring v.gen v.class v.next (v.class x) x (v.count (v.class x))
      r = ring-at v W x hx

      xs : List ℕ
      xs = x ∷ r.rest

      outside : (s : ℕ) → wipe xs v.gen s ≢ 0 → Out s xs
      outside s h = out_of s xs (λ m. h (wipe_in xs v.gen s m))

-- Rules 10: as many frames as the ring has, or fewer
pub drained-fewer : (n : ℕ) (st : State) → Ready st → (x : ℕ) → (view st).gen x ≢ 0 → n ≤ size_at st x → Fewer (view st) (view (drained n st x))
unfolding drained
drained-fewer zero st R x h l = fewer-same (view st) (view st) refl refl refl refl
drained-fewer (suc zero) st R x h l = removed-fewer st R x h
drained-fewer (suc (suc n)) st R x h l =
    let o = onward st R x h (omega arith) in
    fewer_then (view st) (view (removed st x)) (view (drained (suc n) (removed st x) ((view st).next x))) (removed-fewer st R x h)
    (drained-fewer (suc n) (removed st x) (remove_keeps st R x h) ((view st).next x) o.live (omega (arith, o.size)))

-- ---- none is taken out: a live slot is as it was, or it was free and its run is not sealed
pub record Steady (v v' : View) : Type 0 where
  pub stays : (s : ℕ) → v.gen s ≢ 0 → v'.gen s ≡ v.gen s
  pub mark : (s : ℕ) → v.gen s ≢ 0 → mark_at v' s ≡ mark_at v s
  pub new : (s : ℕ) → v.gen s ≡ 0 → v'.gen s ≢ 0 → mark_at v' s ≡ 0
  -- two frames of one run, of which one was in a sealed run, were of one run
  pub joins : (s t : ℕ) → v.gen s ≢ 0 → mark_at v s ≡ 1 → v'.gen t ≢ 0 → v'.class t ≡ v'.class s → (v.gen t ≢ 0) × (v.class t ≡ v.class s)

pub steady_same : (v v' : View) → v'.gen ≡ v.gen → v'.class ≡ v.class → v'.mark ≡ v.mark → Steady v v'
steady_same v v' g c m = record {
  stays = λ s h. rw g;
  mark = λ s h. rw (c, m);
  new = λ s z h. absurd (h (rw g z));
  joins = λ s t h q l e. (rw g at l, rw c at e);
}

-- Rules 4
module _ (st : State) (R : Ready st) (payload value size : ℕ) (room : Room st.head.elems) (room' : Room st.head.shared) where
  pub begun_steady : Steady (view st) (view (begun st payload value size))
  unfolding new_run_v
  begun_steady = rw (begun_view st R payload value size room room') (record {
    stays = λ s h. upd_other v.gen i st.head.generation s (old s h);
    mark = λ s h. rw (upd_other v.class i c s (old s h)) (upd_other v.mark c 0 (v.class s) (other s h));
    new = λ s z h. new s (ℕ_discrete s i) z h;
    joins = λ s t h m l e. joins s t h (ℕ_discrete t i) l e;
  })
    where
      v : View
      v = view st

      W : Working v
      W = working st R

      i : ℕ
      i = slot_of st.head.elems

      c : ℕ
      c = slot_of st.head.shared

      old : (s : ℕ) → v.gen s ≢ 0 → s ≢ i
      old s h = live_ne v.gen h (take (elem_side st) W.elems room).unused

      other : (s : ℕ) → v.gen s ≢ 0 → v.class s ≢ c
      other s h = live_ne v.count (W.class-live s h) (take (shared_side st) W.shared room').unused

      new : (s : ℕ) → Dec (s ≡ i) → v.gen s ≡ 0 → upd v.gen i st.head.generation s ≢ 0 → upd v.mark c 0 (upd v.class i c s) ≡ 0
      new s (yes e) z h = rw (e, upd_same v.class i c, upd_same v.mark c 0)
      new s (no e) z h = absurd (h (upd_other v.gen i st.head.generation s e ∙ z))

      joins : (s t : ℕ) → v.gen s ≢ 0 → Dec (t ≡ i) → upd v.gen i st.head.generation t ≢ 0 → upd v.class i c t ≡ upd v.class i c s → (v.gen t ≢ 0) × (v.class t ≡ v.class s)
      joins s t h (yes q) l e = absurd (other s h (sym (upd_other v.class i c s (old s h)) ∙ sym e ∙ rw (q, upd_same)))
      joins s t h (no q) l e = (rw (upd_other v.gen i st.head.generation t q) at l, sym (upd_other v.class i c t q) ∙ e ∙ upd_other v.class i c s (old s h))

-- Rules 5, at a run that is not sealed
module _ (st : State) (R : Ready st) (x payload size : ℕ) (hx : (view st).gen x ≢ 0) (room : Room st.head.elems) (unsealed : mark_at (view st) x ≡ 0) where
  pub inserted_steady : Steady (view st) (view (inserted st x payload size))
  unfolding insert_v
  inserted_steady = rw (inserted_view st R x payload size hx room) (record {
    stays = λ s h. upd_other v.gen i st.head.generation s (old s h);
    mark = λ s h. ap v.mark (upd_other v.class i (v.class x) s (old s h));
    new = λ s z h. new s (ℕ_discrete s i) z h;
    joins = λ s t h m l e. joins s t h m (ℕ_discrete t i) l e;
  })
    where
      v : View
      v = view st

      i : ℕ
      i = slot_of st.head.elems

      old : (s : ℕ) → v.gen s ≢ 0 → s ≢ i
      old s h = live_ne v.gen h (take (elem_side st) (working st R).elems room).unused

      new : (s : ℕ) → Dec (s ≡ i) → v.gen s ≡ 0 → upd v.gen i st.head.generation s ≢ 0 → v.mark (upd v.class i (v.class x) s) ≡ 0
      new s (yes e) z h = rw (e, upd_same) unsealed
      new s (no e) z h = absurd (h (upd_other v.gen i st.head.generation s e ∙ z))

      joins : (s t : ℕ) → v.gen s ≢ 0 → mark_at v s ≡ 1 → Dec (t ≡ i) → upd v.gen i st.head.generation t ≢ 0 → upd v.class i (v.class x) t ≡ upd v.class i (v.class x) s → (v.gen t ≢ 0) × (v.class t ≡ v.class s)
      joins s t h m (yes q) l e =
          let w : v.class x ≡ v.class s = sym (rw (q, upd_same)) ∙ e ∙ upd_other v.class i (v.class x) s (old s h) in
          absurd (omega (arith, unsealed, m, ap v.mark w))
      joins s t h m (no q) l e = (rw (upd_other v.gen i st.head.generation t q) at l, sym (upd_other v.class i (v.class x) t q) ∙ e ∙ upd_other v.class i (v.class x) s (old s h))

-- Rules 6, of two runs that are not sealed
module _ (st : State) (R : Ready st) (a b : ℕ) (ha : (view st).gen a ≢ 0) (hb : (view st).gen b ≢ 0) (differ : (view st).class a ≢ (view st).class b) (unsealed_a : mark_at (view st) a ≡ 0) (unsealed_b : mark_at (view st) b ≡ 0) where
  pub joined_steady : Steady (view st) (view (joined st a b))
  unfolding joined_v recolour
  joined_steady = rw (joined_view st R a b ha hb) (record {
    stays = λ s h. refl;
    mark = λ s h. mark s (ℕ_discrete (v.class s) (v.class b));
    new = λ s z h. absurd (h z);
    joins = λ s t h m l e. (l, joins s t m (ℕ_discrete (v.class s) (v.class b)) (ℕ_discrete (v.class t) (v.class b)) e);
  })
    where
      v : View
      v = view st

      into : ℕ → ℕ
      into c = upd (λ k. k) (v.class b) (v.class a) c

      here : (c : ℕ) → c ≡ v.class b → into c ≡ v.class a
      here c e = rw (e, upd_same)

      past : (c : ℕ) → c ≢ v.class b → into c ≡ c
      past c n = upd_other (λ k. k) (v.class b) (v.class a) c n

      mark : (s : ℕ) → Dec (v.class s ≡ v.class b) → upd v.mark (v.class b) 0 (into (v.class s)) ≡ v.mark (v.class s)
      mark s (yes e) = rw (here (v.class s) e) (upd_other v.mark (v.class b) 0 (v.class a) differ ∙ unsealed_a ∙ sym unsealed_b ∙ ap v.mark (sym e))
      mark s (no e) = rw (past (v.class s) e) (upd_other v.mark (v.class b) 0 (v.class s) e)

      joins : (s t : ℕ) → mark_at v s ≡ 1 → Dec (v.class s ≡ v.class b) → Dec (v.class t ≡ v.class b) → into (v.class t) ≡ into (v.class s) → v.class t ≡ v.class s
      joins s t m (yes p) q e = absurd (omega (arith, m, unsealed_b, ap v.mark p))
      joins s t m (no p) (yes q) e = absurd (omega (arith, m, unsealed_a, ap v.mark (sym (here (v.class t) q) ∙ e ∙ past (v.class s) p)))
      joins s t m (no p) (no q) e = sym (past (v.class t) q) ∙ e ∙ past (v.class s) p
