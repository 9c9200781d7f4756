-- New run steps the history: a run of one key (Rules 4).
use mathlib.Core.Path.{◌≡◌, refl, sym, ap, ◌∙◌, subst, subst⁻¹}
use mathlib.Core.Logic.{◌≢◌, inl, inr}
use mathlib.Core.Bool.{false}
use mathlib.Core.List.{List, [], ◌∷◌}
use Prim.Native.Nat.{ℕ}
use native.Mathlib.Omega.{arith}
use native.Mathlib.Decide.{ℕ_discrete}
use Rattle.rules.specs.declared.Key.{Key}
use Rattle.rules.specs.Notation.{flat}
use Rattle.rules.specs.Tables.{sized, State, elem_side, shared_side}
use Rattle.rules.specs.Slots.{slot_of, taken, is_full}
use Rattle.rules.specs.Runs.{new_key, key_values, begun}
use Rattle.rules.specs.Calls.{new_run}
use Rattle.rules.specs.History.{History, accepted}
use Rattle.rules.proofs.Laws.Columns.{upd_same, upd_other}
use Rattle.rules.proofs.Laws.Lists.{In, all_map, cycles_frame}
use Rattle.rules.proofs.Laws.Pools.{Room, take}
use Rattle.rules.proofs.Laws.Working.{View, view, Links}
use Rattle.rules.proofs.Laws.Links.{live_ne}
use Rattle.rules.proofs.Laws.Safe.{working}
use Rattle.rules.proofs.Laws.Stored.{room}
use Rattle.rules.proofs.Laws.NewRun.{new_run_v, begun_view, new_run-keeps}
use Rattle.rules.proofs.Laws.Rep.{key_at, next_key, LiveKey, Rep, key-at}
use Rattle.rules.proofs.Laws.Steady.{begun_steady}
use Rattle.rules.proofs.Laws.Seals.{seals_steady}
use Rattle.rules.proofs.Laws.Totals.{sized-most}
use Rattle.rules.proofs.Laws.Givens.{Givens, givens_put}
use Rattle.rules.proofs.Laws.Good.{Good}

module _ (v v' : View) (i : ℕ) (L : Links v.gen v.prev v.next) (unused : v.gen i ≡ 0) (g_i : v'.gen i ≢ 0) (g_o : (s : ℕ) → s ≢ i → v'.gen s ≡ v.gen s)
    (n_i : v'.next i ≡ i) (n_o : (s : ℕ) → s ≢ i → v'.next s ≡ v.next s) where
  pub rep_new_run : (h : List (List Key)) → Rep v h → Rep v' ((key_at v' i ∷ []) ∷ h)
  rep_new_run h R = record {
    rings = (ap (key_at v') n_i, cycles_frame (next_key v) (next_key v') h (all_map next-same (flat h) R.live) R.rings);
    live = (record { live = g_i; gen = refl }, all_map stays (flat h) R.live);
    once = (all_map (λ x l e. old x l (sym (ap (λ (x : Key). x.slot) e))) (flat h) R.live, R.once);
    whole = λ s l. whole s l (ℕ_discrete s i);
  }
    where
      old : (x : Key) → LiveKey v x → x.slot ≢ i
      old x l = live_ne v.gen l.live unused

      stays : (x : Key) → LiveKey v x → LiveKey v' x
      stays x l = let e = g_o x.slot (old x l) in record { live = rw e l.live; gen = e ∙ l.gen }

      keeps : (s : ℕ) → v.gen s ≢ 0 → key_at v' s ≡ key_at v s
      keeps s h = key-at v v' s (g_o s (live_ne v.gen h unused))

      next-same : (x : Key) → LiveKey v x → next_key v' x ≡ next_key v x
      next-same x l = ap (key_at v') (n_o x.slot (old x l)) ∙ keeps (v.next x.slot) (L.next-live x.slot l.live)

      whole : (s : ℕ) → v'.gen s ≢ 0 → Dec (s ≡ i) → In (key_at v' s) (key_at v' i ∷ flat h)
      whole s l (yes e) = inl (ap (key_at v') e)
      whole s l (no e) = let m : v.gen s ≢ 0 = rw (g_o s e) at l in inr (subst⁻¹ (λ (j : Key). In j (flat h)) (keeps s m) (R.whole s m))

-- state and history together
module _ (st : State) (h : History) (G : Good st h) (payload value size : ℕ) (some : is_full st.head.elems ≡ false) (some' : is_full st.head.shared ≡ false) where
  free : Room st.head.elems
  free = room (working st G.ready).elems some

  free' : Room st.head.shared
  free' = room (working st G.ready).shared some'

  rings : Rep (view (begun st payload value (sized size))) ((new_key st ∷ []) ∷ h.runs)
  unfolding new_run_v
  rings =
      let W = working st G.ready in
      let i = slot_of st.head.elems in
      let g = st.head.generation in
      let v' = new_run_v (view st) payload value (sized size) i (taken (elem_side st)) (slot_of st.head.shared) (taken (shared_side st)) in
      let e : key_at v' i ≡ new_key st = λ j. record { slot = i; generation = upd_same (view st).gen i g j } in
      rw (begun_view st G.ready payload value (sized size) free free')
      (subst (λ (j : Key). Rep v' ((j ∷ []) ∷ h.runs)) e
      (rep_new_run (view st) v' i W.links (take (elem_side st) W.elems free).unused (rw upd_same (omega (arith, W.least))) (λ s n. upd_other (view st).gen i g s n)
      (upd_same (view st).next i i) (λ s n. upd_other (view st).next i i s n) h.runs G.rings))

  sizes : Givens (view (begun st payload value (sized size))) (record { key = new_key st; bytes = sized size } ∷ h.sizes)
  unfolding new_run_v
  sizes =
      let W = working st G.ready in
      let i = slot_of st.head.elems in
      let g = st.head.generation in
      let v' = new_run_v (view st) payload value (sized size) i (taken (elem_side st)) (slot_of st.head.shared) (taken (shared_side st)) in
      let e : key_at v' i ≡ new_key st = λ j. record { slot = i; generation = upd_same (view st).gen i g j } in
      rw (begun_view st G.ready payload value (sized size) free free')
      (subst (λ (j : Key). Givens v' (record { key = j; bytes = sized size } ∷ h.sizes)) e
      (givens_put (view st) v' i (sized size) (take (elem_side st) W.elems free).unused (rw upd_same (omega (arith, W.least))) (upd_same (view st).bytes i (sized size))
      (λ s n. (upd_other (view st).gen i g s n, upd_other (view st).bytes i (sized size) s n)) h.sizes G.sizes))

  pub good-new_run : Good (begun st payload value (sized size)) (accepted h (new_run payload value size) (key_values (new_key st)))
  unfolding begun
  good-new_run = record { ready = new_run-keeps st G.ready payload value (sized size) free free' (sized-most size); rings = rings; generation = G.generation; seals = seals_steady (view st) (view (begun st payload value (sized size))) (begun_steady st G.ready payload value (sized size) free free') h.sealed G.seals; sizes = sizes; counts = omega (arith, G.counts) }
