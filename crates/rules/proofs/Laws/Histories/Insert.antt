-- Insert steps the history: the new key stands immediately after the target (Rules 5).
use mathlib.Core.Path.{◌≡◌, refl, sym, ap, ◌∙◌, subst, subst⁻¹}
use mathlib.Core.Logic.{◌≢◌, inl, inr}
use mathlib.Core.Bool.{false}
use mathlib.Core.List.{List, ◌∷◌, ◌++◌}
use Prim.Native.Nat.{ℕ, ◌+◌}
use native.Mathlib.Omega.{arith}
use native.Mathlib.Decide.{ℕ_discrete}
use lib.ListN.{length}
use Rattle.rules.specs.declared.Key.{Key}
use Rattle.rules.specs.Notation.{flat}
use Rattle.rules.specs.Tables.{sized, State, elem_side}
use Rattle.rules.specs.Slots.{slot_of, taken, is_full}
use Rattle.rules.specs.Runs.{new_key, key_values, inserted}
use Rattle.rules.specs.Calls.{insert}
use Rattle.rules.specs.History.{History, frames, others_of, runs_but, inserted_runs, accepted}
use Rattle.rules.proofs.Laws.Columns.{upd_other, upd_same}
use Rattle.rules.proofs.Laws.Lists.{All, In, all_map, all_both, all_parts, cycles_frame, walk-frame}
use Rattle.rules.proofs.Laws.Pools.{Room, take}
use Rattle.rules.proofs.Laws.Working.{View, view, Links}
use Rattle.rules.proofs.Laws.Links.{live_ne, Spliced}
use Rattle.rules.proofs.Laws.Safe.{working}
use Rattle.rules.proofs.Laws.Stored.{room}
use Rattle.rules.proofs.Laws.Insert.{insert_v, spliced, inserted_view, insert_keeps}
use Rattle.rules.proofs.Laws.Fronted.{fronted, same_length}
use Rattle.rules.proofs.Laws.Rep.{key_at, next_key, LiveKey, Rep, rep_same, slots_apart, held, key-at}
use Rattle.rules.proofs.Laws.Steady.{mark_at, inserted_steady}
use Rattle.rules.proofs.Laws.Seals.{seals_steady}
use Rattle.rules.proofs.Laws.Totals.{sized-most}
use Rattle.rules.proofs.Laws.Givens.{Givens, givens_put}
use Rattle.rules.proofs.Laws.Good.{Good}

module _ (v v' : View) (k : Key) (i : ℕ) (L : Links v.gen v.prev v.next) (S : Spliced v.gen v.prev v.next v'.gen v'.prev v'.next k.slot i) where
  rep_second : (xs : List Key) (hs : List (List Key)) → Rep v ((k ∷ xs) ∷ hs) → Rep v' ((k ∷ key_at v' i ∷ xs) ∷ hs)
  rep_second xs hs R =
      let others : All (LiveKey v) (xs ++ flat hs) = R.live.1 in
      let same : All (λ x. next_key v' x ≡ next_key v x) (xs ++ flat hs) = all_both next-same (xs ++ flat hs) others R.once.0 in
      let parts = all_parts (λ x. next_key v' x ≡ next_key v x) xs (flat hs) same in
      record {
        rings = (
          (ap (key_at v') S.n_x, rw next_new (walk-frame (next_key v) (next_key v') (next_key v k) k xs parts.0 R.rings.0)),
          cycles_frame (next_key v) (next_key v') hs parts.1 R.rings.1,
        );
        live = (stays k R.live.0, (record { live = S.g_i; gen = refl }, all_map stays (xs ++ flat hs) others));
        once = (((λ e. old k R.live.0 (ap (λ (x : Key). x.slot) e)), R.once.0), (all_map (λ x l e. old x l (sym (ap (λ (x : Key). x.slot) e))) (xs ++ flat hs) others, R.once.1));
        whole = λ s h. whole s h (ℕ_discrete s i);
      }
    where
      old : (x : Key) → LiveKey v x → x.slot ≢ i
      old x l = live_ne v.gen l.live S.fresh

      stays : (x : Key) → LiveKey v x → LiveKey v' x
      stays x l = let e = S.g_o x.slot (old x l) in record { live = rw e l.live; gen = e ∙ l.gen }

      keeps : (s : ℕ) → v.gen s ≢ 0 → key_at v' s ≡ key_at v s
      keeps s h = key-at v v' s (S.g_o s (live_ne v.gen h S.fresh))

      -- a key other than `k` has the same next key
      next-same : (x : Key) → LiveKey v x → k ≢ x → next_key v' x ≡ next_key v x
      next-same x l n = ap (key_at v') (S.n_o x.slot (slots_apart v x k l R.live.0 (λ e. n (sym e))) (old x l)) ∙ keeps (v.next x.slot) (L.next-live x.slot l.live)

      next_new : next_key v' (key_at v' i) ≡ next_key v k
      next_new = ap (key_at v') S.n_i ∙ keeps (v.next k.slot) (L.next-live k.slot S.target)

      put_in : (y : Key) → In y (k ∷ (xs ++ flat hs)) → In y (k ∷ key_at v' i ∷ (xs ++ flat hs))
      put_in y (inl e) = inl e
      put_in y (inr m) = inr (inr m)

      whole : (s : ℕ) → v'.gen s ≢ 0 → Dec (s ≡ i) → In (key_at v' s) (k ∷ key_at v' i ∷ (xs ++ flat hs))
      whole s h (yes e) = inr (inl (ap (key_at v') e))
      whole s h (no e) = let l : v.gen s ≢ 0 = rw (S.g_o s e) at h in subst⁻¹ (λ (j : Key). In j (k ∷ key_at v' i ∷ (xs ++ flat hs))) (keeps s l) (put_in (key_at v s) (R.whole s l))

  pub rep_insert : (h : List (List Key)) → LiveKey v k → Rep v h → Rep v' (inserted_runs k (key_at v' i) h)
  unfolding inserted_runs
  rep_insert h l R = rep_second (others_of k h) (runs_but k h) (rep_same v (fronted k h R.once (held v h k R l)) R)

-- state and history together
module _ (st : State) (h : History) (G : Good st h) (k : Key) (payload size : ℕ) (l : LiveKey (view st) k) (unsealed : mark_at (view st) k.slot ≡ 0) (some : is_full st.head.elems ≡ false) where
  free : Room st.head.elems
  free = room (working st G.ready).elems some

  rings : Rep (view (inserted st k.slot payload (sized size))) (inserted_runs k (new_key st) h.runs)
  unfolding insert_v
  rings =
      let W = working st G.ready in
      let i = slot_of st.head.elems in
      let v' = insert_v (view st) k.slot payload (sized size) i (taken (elem_side st)) in
      let e : key_at v' i ≡ new_key st = λ j. record { slot = i; generation = upd_same (view st).gen i st.head.generation j } in
      rw (inserted_view st G.ready k.slot payload (sized size) l.live free)
      (subst (λ (j : Key). Rep v' (inserted_runs k j h.runs)) e
      (rep_insert (view st) v' k i W.links (spliced (view st) k.slot payload (sized size) i (taken (elem_side st)) W l.live (take (elem_side st) W.elems free)) h.runs l G.rings))

  frames-put : length (flat (inserted_runs k (new_key st) h.runs)) ≡ frames h + 1
  unfolding inserted_runs
  frames-put = omega (arith, same_length (fronted k h.runs G.rings.once (held (view st) h.runs k G.rings l)))

  sizes : Givens (view (inserted st k.slot payload (sized size))) (record { key = new_key st; bytes = sized size } ∷ h.sizes)
  unfolding insert_v
  sizes =
      let W = working st G.ready in
      let i = slot_of st.head.elems in
      let g = st.head.generation in
      let v' = insert_v (view st) k.slot payload (sized size) i (taken (elem_side st)) in
      let e : key_at v' i ≡ new_key st = λ j. record { slot = i; generation = upd_same (view st).gen i g j } in
      rw (inserted_view st G.ready k.slot payload (sized size) l.live free)
      (subst (λ (j : Key). Givens v' (record { key = j; bytes = sized size } ∷ h.sizes)) e
      (givens_put (view st) v' i (sized size) (take (elem_side st) W.elems free).unused (rw upd_same (omega (arith, W.least))) (upd_same (view st).bytes i (sized size))
      (λ s n. (upd_other (view st).gen i g s n, upd_other (view st).bytes i (sized size) s n)) h.sizes G.sizes))

  pub good-insert : Good (inserted st k.slot payload (sized size)) (accepted h (insert k payload size) (key_values (new_key st)))
  unfolding inserted
  good-insert = record { ready = insert_keeps st G.ready k.slot payload (sized size) l.live free (sized-most size); rings = rings; generation = G.generation; seals = seals_steady (view st) (view (inserted st k.slot payload (sized size))) (inserted_steady st G.ready k.slot payload (sized size) l.live free unsealed) h.sealed G.seals; sizes = sizes; counts = omega (arith, frames-put, G.counts) }
