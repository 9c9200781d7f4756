-- Drains step the history: a run goes frame by frame, and all runs go run by run (Rules 10 and 11).
use mathlib.Core.Path.{◌≡◌, refl, sym, ap, ◌∙◌, subst}
use mathlib.Core.Logic.{◌≢◌, inl}
use mathlib.Core.List.{List, [], ◌∷◌}
use Prim.Native.Nat.{ℕ, zero, suc, ◌+◌}
use native.Mathlib.Omega.{arith}
use lib.ListN.{length, get_or, length-append}
use Rattle.rules.specs.declared.Key.{Key}
use Rattle.rules.specs.Notation.{steps, up_to, flat, keep}
use Rattle.rules.specs.Tables.{next_of, State, elem_side, is_live, size_at}
use Rattle.rules.specs.Slots.{raised}
use Rattle.rules.specs.Runs.{removed}
use Rattle.rules.specs.Drains.{drained, lowest, all_drained}
use Rattle.rules.specs.History.{History, frames, others_of, run_of, runs_but, with_runs, taking_out}
use Rattle.rules.proofs.Laws.Lists.{All, In, Cycle, in_right}
use Rattle.rules.proofs.Laws.Steps.{steps_add}
use Rattle.rules.proofs.Laws.Sums.{keep_in, keep_of, up_to-in}
use Rattle.rules.proofs.Laws.Pools.{live_in}
use Rattle.rules.proofs.Laws.Working.{view}
use Rattle.rules.proofs.Laws.Sides
use Rattle.rules.proofs.Laws.Safe.{working}
use Rattle.rules.proofs.Laws.Fronted.{same_length, same_runs}
use Rattle.rules.proofs.Laws.Rep.{key_at, next_key, LiveKey, Rep}
use Rattle.rules.proofs.Laws.Steady.{fewer-same}
use Rattle.rules.proofs.Laws.Seals.{seals_fewer, still-still}
use Rattle.rules.proofs.Laws.Givens.{givens_fewer, given_still_still}
use Rattle.rules.proofs.Laws.Good.{Good, good-same, good-told, key_fronted, size-from}
use Rattle.rules.proofs.Laws.Histories.Remove.{good-first}

-- the run that stands first goes
pub good-drained : (xs : List Key) (st : State) (h : History) → Good st h → (k : Key) (hs : List (List Key)) → h.runs ≡ (k ∷ xs) ∷ hs
    → Good (drained (suc (length xs)) st k.slot) (taking_out h (suc (length xs)) (suc (length xs)) hs)
unfolding drained
good-drained [] st h G k hs e = good-first st h G k [] hs e
good-drained (j ∷ ys) st h G k hs e =
    let after : next_of st.elems k.slot ≡ j.slot = ap (λ (x : Key). x.slot) (subst (λ (rs : List (List Key)). All (Cycle (next_key (view st))) rs) e G.rings.rings).0.0 in
    let n = suc (length ys) in
    let r = good-drained ys (removed st k.slot) (taking_out h 1 1 ((j ∷ ys) ∷ hs)) (good-first st h G k (j ∷ ys) hs e) j hs refl in
    subst (λ (x : ℕ). Good (drained n (removed st k.slot) x) (taking_out h (suc n) (suc n) hs)) (sym after) (good-told (still-still ((j ∷ ys) ∷ hs) hs h.sealed (λ x. in_right x (j ∷ ys) (flat hs))) (given_still_still ((j ∷ ys) ∷ hs) hs h.sizes (λ x. in_right x (j ∷ ys) (flat hs))) (omega arith) refl r)

module _ (st : State) (h : History) (G : Good st h) where
  -- the whole run of a live key
  pub good-run : (k : Key) → LiveKey (view st) k → Good (drained (size_at st k.slot) st k.slot) (taking_out h (length (run_of k h.runs)) (length (run_of k h.runs)) (runs_but k h.runs))
  good-run k l =
      let rs = run_of k h.runs ∷ runs_but k h.runs in
      subst (λ (n : ℕ). Good (drained n st k.slot) (taking_out h (length (run_of k h.runs)) (length (run_of k h.runs)) (runs_but k h.runs))) (size-from st h G k l)
      (good-drained (others_of k h.runs) st (with_runs h rs) (good-same rs (key_fronted st h G k l) G) k (runs_but k h.runs) refl)

  -- the lowest live slot, where there is one
  some-lowest : (s : ℕ) → (view st).gen s ≢ 0 → (view st).gen (lowest st) ≢ 0
  unfolding lowest
  some-lowest s n =
      let l = live_in (working st G.ready).elems s n in
      let m = keep_in (is_live (elem_side st)) s (up_to st.head.elems.extent) (up_to-in st.head.elems.extent s l.0 l.1) (Sides.live_to (elem_side st) s (record { low = l.0; high = l.1; used = n })) in
      (Sides.live_of (elem_side st) (get_or slots 0 0) (keep_of (is_live (elem_side st)) (get_or slots 0 0) (up_to st.head.elems.extent) (first slots m)).1).used
    where
      slots : List ℕ
      slots = keep (is_live (elem_side st)) (up_to st.head.elems.extent)

      first : (xs : List ℕ) → In s xs → In (get_or xs 0 0) xs
      first [] m = elim m [ ]
      first (x ∷ xs) m = inl refl

-- the key of the lowest live slot, where there is a run
pub lowest-key : (st : State) (h : History) → Good st h → (n : ℕ) → length h.runs ≡ suc n → LiveKey (view st) (key_at (view st) (lowest st))
lowest-key st h G n e = let some = go h.runs refl in record { live = some-lowest st h G some.0 some.1; gen = refl }
  where
    go : (rs : List (List Key)) → h.runs ≡ rs → (s : ℕ) × ((view st).gen s ≢ 0)
    go [] q = absurd (omega (arith, ap length q))
    go ([] ∷ rs) q = absurd (subst (λ (rs : List (List Key)). All (Cycle (next_key (view st))) rs) q G.rings.rings).0
    go ((k ∷ ks) ∷ rs) q = (k.slot, (subst (λ (rs : List (List Key)). All (LiveKey (view st)) (flat rs)) q G.rings.live).0.live)

-- all runs go
pub good-all : (n : ℕ) (st : State) (h : History) → Good st h → length h.runs ≡ n → Good (all_drained n st) (taking_out h (frames h) (frames h) [])
unfolding all_drained
good-all zero st h G e = none h.runs refl
  where
    none : (rs : List (List Key)) → h.runs ≡ rs → Good st (taking_out h (frames h) (frames h) [])
    none [] q = let R = subst (λ (rs : List (List Key)). Rep (view st) rs) q G.rings in record { ready = G.ready; rings = R; seals = seals_fewer (view st) (view st) (fewer-same (view st) (view st) refl refl refl refl) [] R h.sealed G.seals; sizes = givens_fewer (view st) (view st) (fewer-same (view st) (view st) refl refl refl refl) [] R h.sizes G.sizes; generation = G.generation ∙ ap (λ (i : ℕ). steps raised i h.generation) (sym (ap (λ (rs : List (List Key)). length (flat rs)) q)); counts = omega (arith, G.counts) }
    none (r ∷ rs) q = absurd (omega (arith, ap length q))
good-all (suc n) st h G e =
    let k = key_at (view st) (lowest st) in
    let l = lowest-key st h G n e in
    let s = key_fronted st h G k l in
    let m = length (run_of k h.runs) in
    let f = length (flat (runs_but k h.runs)) in
    let z : frames h ≡ m + f = same_length s ∙ length-append (run_of k h.runs) (flat (runs_but k h.runs)) in
    good-told (still-still (runs_but k h.runs) [] h.sealed (λ x m. absurd m)) (given_still_still (runs_but k h.runs) [] h.sizes (λ x m. absurd m)) (omega (arith, z)) (sym (steps_add raised m f h.generation) ∙ ap (λ (i : ℕ). steps raised i h.generation) (sym z))
    (good-all n (drained (size_at st (lowest st)) st (lowest st)) (taking_out h m m (runs_but k h.runs)) (good-run st h G k l) (omega (arith, same_runs s)))
