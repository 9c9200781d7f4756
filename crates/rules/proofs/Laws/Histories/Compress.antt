-- The new keys of canonical compression (Rules 14): the order of the runs by lowest slot, each from there, is that of the tables.
use Rattle.std.specs.Prelude.{if◌then◌else◌, ◌==◌}
use mathlib.Core.Path.{◌≡◌, refl, sym, ap, ◌∙◌, subst}
use mathlib.Core.Logic.{◌≢◌, inl, inr}
use mathlib.Core.Bool.{Bool}
use mathlib.Core.List.{List, [], ◌∷◌, ◌++◌, map, map-map, append_assoc, foldr}
use Prim.Native.Nat.{ℕ, zero, suc}
use native.Mathlib.Decide.{ℕ_discrete}
use lib.ListN.{length}
use Rattle.rules.specs.declared.Key.{Key}
use Rattle.rules.specs.Notation.{along, flat}
use Rattle.rules.specs.Tables.{State, size_at}
use Rattle.rules.specs.Drains.{ring}
use Rattle.rules.specs.Compress.{canonical_frames, canonical_classes, place_of, renumbered_in, generation_after}
use Rattle.rules.specs.History.{same_key, before, lowest_of, sorted, begun_at, ordered, renamed}
use Rattle.rules.proofs.Laws.Lists.{All, In, all_of, all-at, all_parts, all_append, in_cut, nodup_parts, nodup_swap, across, cycle_turn}
use Rattle.rules.proofs.Laws.Steps.{walk-along}
use Rattle.rules.proofs.Laws.Tests.{is_true, is_false}
use Rattle.rules.proofs.Laws.Keys.{key_path, same-is}
use Rattle.rules.proofs.Laws.Pools.{eqb-true, eqb-false}
use Rattle.rules.proofs.Laws.Working.{View, view, Working}
use Rattle.rules.proofs.Laws.Order.{frames_listed, classes_listed}
use Rattle.rules.proofs.Laws.Blocks.{runs_of, frames-flat}
use Rattle.rules.proofs.Laws.Compress.{Order, compressed, by_place, there, renumbers, renumbered_gen, own_renumbers, canonical_order}
use Rattle.rules.proofs.Laws.Rep.{key_at, next_key, LiveKey, Rep, rep_same, key_live, slots_apart}
use Rattle.rules.proofs.Laws.Classes.{Run, runs_of_lem, run-size}
use Rattle.rules.proofs.Laws.Histories.Renumber.{flat_image, rekeyed}
use Rattle.rules.proofs.Laws.Histories.Sorting.{same_sort}
use Rattle.rules.proofs.Laws.Histories.Sorted.{Led, runs_led, sort_lows}

-- ---- a ring begun at a slot
begun-is : (s : ℕ) (a p : List Key) (k : Key) (q : List Key) → All (λ j. j.slot ≢ s) p → k.slot ≡ s → begun_at s a (p ++ k ∷ q) ≡ (k ∷ q) ++ (a ++ p)
unfolding begun_at
begun-is s a [] k q o e = rw (eqb-true k.slot s e) (ap {B = List Key} (λ l. (k ∷ q) ++ l) (sym (append-nil a)))
  where
    append-nil : (l : List Key) → l ++ [] ≡ l
    append-nil [] = refl
    append-nil (x ∷ l) = ap {B = List Key} (λ t. x ∷ t) (append-nil l)
begun-is s a (j ∷ p) k q o e = rw (eqb-false j.slot s o.0) (begun-is s (a ++ j ∷ []) p k q o.1 e ∙ ap {B = List Key} (λ l. (k ∷ q) ++ l) (append_assoc a (j ∷ []) p))

run_turn : (v : View) (p : List Key) (k : Key) (q : List Key) → Run v (p ++ k ∷ q) → Run v (k ∷ (q ++ p))
run_turn v p k q r =
    let l = all_parts (LiveKey v) p (k ∷ q) r.live in
    record { ring = cycle_turn (next_key v) p k q r.ring; live = all_append (LiveKey v) (k ∷ q) p l.1 l.0; once = nodup_swap p (k ∷ q) r.once }

-- ---- the place of a key among keys is that of its slot among slots
before-place : (v : View) (s : ℕ) (fs : List ℕ) → In s fs → suc (length (before (key_at v s) (map (key_at v) fs))) ≡ place_of fs s
unfolding place_of
before-place v s [] m = elim m [ ]
before-place v s (y ∷ ys) m = go (ℕ_discrete s y) m (λ i. before-place v s ys i)
  where
    go : Dec (s ≡ y) → In s (y ∷ ys) → (In s ys → suc (length (before (key_at v s) (map (key_at v) ys))) ≡ place_of ys s)
        → suc (length (if same_key (key_at v s) (key_at v y) then [] else key_at v y ∷ before (key_at v s) (map (key_at v) ys))) ≡ (if s == y then 1 else suc (place_of ys s))
    go (yes e) m f = rw (is_true (same_key (key_at v s) (key_at v y)) (same-is (key_at v s) (key_at v y)) (ap (key_at v) e), eqb-true s y e)
    go (no n) (inl e) f = absurd (n e)
    go (no n) (inr i) f = rw (is_false (same_key (key_at v s) (key_at v y)) (same-is (key_at v s) (key_at v y)) (λ q. n (ap (λ (k : Key). k.slot) q)), eqb-false s y n) (ap suc (f i))

-- ---- the order of the history is that of the tables
module _ (st : State) (W : Working (view st)) where
  abbrev v : View
  v = view st

  along-keys : (n x : ℕ) → map (key_at v) (along v.next n x) ≡ along (next_key v) n (key_at v x)
  along-keys zero x = refl
  along-keys (suc n) x = ap {B = List Key} (λ l. key_at v x ∷ l) (along-keys n (v.next x))

  pub run-ring : (k : Key) (xs : List Key) → Run (view st) (k ∷ xs) → map (key_at (view st)) (ring st k.slot) ≡ k ∷ xs
  run-ring k xs r =
      along-keys (size_at st k.slot) k.slot ∙ ap (λ (j : Key). along (next_key v) (size_at st k.slot) j) (key_live v k r.live.0)
      ∙ ap (λ (n : ℕ). along (next_key v) n k) (sym (run-size v W k xs r)) ∙ walk-along (next_key v) k k (k ∷ xs) (refl, r.ring)

  from_lowest : (r : List Key) → Run v r → Led st r → begun_at (lowest_of r) [] r ≡ map (key_at v) (ring st (lowest_of r))
  from_lowest r R L = let t = in_cut L.low.key r L.low.member in cut t.0 t.1 t.2
    where
      k : Key
      k = L.low.key

      cut : (p q : List Key) → r ≡ p ++ k ∷ q → begun_at (lowest_of r) [] r ≡ map (key_at v) (ring st (lowest_of r))
      cut p q e =
          let Rc : Run v (p ++ k ∷ q) = subst (λ (l : List Key). Run v l) e R in
          let l = all_parts (LiveKey v) p (k ∷ q) Rc.live in
          let out = (across p (k ∷ q) (nodup_parts p (k ∷ q) Rc.once).2).0 in
          let o : All (λ j. j.slot ≢ lowest_of r) p = all_of (λ j. j.slot ≢ lowest_of r) p (λ j m z. slots_apart v k j l.1.0 (all-at (LiveKey v) j p l.0 m) (all-at (λ y. k ≢ y) j p out m) (L.low.is ∙ sym z)) in
          ap (begun_at (lowest_of r) []) e ∙ begun-is (lowest_of r) [] p k q o L.low.is ∙ sym (run-ring k (q ++ p) (run_turn v p k q Rc)) ∙ ap (λ (s : ℕ). map (key_at v) (ring st s)) L.low.is

  pub ordered-is : (h : List (List Key)) → Rep (view st) h → ordered h ≡ map (key_at (view st)) (canonical_frames st)
  unfolding ordered
  ordered-is h R =
      let hs = foldr sorted [] h in
      let Rs = rep_same v (same_sort h) R in
      ap {B = List Key} flat (each hs (runs_of_lem v hs Rs.rings Rs.live Rs.once) (runs_led st W hs Rs)
      ∙ sym (map-map (map (key_at v)) (λ r. ring st (lowest_of r)) hs) ∙ ap (map (map (key_at v))) (sym (map-map (ring st) lowest_of hs) ∙ ap (map (ring st)) (sort_lows st W h R)))
      ∙ flat_image (key_at v) (runs_of st) ∙ ap (map (key_at v)) (sym (frames-flat st))
    where
      each : (hs : List (List Key)) → All (Run v) hs → All (Led st) hs → map (λ r. begun_at (lowest_of r) [] r) hs ≡ map (λ r. map (key_at v) (ring st (lowest_of r))) hs
      each [] a b = refl
      each (r ∷ hs) a b = rw (from_lowest r a.0 b.0, each hs a.1 b.1)

  -- the new key of a live frame, as the history says it and as the tables have it, in tables of any capacities
  pub named_by_run : (a b g : ℕ) (O : Order (view st) a b (canonical_frames st) (canonical_classes st) g) (h : List (List Key)) → Rep (view st) h → (k : Key) → LiveKey (view st) k
      → rekeyed (view st) (view (renumbered_in a b st (canonical_frames st) (canonical_classes st) g)) (by_place (canonical_frames st) (canonical_classes st)) (renumbers a b st W (canonical_frames st) (canonical_classes st) g O) W k
      ≡ renamed g (ordered h) k
  unfolding renamed
  named_by_run a b g O h R k l =
      let fs = canonical_frames st in
      let i = (frames_listed st W).whole k.slot l.live in
      let t = there (view st).gen fs O.frames k.slot l.live in
      let place : suc (length (before k (ordered h))) ≡ place_of fs k.slot = rw (ordered-is h R) (rw (key_live v k l) at (before-place v k.slot fs i)) in
      key_path _ _ (sym place) (renumbered_gen a b st W fs (canonical_classes st) g O (place_of fs k.slot) t.0 t.1)

  -- in its own
  pub renamed-is : (reset : Bool) (h : List (List Key)) → Rep (view st) h → (k : Key) → LiveKey (view st) k
      → rekeyed (view st) (view (compressed st reset)) (by_place (canonical_frames st) (canonical_classes st)) (own_renumbers st W (canonical_frames st) (canonical_classes st) (frames_listed st W) (classes_listed st W) reset) W k
      ≡ renamed (generation_after reset st.head.generation) (ordered h) k
  renamed-is reset h R k l = named_by_run st.head.elems.capacity st.head.shared.capacity (generation_after reset st.head.generation) (canonical_order st W reset) h R k l
