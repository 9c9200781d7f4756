-- Runs ordered by lowest slot (Rules 14): their lowest slots are the tables' own, in order, and each has as many keys as its ring frames.
use mathlib.Core.Path.{◌≡◌, refl, sym, ap, ◌∙◌}
use mathlib.Core.Logic.{◌≢◌, ◌⊎◌, inl, inr}
use mathlib.Core.Bool.{Bool}
use mathlib.Core.List.{List, [], ◌∷◌, map, foldr}
use Prim.Native.Nat.{ℕ, ◌≤◌, min}
use native.Mathlib.Nat.{min-le_left, min-le_right, min-eq_left, min-eq_right}
use native.Mathlib.Omega.{arith}
use native.Mathlib.Decide.{dec_le}
use lib.Dec.{T}
use lib.ListN.{length}
use Rattle.rules.specs.declared.Key.{Key}
use Rattle.rules.specs.Notation.{flat, up_to}
use Rattle.rules.specs.Tables.{State, size_at}
use Rattle.rules.specs.Compress.{is_lowest, lowest_slots}
use Rattle.rules.specs.Drains.{ring}
use Rattle.rules.specs.History.{lowest_of, sorted}
use Rattle.rules.proofs.Laws.Lists.{All, In, Out, NoDup, all_map, all-at, all_of, all_image, in_left, in_right, in_parts, in_map, in_image, nodup_parts}
use Rattle.rules.proofs.Laws.Sums.{keep_in, keep_of, up_to-in}
use Rattle.rules.proofs.Laws.Ascending.{Rising, rising-same, rising-keep}
use Rattle.rules.proofs.Laws.Pools.{live_in}
use Rattle.rules.proofs.Laws.Working.{View, view, Working}
use Rattle.rules.proofs.Laws.Order.{Looked, free, first, later, looked, round, Mine}
use Rattle.rules.proofs.Laws.Rep.{key_at, LiveKey, Rep, rep_same, slots_apart}
use Rattle.rules.proofs.Laws.Histories.Sorting.{same_sort, rising_sort}
use Rattle.rules.proofs.Laws.Classes.{Run, runs_of_lem, one_class, own-run, run-size}

-- ---- the lowest key of a run
pub record Low (r : List Key) : Type 0 where
  pub key : Key
  pub member : In key r
  pub is : key.slot ≡ lowest_of r
  pub least : All (λ j. lowest_of r ≤ j.slot) r

low_of : (k : Key) (ks : List Key) → Low (k ∷ ks)
low_of k [] = record { key = k; member = inl refl; is = refl; least = (omega arith, tt) }
low_of k (j ∷ js) = go (low_of k js) (dec_le j.slot (lowest_of (k ∷ js)))
  where
    on : (x : Key) → In x (k ∷ js) → In x (k ∷ j ∷ js)
    on x (inl e) = inl e
    on x (inr m) = inr (inr m)

    least' : All (λ i. lowest_of (k ∷ js) ≤ i.slot) (k ∷ js) → All (λ i. min j.slot (lowest_of (k ∷ js)) ≤ i.slot) (k ∷ j ∷ js)
    least' a =
        let b : All (λ i. min j.slot (lowest_of (k ∷ js)) ≤ i.slot) (k ∷ js) = all_map (λ i h. omega (arith, min-le_right j.slot (lowest_of (k ∷ js)))) (k ∷ js) a in
        (b.0, (min-le_left j.slot (lowest_of (k ∷ js)), b.1))

    go : Low (k ∷ js) → Dec (j.slot ≤ lowest_of (k ∷ js)) → Low (k ∷ j ∷ js)
    go l (yes e) = record { key = j; member = inr (inl refl); is = sym (min-eq_left e); least = least' l.least }
    go l (no e) = record { key = l.key; member = on l.key l.member; is = l.is ∙ sym (min-eq_right (omega arith)); least = least' l.least }

-- ---- what is known of each run of a history that the tables hold
pub record Led (st : State) (r : List Key) : Type 0 where
  pub low : Low r
  pub live : LiveKey (view st) low.key
  pub sized : length r ≡ size_at st (lowest_of r)
  pub same : All (λ j. (view st).class j.slot ≡ (view st).class (lowest_of r)) r
  pub leads : In (lowest_of r) (lowest_slots st)

in_flat : (k : Key) (h : List (List Key)) → In k (flat h) → (r : List Key) × In r h × In k r
in_flat k [] m = elim m [ ]
in_flat k (r ∷ h) m = go (in_parts k r (flat h) m) (λ i. in_flat k h i)
  where
    go : In k r ⊎ In k (flat h) → (In k (flat h) → (r : List Key) × In r h × In k r) → (q : List Key) × In q (r ∷ h) × In k q
    go (inl i) f = (r, inl refl, i)
    go (inr i) f = let t = f i in (t.0, inr t.1, t.2)

flat_in : (k : Key) (r : List Key) (h : List (List Key)) → In r h → In k r → In k (flat h)
flat_in k r [] x'' m = elim x'' [ ]
flat_in k r (q ∷ h) (inl e) m = in_left k q (flat h) (rw (← e) m)
flat_in k r (q ∷ h) (inr i) m = in_right k q (flat h) (flat_in k r h i m)

lowest-rising : (st : State) → Rising (lowest_slots st)
unfolding lowest_slots
lowest-rising st = rising-keep (is_lowest st) st.head.elems.extent 1

module _ (st : State) (W : Working (view st)) where
  abbrev v : View
  v = view st

  run_led : (r : List Key) → Run v r → Led st r
  unfolding lowest_slots
  run_led [] R = absurd R.ring
  run_led (k ∷ xs) R =
      let L = low_of k xs in
      let x = L.key in
      let r = k ∷ xs in
      let live = all-at (LiveKey v) x r R.live L.member in
      let o = one_class v W k xs R in
      let c : v.class (lowest_of r) ≡ v.class k.slot = rw (← L.is) (all-at (λ y. v.class y.slot ≡ v.class k.slot) x r o L.member) in
      let g : v.gen (lowest_of r) ≢ 0 = rw (← L.is) live.live in
      let b = live_in W.elems (lowest_of r) g in
      record {
        low = L;
        live = live;
        sized = run-size v W k xs R ∙ ap v.count (sym c);
        same = all_map (λ y e. e ∙ sym c) r o;
        leads = keep_in (is_lowest st) (lowest_of r) (up_to st.head.elems.extent) (up_to-in st.head.elems.extent (lowest_of r) b.0 b.1) (go (is_lowest st (lowest_of r)) (looked st W (lowest_of r)) g c L.least);
      }
    where
      go : (b : Bool) → Looked st (lowest_of (k ∷ xs)) b → v.gen (lowest_of (k ∷ xs)) ≢ 0 → v.class (lowest_of (k ∷ xs)) ≡ v.class k.slot → All (λ j. lowest_of (k ∷ xs) ≤ j.slot) (k ∷ xs) → T b
      go b (free e) g c a = absurd (g e)
      go b (first h f) g c a = tt
      go b (later h z m l) g c a =
          let f = all-at (Mine st (lowest_of (k ∷ xs))) z (ring st (lowest_of (k ∷ xs))) (round st W (lowest_of (k ∷ xs)) h).frames m in
          let i = own-run v W k xs R (key_at v z) (record { live = f.live; gen = refl }) (f.mine ∙ c) in
          absurd (omega (arith, all-at (λ j. lowest_of (k ∷ xs) ≤ j.slot) (key_at v z) (k ∷ xs) a i))

  -- every run
  pub runs_led : (hs : List (List Key)) → Rep (view st) hs → All (Led st) hs
  runs_led hs R = all_map run_led hs (runs_of_lem v hs R.rings R.live R.once)

  -- two runs have two lowest slots
  lows_once : (hs : List (List Key)) → All (Led st) hs → NoDup (flat hs) → NoDup (map lowest_of hs)
  lows_once [] a d = tt
  lows_once (r ∷ hs) a d =
      let p = nodup_parts r (flat hs) d in (
        all_image lowest_of (λ y. lowest_of r ≢ y) hs (all_of (λ q. lowest_of r ≢ lowest_of q) hs (λ q m.
            let B = all-at (Led st) q hs a.1 m in
            let n = all-at (λ y. a.0.low.key ≢ y) B.low.key (flat hs) (all-at (λ x. Out x (flat hs)) a.0.low.key r p.2 a.0.low.member) (flat_in B.low.key q hs m B.low.member) in
            λ e. slots_apart v a.0.low.key B.low.key a.0.live B.live n (a.0.low.is ∙ e ∙ sym B.low.is))),
        lows_once hs a.1 p.1,
      )

  -- a lowest slot of the tables is that of a run
  lows_whole : (hs : List (List Key)) → Rep v hs → All (Led st) hs → (x : ℕ) → In x (lowest_slots st) → In x (map lowest_of hs)
  unfolding lowest_slots
  lows_whole hs R A x m = go (is_lowest st x) (looked st W x) (keep_of (is_lowest st) x (up_to st.head.elems.extent) m).1
    where
      found : v.gen x ≢ 0 → All (λ y. x ≤ y) (ring st x) → In x (map lowest_of hs)
      found h f =
          let t = in_flat (key_at v x) hs (R.whole x h) in
          let r = t.0 in
          let B = all-at (Led st) r hs A t.1 in
          let hi : lowest_of r ≤ x = all-at (λ j. lowest_of r ≤ j.slot) (key_at v x) r B.low.least t.2 in
          let s : v.class x ≡ v.class (lowest_of r) = all-at (λ j. v.class j.slot ≡ v.class (lowest_of r)) (key_at v x) r B.same t.2 in
          let lo : x ≤ B.low.key.slot = all-at (λ y. x ≤ y) B.low.key.slot (ring st x) f ((round st W x h).whole B.low.key.slot (record { live = B.live.live; mine = ap v.class B.low.is ∙ sym s })) in
          let e : lowest_of r ≡ x = omega (arith, B.low.is) in
          rw e at (in_map lowest_of r hs t.1)

      go : (b : Bool) → Looked st x b → T b → In x (map lowest_of hs)
      go b (free e) t = absurd t
      go b (later h z i l) t = absurd t
      go b (first h f) t = found h f

  -- THE ORDER of the history is that of the tables
  pub sort_lows : (h : List (List Key)) → Rep (view st) h → map lowest_of (foldr sorted [] h) ≡ lowest_slots st
  sort_lows h R =
      let hs = foldr sorted [] h in
      let Rs = rep_same v (same_sort h) R in
      let A = runs_led hs Rs in
      rising-same (map lowest_of hs) (lowest_slots st) (rising_sort h (lows_once h (runs_led h R) R.once)) (lowest-rising st)
      (λ x m. let t = in_image lowest_of x hs m in rw t.2 (all-at (Led st) t.0 hs A t.1).leads)
      (lows_whole hs Rs A)
