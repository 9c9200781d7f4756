-- A read that is accepted is a fresh call that puts the frames of the file in (Ticket 11).
use Rattle.std.specs.Prelude.{if◌then◌else◌}
use mathlib.Core.Path.{◌≡◌, refl, sym, ap, ◌∙◌, subst}
use mathlib.Core.Logic.{◌≢◌}
use mathlib.Core.Bool.{Bool, true, false}
use mathlib.Core.List.{List, [], ◌∷◌, ◌++◌, map, map-append}
use Prim.Native.Nat.{ℕ, zero, suc, ◌+◌, ◌-◌, ◌≤◌, ◌<◌}
use native.Mathlib.Omega.{arith}
use lib.ListN.{length, get_or, length-map}
use Rattle.rules.specs.declared.Key.{Key}
use Rattle.rules.specs.Notation.{along, flat}
use Rattle.rules.specs.Tables.{most_slots}
use Rattle.rules.specs.Calls.{Is}
use Rattle.rules.specs.RunFile.{StoredFrame, StoredRun, frame_count}
use Rattle.rules.specs.ReadFile.{read_tables}
use Rattle.rules.specs.History.{History, same_key, given_for, frames, keys_past, runs_past, given_past, read_into}
use Rattle.rules.proofs.Laws.Lists.{All, In, Walk, Cycle, all_of, all_image, all_map, in_map, nodup_image}
use Rattle.rules.proofs.Laws.Steps.{length-along}
use Rattle.rules.proofs.Laws.Sums.{along_in, along_of, along_once}
use Rattle.rules.proofs.Laws.Keys.{same-is, key_path}
use Rattle.rules.proofs.Laws.Working.{View, view, Working}
use Rattle.rules.proofs.Laws.Rep.{key_at, next_key, LiveKey, Rep}
use Rattle.rules.proofs.Laws.Good.{Good}
use Rattle.rules.proofs.Laws.Blocks.{ahead, flat-at}
use Rattle.rules.proofs.Laws.Renumber.{walk_carried}
use Rattle.rules.proofs.Laws.ReadCells.{frames_of, length_frames_of, run-frames, frame_no, many, past, slot_at, count-flat, slot-within, stands, header-cell}
use Rattle.rules.proofs.Laws.ReadSound.{Readable, gen_at, class-at, bytes-at, live_inside, by-frame, run-ring, read_works, read-ready}

-- ---- the keys of a read
abbrev first_key : ℕ → Key
first_key s = record { slot = s; generation = 1 }

along_append : (n m a : ℕ) → along suc (n + m) a ≡ along suc n a ++ along suc m (a + n)
along_append zero m a = let z : 0 + m ≡ m = omega arith in let y : a + 0 ≡ a = omega arith in rw (z, y)
along_append (suc n) m a =
    let z : suc n + m ≡ suc (n + m) = omega arith in
    let y : a + suc n ≡ suc a + n = omega arith in
    rw (z, y) (ap (λ l. a ∷ l) (along_append n m (suc a)))

keys-flat : (a : ℕ) (rs : List StoredRun) → flat (runs_past a rs) ≡ keys_past a (frame_count rs)
keys-flat a [] = refl
keys-flat a (r ∷ rs) =
    let n : ℕ = length r.frames in
    ap (λ l. keys_past a n ++ l) (keys-flat (a + n) rs) ∙ sym (map-append first_key (along suc n (suc a)) (along suc (frame_count rs) (suc (a + n))))
    ∙ ap (map first_key) (ap (λ (s : ℕ). along suc n (suc a) ++ along suc (frame_count rs) s) (omega arith) ∙ sym (along_append n (frame_count rs) (suc a)))

-- what holds of the keys of each run
runs-each : (P : List Key → Type 0) (a : ℕ) (rs : List StoredRun) → ((k : ℕ) → k < length rs → P (keys_past (a + past rs k) (many rs k))) → All P (runs_past a rs)
unfolding ahead
runs-each P a [] f = tt
runs-each P a (r ∷ rs) f =
    let n : ℕ = length r.frames in
    let z : a + 0 ≡ a = omega arith in
    (subst (λ (s : ℕ). P (keys_past s n)) z (f 0 (omega arith)), runs-each P (a + n) rs (λ k h. let y : a + (n + past rs k) ≡ a + n + past rs k = omega arith in subst (λ (s : ℕ). P (keys_past s (many rs k))) y (f (suc k) (omega arith))))

-- the sizes of frames one after another
given-past : (a : ℕ) (d : StoredFrame) (fs : List StoredFrame) (u : ℕ) → u < length fs → given_for (first_key (suc (a + u))) (given_past a fs) ≡ (get_or fs u d).size
given-past a d [] u h = absurd (omega arith)
given-past a d (f ∷ fs) zero h = go (same_key (first_key (suc (a + 0))) (first_key (suc a))) (same-is (first_key (suc (a + 0))) (first_key (suc a)))
  where
    go : (t : Bool) → Is (first_key (suc (a + 0)) ≡ first_key (suc a)) t → (if t then f.size else given_for (first_key (suc (a + 0))) (given_past (suc a) fs)) ≡ f.size
    go true e = refl
    go false n = absurd (n (ap first_key (omega arith)))
given-past a d (f ∷ fs) (suc u) h = go (same_key (first_key (suc (a + suc u))) (first_key (suc a))) (same-is (first_key (suc (a + suc u))) (first_key (suc a))) (given-past (suc a) d fs u (omega arith))
  where
    go : (t : Bool) → Is (first_key (suc (a + suc u)) ≡ first_key (suc a)) t → given_for (first_key (suc (suc a + u))) (given_past (suc a) fs) ≡ (get_or fs u d).size
        → (if t then f.size else given_for (first_key (suc (a + suc u))) (given_past (suc a) fs)) ≡ (get_or fs u d).size
    go true e q = absurd (omega (arith, ap (λ (k : Key). k.slot) e))
    go false n q = let y : suc (a + suc u) ≡ suc (suc a + u) = omega arith in ap (λ (s : ℕ). given_for (first_key s) (given_past (suc a) fs)) y ∙ q

given-keys : (P : Key → Type 0) (a : ℕ) (fs : List StoredFrame) → ((u : ℕ) → u < length fs → P (first_key (suc (a + u)))) → All (λ g. P g.key) (given_past a fs)
given-keys P a [] f = tt
given-keys P a (x ∷ fs) f =
    let z : a + 0 ≡ a = omega arith in
    (subst (λ (s : ℕ). P (first_key (suc s))) z (f 0 (omega arith)), given-keys P (suc a) fs (λ u h. let y : a + suc u ≡ suc a + u = omega arith in subst (λ (s : ℕ). P (first_key (suc s))) y (f (suc u) (omega arith))))

module _ (a b : ℕ) (rs : List StoredRun) (R : Readable a b rs) where
  abbrev v : View
  v = view (read_tables a b rs)

  abbrev W : Working (view (read_tables a b rs))
  W = read_works a b rs R

  one : (s : ℕ) → (view (read_tables a b rs)).gen s ≢ 0 → (view (read_tables a b rs)).gen s ≡ 1
  one = by-frame a b rs R (λ s. v.gen s ≡ 1) (gen_at a b rs R)

  here : (s : ℕ) → 1 ≤ s → s ≤ frame_count rs → (view (read_tables a b rs)).gen s ≢ 0
  here s lo hi e = let q = stands rs s lo hi in omega (arith, e, ap v.gen q.here, gen_at a b rs R q.run q.place q.few q.short)

  next-key : (s : ℕ) → (view (read_tables a b rs)).gen s ≢ 0 → next_key (view (read_tables a b rs)) (first_key s) ≡ first_key ((view (read_tables a b rs)).next s)
  next-key s n = key_path _ _ refl (one (v.next s) (W.links.next-live s n))

  -- each run is a ring
  run_cycle : (k : ℕ) → k < length rs → Cycle (next_key (view (read_tables a b rs))) (keys_past (0 + past rs k) (many rs k))
  unfolding run-ring
  run_cycle k h =
      let x : ℕ = slot_at rs k 0 in
      let r = run-ring a b rs R k h in
      let n : many rs k ≡ suc (many rs k - 1) = omega (arith, R.some k h) in
      let y : suc (0 + past rs k) ≡ x = omega arith in
      let live : All (λ s. v.gen s ≢ 0) (x ∷ r.rest) = all_map (λ s f. f.live) (x ∷ r.rest) r.frames in
      subst (λ (s : ℕ). Cycle (next_key v) (map first_key (along suc (many rs k) s))) (sym y) (subst (λ (m : ℕ). Cycle (next_key v) (map first_key (along suc m x))) (sym n)
      (subst (λ (j : Key). Walk (next_key v) j (first_key x) (map first_key r.rest)) (sym (next-key x live.0)) (walk_carried first_key v.next (next_key v) (v.next x) x r.rest (all_map (λ s l. next-key s l) r.rest live.1) r.round)))

  live-key : (s : ℕ) → (view (read_tables a b rs)).gen s ≢ 0 → LiveKey (view (read_tables a b rs)) (first_key s)
  live-key s n = record { live = n; gen = one s n }

  read_rep : Rep (view (read_tables a b rs)) (runs_past 0 rs)
  read_rep = record {
    rings = runs-each (Cycle (next_key v)) 0 rs run_cycle;
    live = subst (All (LiveKey v)) (sym (keys-flat 0 rs)) (all_image first_key (LiveKey v) slots (all_of (λ s. LiveKey v (first_key s)) slots (λ s m. let l = along_of (frame_count rs) 1 s m in live-key s (here s l.0 (omega (arith, l.1))))));
    once = rw (keys-flat 0 rs) (nodup_image first_key (λ s. Unit {0}) slots (λ x y p q n e. n (ap (λ (k : Key). k.slot) e)) (all_of (λ s. Unit {0}) slots (λ s m. tt)) (along_once (frame_count rs) 1));
    whole = λ s n.
        let l = live_inside a b rs R s n in
        subst (λ (k : Key). In k (flat (runs_past 0 rs))) (key_path (first_key s) (key_at v s) refl (sym (one s n))) (rw (keys-flat 0 rs) (in_map first_key s slots (along_in (frame_count rs) 1 s l.0 (omega (arith, l.1)))));
  }
    where
      slots : List ℕ
      slots = along suc (frame_count rs) 1

  abbrev all : List StoredFrame
  all = flat (frames_of rs)

  given-at : (k i : ℕ) → k < length rs → i < many rs k → (view (read_tables a b rs)).bytes (slot_at rs k i) ≡ given_for (first_key (slot_at rs k i)) (given_past 0 (flat (frames_of rs)))
  given-at k i h l =
      let d : StoredFrame = record { payload = 0; size = 0 } in
      let u : ℕ = past rs k + i in
      let z : 0 + u ≡ u = omega arith in
      let e : get_or all u d ≡ frame_no rs k i = flat-at d (frames_of rs) k i (omega (arith, length_frames_of rs)) (rw (run-frames rs k) l) ∙ ap (λ (fs : List StoredFrame). get_or fs i d) (run-frames rs k) in
      let m : u < length all = omega (arith, slot-within rs k i h l, count-flat rs) in
      bytes-at a b rs R k i h l ∙ ap (λ (f : StoredFrame). f.size) (sym e) ∙ sym (given-past 0 d all u m) ∙ ap (λ (s : ℕ). given_for (first_key (suc s)) (given_past 0 all)) z

  -- THE HISTORY
  pub good_read_tables : (h : History) → frames h + h.taken ≡ h.put → (1 ≤ a) × (a ≤ most_slots) × (1 ≤ b) × (b ≤ most_slots) → Good (read_tables a b rs) (read_into h rs)
  unfolding read_tables
  good_read_tables h c r = record {
    ready = read-ready a b rs R r;
    rings = read_rep;
    generation = refl;
    seals = record { live = tt; marked = λ k l. unmarked k.slot l.live };
    sizes = record {
      live = given-keys (LiveKey v) 0 all (λ u m. live-key (suc (0 + u)) (here (suc (0 + u)) (omega arith) (omega (arith, m, count-flat rs))));
      given = λ k l. by_key k l;
    };
    counts = omega (arith, c, ap length (keys-flat 0 rs), length-map (along suc (frame_count rs) 1) first_key, length-along suc (frame_count rs) 1);
  }
    where
      unmarked : (s : ℕ) → v.gen s ≢ 0 → v.mark (v.class s) ≡ 0
      unmarked = by-frame a b rs R (λ s. v.mark (v.class s) ≡ 0) (λ k i h l. ap v.mark (class-at a b rs R k i h l) ∙ header-cell a b rs k 3 (omega arith) h)

      by_key : (k : Key) → LiveKey v k → v.bytes k.slot ≡ given_for k (given_past 0 all)
      by_key k l =
          by-frame a b rs R (λ s. v.bytes s ≡ given_for (first_key s) (given_past 0 all)) given-at k.slot l.live
          ∙ ap (λ (j : Key). given_for j (given_past 0 all)) (key_path (first_key k.slot) k refl (sym (one k.slot l.live) ∙ l.gen))
