-- The tables that the reader builds (Ticket 11) are sound, for runs that are not empty and whose sizes have their room.
use mathlib.Core.Path.{◌≡◌, refl, sym, ap, ◌∙◌, subst}
use mathlib.Core.Logic.{◌≢◌}
use mathlib.Core.List.{List, [], ◌∷◌, map}
use Prim.Native.Nat.{ℕ, zero, suc, ◌+◌, ◌-◌, ◌≤◌, ◌<◌}
use native.Mathlib.Omega.{arith}
use native.Mathlib.Decide.{ℕ_discrete, dec_lt}
use lib.ListN.{length, get_or}
use Rattle.rules.specs.Notation.{along, sum, All}
use Rattle.rules.specs.Tables.{most_slots, last_generation, most_bytes, frame_width, header_width, cell, State}
use Rattle.rules.specs.Calls.{Ready}
use Rattle.rules.specs.RunFile.{StoredFrame, StoredRun, total, frame_count, FrameFits, RunFits}
use Rattle.rules.specs.ReadFile.{before_in, after_in, read_tables}
use Rattle.rules.proofs.Laws.Lists.{In, Walk, all_of}
use Rattle.rules.proofs.Laws.Columns.{cell-none}
use Rattle.rules.proofs.Laws.Steps.{length-along}
use Rattle.rules.proofs.Laws.Sums.{along_in, along_of, along_once}
use Rattle.rules.proofs.Laws.Pools.{if_eq, if_ne}
use Rattle.rules.proofs.Laws.Count.{lives_all, all-used}
use Rattle.rules.proofs.Laws.Totals.{whole, whole-none}
use Rattle.rules.proofs.Laws.Working.{view, Frame, Ring, Working, ring-over}
use Rattle.rules.proofs.Laws.Soundness.{Shaped}
use Rattle.rules.proofs.Laws.Safe.{ready}
use Rattle.rules.proofs.Laws.ReadCells.{run_no, frame_no, many, past, slot_at, stands, frame-cell, frame-none, header-cell, header-none, read-elems, read-shared}

-- the slots of a list of things, one after another
pub map-along : {A B : Type 0} (d : A) (f : ℕ → B) (g : A → B) (xs : List A) (s : ℕ) → ((i : ℕ) → i < length xs → f (s + i) ≡ g (get_or xs i d)) → map f (along suc (length xs) s) ≡ map g xs
map-along d f g [] s h = refl
map-along {A} {B} d f g (x ∷ xs) s h =
    let z : s + 0 ≡ s = omega arith in
    let one : f s ≡ g x = sym (ap f z) ∙ h 0 (omega arith) in
    let more : map f (along suc (length xs) (suc s)) ≡ map g xs = map-along d f g xs (suc s) (λ i l. let q : suc s + i ≡ s + suc i = omega arith in ap f q ∙ h (suc i) (omega arith)) in
    λ i. one i ∷ more i

-- runs that a reader takes, and room for them
pub record Readable (a b : ℕ) (rs : List StoredRun) : Type 0 where
  pub some : (k : ℕ) → k < length rs → 1 ≤ many rs k
  pub sizes : (k i : ℕ) → k < length rs → i < many rs k → (frame_no rs k i).size ≤ most_bytes
  pub room : frame_count rs ≤ a
  pub shared-room : length rs ≤ b

frames_fit : (v : ℕ) (fs : List StoredFrame) → All (FrameFits v) fs → (d : StoredFrame) (i : ℕ) → i < length fs → (get_or fs i d).size ≤ most_bytes
frames_fit v [] g d i h = absurd (omega arith)
frames_fit v (f ∷ fs) g d zero h = omega (arith, g.0.size)
frames_fit v (f ∷ fs) g d (suc i) h = frames_fit v fs g.1 d i (omega arith)

pub readable : (v a b : ℕ) (rs : List StoredRun) → All (RunFits v) rs → frame_count rs ≤ a → length rs ≤ b → Readable a b rs
readable v a b rs g room shared = record { some = some rs g; sizes = sizes rs g; room = room; shared-room = shared }
  where
    some : (rs : List StoredRun) → All (RunFits v) rs → (k : ℕ) → k < length rs → 1 ≤ many rs k
    some [] g k h = absurd (omega arith)
    some (r ∷ rs) g zero h = g.0.some
    some (r ∷ rs) g (suc k) h = some rs g.1 k (omega arith)

    sizes : (rs : List StoredRun) → All (RunFits v) rs → (k i : ℕ) → k < length rs → i < many rs k → (frame_no rs k i).size ≤ most_bytes
    sizes [] g k i h l = absurd (omega arith)
    sizes (r ∷ rs) g zero i h l = frames_fit v r.frames g.0.frames _ i l
    sizes (r ∷ rs) g (suc k) i h l = sizes rs g.1 k i (omega arith) l

module _ (a b : ℕ) (rs : List StoredRun) (R : Readable a b rs) where
  abbrev st : State
  st = read_tables a b rs

  -- ---- the columns
  pub gen_at : (k i : ℕ) → k < length rs → i < many rs k → (view (read_tables a b rs)).gen (slot_at rs k i) ≡ 1
  gen_at k i h l = frame-cell a b rs k i 0 (omega arith) h l

  pub pay_at : (k i : ℕ) → k < length rs → i < many rs k → (view (read_tables a b rs)).pay (slot_at rs k i) ≡ (frame_no rs k i).payload
  pay_at k i h l = frame-cell a b rs k i 1 (omega arith) h l

  pub class-at : (k i : ℕ) → k < length rs → i < many rs k → (view (read_tables a b rs)).class (slot_at rs k i) ≡ suc k
  class-at k i h l = frame-cell a b rs k i 2 (omega arith) h l

  pub bytes-at : (k i : ℕ) → k < length rs → i < many rs k → (view (read_tables a b rs)).bytes (slot_at rs k i) ≡ (frame_no rs k i).size
  bytes-at k i h l = frame-cell a b rs k i 5 (omega arith) h l

  -- the last frame of a run is before its first
  pub next_more : (k i : ℕ) → k < length rs → suc i < many rs k → (view (read_tables a b rs)).next (slot_at rs k i) ≡ slot_at rs k (suc i)
  unfolding after_in
  next_more k i h l = frame-cell a b rs k i 4 (omega arith) h (omega arith) ∙ if_ne (i + 1) (many rs k) (past rs k + 1) (past rs k + i + 2) (λ e. omega (arith, e)) ∙ omega arith

  pub next_last : (k i : ℕ) → k < length rs → suc i ≡ many rs k → (view (read_tables a b rs)).next (slot_at rs k i) ≡ slot_at rs k 0
  unfolding after_in
  next_last k i h l = frame-cell a b rs k i 4 (omega arith) h (omega (arith, l)) ∙ if_eq (i + 1) (many rs k) (past rs k + 1) (past rs k + i + 2) (omega (arith, l)) ∙ omega arith

  prev_more : (k i : ℕ) → k < length rs → suc i < many rs k → (view (read_tables a b rs)).prev (slot_at rs k (suc i)) ≡ slot_at rs k i
  unfolding before_in
  prev_more k i h l = frame-cell a b rs k (suc i) 3 (omega arith) h l ∙ if_ne (suc i) 0 (past rs k + many rs k) (past rs k + suc i) (λ e. omega (arith, e)) ∙ omega arith

  prev_first : (k i : ℕ) → k < length rs → suc i ≡ many rs k → (view (read_tables a b rs)).prev (slot_at rs k 0) ≡ slot_at rs k i
  unfolding before_in
  prev_first k i h l = frame-cell a b rs k 0 3 (omega arith) h (omega (arith, l)) ∙ omega (arith, l)

  -- ---- which slots are live
  gen_none : (view (read_tables a b rs)).gen 0 ≡ 0
  gen_none = cell-none frame_width st.elems 0

  pub live_inside : (s : ℕ) → (view (read_tables a b rs)).gen s ≢ 0 → (1 ≤ s) × (s ≤ frame_count rs)
  live_inside zero n = absurd (n gen_none)
  live_inside (suc u) n = go (dec_lt (frame_count rs) (suc u))
    where
      go : Dec (frame_count rs < suc u) → (1 ≤ suc u) × (suc u ≤ frame_count rs)
      go (yes h) = absurd (n (frame-none a b rs (suc u) 0 (omega arith) h))
      go (no h) = (omega arith, omega arith)

  -- what holds of each frame's slot holds of each live slot
  pub by-frame : (P : ℕ → Type 0) → ((k i : ℕ) → k < length rs → i < many rs k → P (slot_at rs k i)) → (s : ℕ) → (view (read_tables a b rs)).gen s ≢ 0 → P s
  by-frame P f s n =
      let l = live_inside s n in
      let q = stands rs s l.0 l.1 in
      subst P (sym q.here) (f q.run q.place q.few q.short)

  -- a slot that is not live holds nothing
  free-cell : (s f : ℕ) → f < frame_width → (view (read_tables a b rs)).gen s ≡ 0 → cell frame_width (read_tables a b rs).elems f s ≡ 0
  free-cell zero f w e = cell-none frame_width st.elems f
  free-cell (suc u) f w e = go (dec_lt (frame_count rs) (suc u))
    where
      go : Dec (frame_count rs < suc u) → cell frame_width (read_tables a b rs).elems f (suc u) ≡ 0
      go (yes h) = frame-none a b rs (suc u) f w h
      go (no h) =
          let q = stands rs (suc u) (omega arith) (omega arith) in
          absurd (omega (arith, e, ap (view st).gen q.here, gen_at q.run q.place q.few q.short))

  -- ---- headers
  pub count_at : (k : ℕ) → k < length rs → (view (read_tables a b rs)).count (suc k) ≡ many rs k
  count_at k h = header-cell a b rs k 0 (omega arith) h

  pub value-at : (k : ℕ) → k < length rs → (view (read_tables a b rs)).value (suc k) ≡ (run_no rs k).value
  value-at k h = header-cell a b rs k 1 (omega arith) h

  -- a header is that of a run, or its slot holds nothing
  pub by-header : (P : ℕ → Type 0) → ((k : ℕ) → k < length rs → P (suc k)) → ((d : ℕ) → ((f : ℕ) → f < header_width → cell header_width (read_tables a b rs).shared f d ≡ 0) → P d) → (d : ℕ) → P d
  by-header P f g zero = g zero (λ f w. cell-none header_width st.shared f)
  by-header P f g (suc k) = go (dec_lt k (length rs))
    where
      go : Dec (k < length rs) → P (suc k)
      go (yes h) = f k h
      go (no h) = g (suc k) (λ f w. header-none a b rs (suc k) f w (omega arith))

  header-inside : (d : ℕ) → (view (read_tables a b rs)).count d ≢ 0 → (1 ≤ d) × (d ≤ length rs)
  header-inside = by-header (λ d. (view st).count d ≢ 0 → (1 ≤ d) × (d ≤ length rs)) (λ k h n. (omega arith, h)) (λ d z n. absurd (n (z 0 (omega arith))))

  -- what holds of each run's header holds of each live header
  by-run : (P : ℕ → Type 0) → ((k : ℕ) → k < length rs → P (suc k)) → (d : ℕ) → (view (read_tables a b rs)).count d ≢ 0 → P d
  by-run P f = by-header (λ d. (view st).count d ≢ 0 → P d) (λ k h n. f k h) (λ d z n. absurd (n (z 0 (omega arith))))

  -- ---- the ring of a run: its slots in their order
  pub run-walk : (k : ℕ) → k < length rs → (m i : ℕ) → suc i + m ≡ many rs k → Walk (view (read_tables a b rs)).next ((view (read_tables a b rs)).next (slot_at rs k i)) (slot_at rs k 0) (along suc m (suc (slot_at rs k i)))
  run-walk k h zero i e = next_last k i h (omega (arith, e))
  run-walk k h (suc m) i e =
      let q : slot_at rs k (suc i) ≡ suc (slot_at rs k i) = omega arith in
      (next_more k i h (omega (arith, e)) ∙ q, subst (λ (y : ℕ). Walk (view st).next ((view st).next y) (slot_at rs k 0) (along suc m (suc y))) q (run-walk k h m (suc i) (omega (arith, e))))

  pub slot_of : (k s : ℕ) → slot_at rs k 0 ≤ s → slot_at rs k (s - slot_at rs k 0) ≡ s
  slot_of k s l = omega (arith, l)

  unfoldable pub run-ring : (k : ℕ) → k < length rs → Ring (view (read_tables a b rs)).gen (view (read_tables a b rs)).class (view (read_tables a b rs)).next (suc k) (slot_at rs k 0) (many rs k)
  run-ring k h = record {
    rest = along suc (many rs k - 1) (suc x);
    round = run-walk k h (many rs k - 1) 0 (omega (arith, R.some k h));
    once = along_once (suc (many rs k - 1)) x;
    frames = all_of (Frame (view st).gen (view st).class (suc k)) (along suc (suc (many rs k - 1)) x) (λ s m. mine s (along_of (suc (many rs k - 1)) x s m));
    whole = λ s f. within s f;
    sized = omega (arith, length-along suc (many rs k - 1) (suc x), R.some k h);
  }
    where
      x : ℕ
      x = slot_at rs k 0

      mine : (s : ℕ) → (x ≤ s) × (s < x + suc (many rs k - 1)) → Frame (view st).gen (view st).class (suc k) s
      mine s l =
          let i : ℕ = s - slot_at rs k 0 in
          let m : i < many rs k = omega (arith, l.0, l.1, R.some k h) in
          let q : slot_at rs k i ≡ s = slot_of k s l.0 in
          record { live = λ e. omega (arith, ap (view st).gen q, gen_at k i h m, e); mine = sym (ap (view st).class q) ∙ class-at k i h m }

      within : (s : ℕ) → Frame (view st).gen (view st).class (suc k) s → In s (along suc (suc (many rs k - 1)) x)
      within s f =
          let l = live_inside s f.live in
          let q = stands rs s l.0 l.1 in
          let c : suc q.run ≡ suc k = sym (class-at q.run q.place q.few q.short) ∙ sym (ap (view st).class q.here) ∙ f.mine in
          let e : q.run ≡ k = omega (arith, c) in
          let w : s ≡ slot_at rs k q.place = q.here ∙ ap (λ (j : ℕ). slot_at rs j q.place) e in
          let m : q.place < many rs k = subst (λ (j : ℕ). q.place < many rs j) e q.short in
          along_in (suc (many rs k - 1)) x s (omega (arith, w)) (omega (arith, w, m))

  run-bytes : (k : ℕ) → k < length rs → sum (map (view (read_tables a b rs)).bytes (along suc (suc (many rs k - 1)) (slot_at rs k 0))) ≡ total (run_no rs k).frames
  run-bytes k h =
      let n : suc (many rs k - 1) ≡ many rs k = omega (arith, R.some k h) in
      ap (λ (m : ℕ). sum (map (view st).bytes (along suc m (slot_at rs k 0)))) n
      ∙ ap sum (map-along _ (view st).bytes (λ f. f.size) (run_no rs k).frames (slot_at rs k 0) (λ i l. let q : slot_at rs k 0 + i ≡ slot_at rs k i = omega arith in ap (view st).bytes q ∙ bytes-at k i h l))

  run-total : (k : ℕ) → k < length rs → (view (read_tables a b rs)).total (suc k) ≡ total (run_no rs k).frames
  run-total k h = header-cell a b rs k 4 (omega arith) h

  free_bytes : (s : ℕ) → (view (read_tables a b rs)).gen s ≡ 0 → (view (read_tables a b rs)).bytes s ≡ 0
  free_bytes s e = free-cell s 5 (omega arith) e

  inside : (s : ℕ) → (view (read_tables a b rs)).gen s ≢ 0 → (0 < s) × (s ≤ a)
  inside s n = let l = live_inside s n in (l.0, omega (arith, l.1, R.room))

  run-whole : (k : ℕ) → k < length rs → whole a (view (read_tables a b rs)).class (view (read_tables a b rs)).bytes (suc k) ≡ total (run_no rs k).frames
  unfolding run-ring
  run-whole k h = ring-over a (run-ring k h) free_bytes inside ∙ run-bytes k h

  class-live : (s : ℕ) → (view (read_tables a b rs)).gen s ≢ 0 → (view (read_tables a b rs)).count ((view (read_tables a b rs)).class s) ≢ 0
  class-live = by-frame (λ s. (view st).count ((view st).class s) ≢ 0) (λ k i h l e. omega (arith, ap (view st).count (class-at k i h l), count_at k h, R.some k h, e))

  -- THE LAW
  pub read_works : Working (view (read_tables a b rs))
  unfolding read_tables
  read_works = record {
    least = omega arith;
    most = omega arith;
    elems = record {
      fits = R.room;
      number = lives_all (view st).gen (frame_count rs) used (frame_count rs) (omega arith);
      chain = record { slots = []; walk = refl; once = tt; free = tt };
      whole = λ s f. absurd (all-used (lives_all (view st).gen (frame_count rs) used (frame_count rs) (omega arith)) s f);
      none = gen_none;
      past = λ s h. (frame-none a b rs s 0 (omega arith) h, frame-none a b rs s 4 (omega arith) h);
    };
    shared = record {
      fits = R.shared-room;
      number = lives_all (view st).count (length rs) counted (length rs) (omega arith);
      chain = record { slots = []; walk = refl; once = tt; free = tt };
      whole = λ s f. absurd (all-used (lives_all (view st).count (length rs) counted (length rs) (omega arith)) s f);
      none = cell-none header_width st.shared 0;
      past = λ d h. (header-none a b rs d 0 (omega arith) h, header-none a b rs d 2 (omega arith) h);
    };
    gens = gens;
    zeros = λ s e. (free-cell s 1 (omega arith) e, free-cell s 2 (omega arith) e, free-cell s 3 (omega arith) e);
    value-zero = by-header (λ d. (view st).count d ≡ 0 → (view st).value d ≡ 0) (λ k h e. absurd (omega (arith, e, count_at k h, R.some k h))) (λ d z e. z 1 (omega arith));
    chain-zero = by-run (λ d. (view st).chain d ≡ 0) (λ k h. header-cell a b rs k 2 (omega arith) h);
    marks = by-header (λ d. ((view st).mark d ≤ 1) × ((view st).mark d ≤ (view st).count d)) (λ k h. let e : (view st).mark (suc k) ≡ 0 = header-cell a b rs k 3 (omega arith) h in (omega (arith, e), omega (arith, e))) (λ d z. let e : (view st).mark d ≡ 0 = z 3 (omega arith) in (omega (arith, e), omega (arith, e)));
    sizes = record { most = most; free = free_bytes; total = totals };
    links = record {
      next-live = by-frame (λ s. (view st).gen ((view st).next s) ≢ 0) (λ k i h l. let q = onward k i h l in λ e. omega (arith, e, ap (view st).gen q.2, gen_at k q.0 h q.1));
      prev_live = by-frame (λ s. (view st).gen ((view st).prev s) ≢ 0) (λ k i h l. let q = backward k i h l in λ e. omega (arith, e, ap (view st).gen q.2, gen_at k q.0 h q.1));
      prev_next = by-frame (λ s. (view st).prev ((view st).next s) ≡ s) (λ k i h l. let q = onward k i h l in ap (view st).prev q.2 ∙ q.3);
      next_prev = by-frame (λ s. (view st).next ((view st).prev s) ≡ s) (λ k i h l. let q = backward k i h l in ap (view st).next q.2 ∙ q.3);
    };
    class-live = class-live;
    ring = by-run (λ d. (x : ℕ) × Ring (view st).gen (view st).class (view st).next d x ((view st).count d)) (λ k h. (slot_at rs k 0, subst (λ (n : ℕ). Ring (view st).gen (view st).class (view st).next (suc k) (slot_at rs k 0) n) (sym (count_at k h)) (run-ring k h)));
  }
    where
      used : (t : ℕ) → 0 < t → t ≤ frame_count rs → (view st).gen t ≢ 0
      used t lo hi e = let q = stands rs t lo hi in omega (arith, e, ap (view st).gen q.here, gen_at q.run q.place q.few q.short)

      counted : (d : ℕ) → 0 < d → d ≤ length rs → (view st).count d ≢ 0
      counted zero lo hi e = omega (arith, lo)
      counted (suc k) lo hi e = omega (arith, e, count_at k hi, R.some k hi)

      gens : (s : ℕ) → (view st).gen s ≤ last_generation
      gens s = go (ℕ_discrete ((view st).gen s) 0)
        where
          go : Dec ((view st).gen s ≡ 0) → (view st).gen s ≤ last_generation
          go (yes e) = omega (arith, e)
          go (no n) = by-frame (λ s. (view st).gen s ≤ last_generation) (λ k i h l. omega (arith, gen_at k i h l)) s n

      most : (s : ℕ) → (view st).bytes s ≤ most_bytes
      most s = go (ℕ_discrete ((view st).gen s) 0)
        where
          go : Dec ((view st).gen s ≡ 0) → (view st).bytes s ≤ most_bytes
          go (yes e) = omega (arith, free_bytes s e)
          go (no n) = by-frame (λ s. (view st).bytes s ≤ most_bytes) (λ k i h l. omega (arith, bytes-at k i h l, R.sizes k i h l)) s n

      totals : (d : ℕ) → (view st).total d ≡ whole a (view st).class (view st).bytes d
      totals = by-header (λ d. (view st).total d ≡ whole a (view st).class (view st).bytes d)
          (λ k h. run-total k h ∙ sym (run-whole k h))
          (λ d z. z 4 (omega arith) ∙ sym (whole-none a (view st).gen (view st).class (view st).bytes d free_bytes (λ s n e. class-live s n (ap (view st).count e ∙ z 0 (omega arith)))))

      onward : (k i : ℕ) → k < length rs → i < many rs k → (j : ℕ) × (j < many rs k) × ((view st).next (slot_at rs k i) ≡ slot_at rs k j) × ((view st).prev (slot_at rs k j) ≡ slot_at rs k i)
      onward k i h l = go (ℕ_discrete (suc i) (many rs k))
        where
          go : Dec (suc i ≡ many rs k) → (j : ℕ) × (j < many rs k) × ((view st).next (slot_at rs k i) ≡ slot_at rs k j) × ((view st).prev (slot_at rs k j) ≡ slot_at rs k i)
          go (yes e) = (0, omega (arith, e), next_last k i h e, prev_first k i h e)
          go (no n) = (suc i, omega arith, next_more k i h (omega arith), prev_more k i h (omega arith))

      backward : (k i : ℕ) → k < length rs → i < many rs k → (j : ℕ) × (j < many rs k) × ((view st).prev (slot_at rs k i) ≡ slot_at rs k j) × ((view st).next (slot_at rs k j) ≡ slot_at rs k i)
      backward k zero h l = let e : suc (many rs k - 1) ≡ many rs k = omega (arith, l) in (many rs k - 1, omega (arith, l), prev_first k (many rs k - 1) h e, next_last k (many rs k - 1) h e)
      backward k (suc i) h l = (i, omega arith, prev_more k i h l, next_more k i h l)

  -- KEPT: what is read is ready
  pub read-ready : (1 ≤ a) × (a ≤ most_slots) × (1 ≤ b) × (b ≤ most_slots) → Ready (read_tables a b rs)
  unfolding read_tables
  read-ready r = ready st shape read_works
    where
      shape : Shaped (read_tables a b rs)
      shape = record {
        elems = record { some = r.0; small = r.1; long = read-elems a b rs R.room };
        shared = record { some = r.2; small = r.3; long = read-shared a b rs R.shared-room };
      }
