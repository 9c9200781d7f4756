-- The book's soundness, a field for each clause of 01, and the working form are one: both directions.
use Rattle.std.specs.Prelude.{◌==◌}
use mathlib.Core.Path.{◌≡◌, refl, sym, ap, ◌∙◌, subst}
use mathlib.Core.Logic.{◌≢◌}
use mathlib.Core.Bool.{Bool, true, false, ◌&&◌}
use mathlib.Core.List.{List, ◌∷◌, map}
use Prim.Native.Nat.{ℕ, zero, suc, ◌*◌, ◌≤◌, ◌<◌}
use native.Mathlib.Omega.{arith}
use native.Mathlib.Decide.{ℕ_discrete}
use lib.Dec.{T, leb→le, le→leb, eqb→eq, eqb_refl}
use lib.ListN.{length}
use Rattle.rules.specs.Notation.{◌≤?◌, steps, along, sum}
use Rattle.rules.specs.Tables.{most_slots, last_generation, most_bytes, frame_width, header_width, next_of, State, elem_side, shared_side, size_at}
use Rattle.rules.specs.Sound.{fits, both_fit, Sound, Frame, Header, OneRing, RingSize}
use Rattle.rules.specs.Refusals.{shaped}
use Rattle.rules.proofs.Laws.Lists.{Walk, In}
use Rattle.rules.proofs.Laws.Steps.{length-along, along-walk, walk_end, walk_when, walk-once, all-along, along_once, reached, steps_stay, round_none_twice}
use Rattle.rules.proofs.Laws.Pools.{Pooled, live_in}
use Rattle.rules.proofs.Laws.Sides.{and_T, T_and, live_of, live_to, Kept, Blank, blank_of, pooled_of, kept_of}
use Rattle.rules.proofs.Laws.Working.{View, view, Working, Ring, turn, next-class, ring-bytes, total-ring, total-none}
use Rattle.rules.proofs.Laws.Totals.{whole, whole-none}
use Rattle.rules.proofs.Laws.Working

-- ---- shape, as facts

-- Refusals 1: a table that fits its capacity
pub record Fits (capacity width : ℕ) (table : List ℕ) : Type 0 where
  pub some : 1 ≤ capacity
  pub small : capacity ≤ most_slots
  pub long : length table ≡ capacity * width

pub record Shaped (st : State) : Type 0 where
  pub elems : Fits st.head.elems.capacity frame_width st.elems
  pub shared : Fits st.head.shared.capacity header_width st.shared

T_true : (b : Bool) → b ≡ true → T b
T_true b e = rw e tt

true_T : (b : Bool) → T b → b ≡ true
true_T true t = refl
true_T false t = absurd t

fits_of : (capacity width : ℕ) (table : List ℕ) → T (fits capacity width table) → Fits capacity width table
unfolding fits
fits_of capacity width table h =
    let p = and_T ((1 ≤? capacity) && (capacity ≤? most_slots)) (length table == capacity * width) h in
    let q = and_T (1 ≤? capacity) (capacity ≤? most_slots) p.0 in
    record { some = leb→le 1 capacity q.0; small = leb→le capacity most_slots q.1; long = eqb→eq (length table) (capacity * width) p.1 }

fits-to : (capacity width : ℕ) (table : List ℕ) → Fits capacity width table → T (fits capacity width table)
unfolding fits
fits-to capacity width table f =
    T_and ((1 ≤? capacity) && (capacity ≤? most_slots)) (length table == capacity * width)
    (T_and (1 ≤? capacity) (capacity ≤? most_slots) (le→leb 1 capacity f.some) (le→leb capacity most_slots f.small))
    (rw f.long (eqb_refl (capacity * width)))

pub both_fit_lem : (st : State) (elems shared : ℕ) → both_fit st elems shared ≡ true → Fits elems frame_width st.elems × Fits shared header_width st.shared
unfolding both_fit
both_fit_lem st elems shared e =
    let p = and_T (fits elems frame_width st.elems) (fits shared header_width st.shared) (T_true (both_fit st elems shared) e) in
    (fits_of elems frame_width st.elems p.0, fits_of shared header_width st.shared p.1)

pub shaped_of : (st : State) → shaped st ≡ true → Shaped st
shaped_of st e = let p = both_fit_lem st st.head.elems.capacity st.head.shared.capacity e in record { elems = p.0; shared = p.1 }

pub shaped_to : (st : State) → Shaped st → shaped st ≡ true
unfolding both_fit
shaped_to st s = true_T (shaped st) (T_and (fits st.head.elems.capacity frame_width st.elems) (fits st.head.shared.capacity header_width st.shared)
    (fits-to st.head.elems.capacity frame_width st.elems s.elems) (fits-to st.head.shared.capacity header_width st.shared s.shared))

-- ---- from the book's form

module _ (st : State) (H : Shaped st) (S : Sound st) where
  elems-kept : Kept (elem_side st)
  elems-kept = record { extent = S.extents.0; live = S.lives.0; chain = S.chains.0; free = S.zeros.free.0; past = S.zeros.past.0 }

  shared_kept : Kept (shared_side st)
  shared_kept = record { extent = S.extents.1; live = S.lives.1; chain = S.chains.1; free = S.zeros.free.1; past = S.zeros.past.1 }

  elems-pool : Pooled st.head.elems (view st).gen (view st).next
  elems-pool = pooled_of (elem_side st) H.elems.long elems-kept (omega arith) (omega arith)

  shared-pool : Pooled st.head.shared (view st).count (view st).chain
  shared-pool = pooled_of (shared_side st) H.shared.long shared_kept (omega arith) (omega arith)

  frame : (s : ℕ) → (view st).gen s ≢ 0 → Frame st s
  frame s h = let l = live_in elems-pool s h in live_to (elem_side st) s (record { low = l.0; high = l.1; used = h })

  header : (c : ℕ) → (view st).count c ≢ 0 → Header st c
  header c h = let l = live_in shared-pool c h in live_to (shared_side st) c (record { low = l.0; high = l.1; used = h })

  gen_live : (s : ℕ) → Frame st s → (view st).gen s ≢ 0
  gen_live s f = (live_of (elem_side st) s f).used

  -- Sound 7 and 11: a ring's walk meets none twice
  pub ring_none_twice : (s size : ℕ) → Frame st s → RingSize st s size → (i j : ℕ) → i < j → j < size → steps (next_of st.elems) i s ≢ steps (next_of st.elems) j s
  ring_none_twice s size f r = round_none_twice (view st).next (view st).prev (Frame st) (λ a h. (S.links a h).next) (λ a h. (S.links a h).back) size s f r.before

  ring_of : (c s : ℕ) → Frame st s → (view st).class s ≡ c → (size : ℕ) → RingSize st s size → Ring (view st).gen (view st).class (view st).next c s size
  ring_of c s f e zero r = absurd (omega (arith, r.some))
  ring_of c s f e (suc k) r =
      let n = (view st).next in
      let on : (j : ℕ) → Frame st (steps n j s) = λ j. steps_stay n (view st).prev (Frame st) (λ a h. (S.links a h).next) (λ a h. (S.links a h).back) j s f in
      let round : Walk n (n s) s (along n k (n s)) = rw r.back at (along-walk n k (n s)) in
      record {
        rest = along n k (n s);
        round = round;
        once = along_once n (suc k) s (ring_none_twice s (suc k) f r);
        frames = all-along n (Working.Frame (view st).gen (view st).class c) (suc k) s (λ j l. record { live = gen_live (steps n j s) (on j); mine = sym (S.one_class s (steps n j s) f (on j) (j, refl)) ∙ e });
        whole = λ t g. let o = S.own_class s t f (frame t g.live) (e ∙ sym g.mine) in subst (λ (j : ℕ). In j (s ∷ along n k (n s))) o.1 (reached n s (along n k (n s)) round o.0);
        sized = ap suc (length-along n k (n s));
      }

  pub working_of_sound : Working (view st)
  working_of_sound = record {
    least = S.generation.0;
    most = S.generation.1;
    elems = elems-pool;
    shared = shared-pool;
    gens = λ s. gens s (ℕ_discrete ((view st).gen s) 0);
    zeros = λ s e. let b : Blank (elem_side st) = blank_of (elem_side st) H.elems.long elems-kept in (b s 1 e (omega arith) (omega arith), b s 2 e (omega arith) (omega arith), b s 3 e (omega arith) (omega arith));
    value-zero = λ c e. blank_of (shared_side st) H.shared.long shared_kept c 1 e (omega arith) (omega arith);
    chain-zero = λ c h. S.zeros.shared c (header c h);
    marks = λ c. marks c (ℕ_discrete ((view st).count c) 0);
    sizes = record { most = λ s. bytes_most s (ℕ_discrete ((view st).gen s) 0); free = bytes-free; total = λ c. total c (ℕ_discrete ((view st).count c) 0) };
    links = record {
      next-live = λ s h. gen_live ((view st).next s) (S.links s (frame s h)).next;
      prev_live = λ s h. gen_live ((view st).prev s) (S.links s (frame s h)).previous;
      prev_next = λ s h. (S.links s (frame s h)).back;
      next_prev = λ s h. (S.links s (frame s h)).forth;
    };
    class-live = λ s h. (live_of (shared_side st) ((view st).class s) (S.classes s (frame s h))).used;
    ring = λ c h. let r = S.rings c (header c h) in (r.0, ring_of c r.0 r.1 r.2 ((view st).count c) r.3);
  }
    where
      bytes-free : (s : ℕ) → (view st).gen s ≡ 0 → (view st).bytes s ≡ 0
      bytes-free s e = blank_of (elem_side st) H.elems.long elems-kept s 5 e (omega arith) (omega arith)

      bytes_most : (s : ℕ) → Dec ((view st).gen s ≡ 0) → (view st).bytes s ≤ most_bytes
      bytes_most s (yes e) = rw (bytes-free s e) (omega arith)
      bytes_most s (no e) = S.sizes s (frame s e)

      inside : (s : ℕ) → (view st).gen s ≢ 0 → (0 < s) × (s ≤ st.head.elems.capacity)
      inside s h = let l = live_in elems-pool s h in (l.0, omega (arith, l.1, elems-pool.fits))

      class-live : (s : ℕ) → (view st).gen s ≢ 0 → (view st).count ((view st).class s) ≢ 0
      class-live s h = (live_of (shared_side st) ((view st).class s) (S.classes s (frame s h))).used

      total : (c : ℕ) → Dec ((view st).count c ≡ 0) → (view st).total c ≡ whole st.head.elems.capacity (view st).class (view st).bytes c
      total c (yes e) =
          blank_of (shared_side st) H.shared.long shared_kept c 4 e (omega arith) (omega arith)
          ∙ sym (whole-none st.head.elems.capacity (view st).gen (view st).class (view st).bytes c bytes-free (λ s h q. class-live s h (ap (view st).count q ∙ e)))
      total c (no e) =
          let r = S.rings c (header c e) in
          let q : (view st).total c ≡ sum (map (view st).bytes (along (view st).next ((view st).count c) r.0)) = rw r.2 at (S.totals r.0 r.1) in
          q ∙ sym (ring-bytes st.head.elems.capacity (ring_of c r.0 r.1 r.2 ((view st).count c) r.3) bytes-free inside)

      gens : (s : ℕ) → Dec ((view st).gen s ≡ 0) → (view st).gen s ≤ last_generation
      gens s (yes e) = rw e (omega arith)
      gens s (no e) = (S.generations s (frame s e)).1

      marks : (c : ℕ) → Dec ((view st).count c ≡ 0) → ((view st).mark c ≤ 1) × ((view st).mark c ≤ (view st).count c)
      marks c (yes e) = let z = blank_of (shared_side st) H.shared.long shared_kept c 3 e (omega arith) (omega arith) in (omega (arith, z), omega (arith, z))
      marks c (no e) = let l = S.marks c (header c e) in (l, omega (arith, l, e))

-- ---- and to it

-- the ring of a live slot
pub ring-at : (v : View) → Working v → (s : ℕ) → v.gen s ≢ 0 → Ring v.gen v.class v.next (v.class s) s (v.count (v.class s))
ring-at v W s h = turn (W.ring (v.class s) (W.class-live s h)).1 (record { live = h; mine = refl })

module _ (st : State) (W : Working (view st)) where
  frame-to : (s : ℕ) → (view st).gen s ≢ 0 → Frame st s
  frame-to s h = let l = live_in W.elems s h in live_to (elem_side st) s (record { low = l.0; high = l.1; used = h })

  header-to : (c : ℕ) → (view st).count c ≢ 0 → Header st c
  header-to c h = let l = live_in W.shared c h in live_to (shared_side st) c (record { low = l.0; high = l.1; used = h })

  is_live : (s : ℕ) → Frame st s → (view st).gen s ≢ 0
  is_live s f = (live_of (elem_side st) s f).used

  pub elems-blank : Blank (elem_side st)
  elems-blank s zero e l n = e
  elems-blank s (suc zero) e l n = (W.zeros s e).0
  elems-blank s (suc (suc zero)) e l n = (W.zeros s e).1
  elems-blank s (suc (suc (suc zero))) e l n = (W.zeros s e).2
  elems-blank s (suc (suc (suc (suc zero)))) e l n = absurd (n refl)
  elems-blank s (suc (suc (suc (suc (suc zero))))) e l n = W.sizes.free s e
  elems-blank s (suc (suc (suc (suc (suc (suc f)))))) e l n = absurd (omega arith)

  pub shared-blank : Blank (shared_side st)
  shared-blank s zero e l n = e
  shared-blank s (suc zero) e l n = W.value-zero s e
  shared-blank s (suc (suc zero)) e l n = absurd (n refl)
  shared-blank s (suc (suc (suc zero))) e l n = omega (arith, e, (W.marks s).1)
  shared-blank s (suc (suc (suc (suc zero)))) e l n = total-none (view st) W s e
  shared-blank s (suc (suc (suc (suc (suc f))))) e l n = absurd (omega arith)

  -- Sound 11, of every frame: its walk is back after as many steps as the count says, and has no shorter round
  pub no_shorter_round : (s : ℕ) → Frame st s → RingSize st s (size_at st s)
  no_shorter_round s f =
      let r = ring-at (view st) W s (is_live s f) in
      let n = (view st).next in
      let xs = s ∷ r.rest in
      let w : Walk n s s xs = (refl, r.round) in
      let q : RingSize st s (length xs) = record { some = omega arith; back = walk_end n s s xs w; before = λ k l m e. walk-once n s s xs w r.once 0 k (omega arith) m (sym e) } in
      rw r.sized at q

  one_class : (k s : ℕ) → (view st).gen s ≢ 0 → (view st).class (steps (view st).next k s) ≡ (view st).class s
  one_class zero s h = refl
  one_class (suc k) s h = one_class k ((view st).next s) (W.links.next-live s h) ∙ next-class (view st) W s h

  one_ring : (s t : ℕ) → (view st).gen s ≢ 0 → (view st).gen t ≢ 0 → (view st).class s ≡ (view st).class t → OneRing st s t
  one_ring s t h l e =
      let r = ring-at (view st) W s h in
      let n = (view st).next in
      let q = walk_when n s s t (s ∷ r.rest) (refl, r.round) (r.whole t (record { live = l; mine = sym e })) in
      (q.0, q.2)

  pub sound_of_working : Sound st
  sound_of_working =
      let ke = kept_of (elem_side st) W.elems elems-blank in
      let ks = kept_of (shared_side st) W.shared shared-blank in
      record {
        generation = (W.least, W.most);
        extents = (ke.extent, ks.extent);
        lives = (ke.live, ks.live);
        generations = λ s f. (omega (arith, is_live s f), W.gens s);
        chains = (ke.chain, ks.chain);
        zeros = record { free = (ke.free, ks.free); shared = λ c h. W.chain-zero c (live_of (shared_side st) c h).used; past = (ke.past, ks.past) };
        links = λ s f. let h = is_live s f in record {
          next = frame-to ((view st).next s) (W.links.next-live s h);
          previous = frame-to ((view st).prev s) (W.links.prev_live s h);
          back = W.links.prev_next s h;
          forth = W.links.next_prev s h;
        };
        classes = λ s f. header-to ((view st).class s) (W.class-live s (is_live s f));
        one_class = λ s t f g r. sym (one_class r.0 s (is_live s f)) ∙ ap (view st).class r.1;
        own_class = λ s t f g e. one_ring s t (is_live s f) (is_live t g) e;
        rings = λ c h.
            let r = W.ring c (live_of (shared_side st) c h).used in
            let f = r.1.frames.0 in
            let g = frame-to r.0 f.live in
            (r.0, g, f.mine, rw (ap (view st).count f.mine) at (no_shorter_round r.0 g));
        marks = λ c h. (W.marks c).0;
        sizes = λ s f. W.sizes.most s;
        totals = λ s f. total-ring (view st) W ((view st).class s) s (ring-at (view st) W s (is_live s f));
      }
