-- What was found, put together: a sound state; and of a sound state, that the scan finds all.
use mathlib.Core.Path.{◌≡◌, refl, sym, ap, subst, ◌∙◌}
use mathlib.Core.Logic.{◌≢◌, ◌⊎◌, inl, inr}
use mathlib.Core.List.{List, [], ◌∷◌, map}
use Prim.Native.Nat.{ℕ, zero, suc, ◌+◌, ◌-◌, ◌≤◌, ◌<◌}
use native.Mathlib.Omega.{arith}
use native.Mathlib.Decide.{ℕ_discrete, dec_lt}
use lib.ListN.{length}
use Rattle.rules.specs.Tables.{last_generation, most_bytes, frame_width, header_width, frame_at, header_at, cell, generation_of, payload_of, class_of, previous_of, next_of, bytes_of, count_of, value_of, next_free_of, mark_of, total_of, State}
use Rattle.rules.proofs.Laws.Columns.{cell-none}
use Rattle.rules.proofs.Laws.Lists.{In, Walk, all_map, all-at}
use Rattle.rules.proofs.Laws.Pools.{lives, live_in}
use Rattle.rules.proofs.Laws.Count.{full, exact, lives_le}
use Rattle.rules.proofs.Laws.Working.{view, Working, Frame, Ring, turn, ring-over, total-none}
use Rattle.rules.proofs.Laws.Totals.{Sizes, whole, whole-none}
use Rattle.rules.specs.Notation.{sum}
use Rattle.rules.proofs.Laws.Chains.{linked_of, counted, pooled-linked}
use Rattle.rules.proofs.Laws.Rounds.{Within, Fit, pred_in, walk-last}
use Rattle.pools.specs.Pools.{PoolOk, HeaderOk, Headers}
use Rattle.turns.specs.Turns.{FreeOk}
use Rattle.sound.specs.Scans.{Run, frames, classes, slots, RunOk, Scan, Scanned}
use Rattle.rules.proofs.Laws.Past.{Empty, empty_of, zeros_of}
use Rattle.sound.proofs.Scans.{run_at, at-run, of_class, same-run, once-met, live-met, live-classes}

-- where a slot stands
data Zone (extent s : ℕ) : Type 0 where
  nowhere : s ≡ 0 → Zone extent s
  inside : Within extent s → Zone extent s
  beyond : extent < s → Zone extent s

zone : (extent s : ℕ) → Zone extent s
zone extent s = go (ℕ_discrete s 0) (dec_lt extent s)
  where
    go : Dec (s ≡ 0) → Dec (extent < s) → Zone extent s
    go (yes e) d = nowhere e
    go (no e) (yes l) = beyond l
    go (no e) (no l) = inside (record { low = omega arith; high = omega arith })

within : (w : ℕ) (t : List ℕ) (extent : ℕ) → 0 < w → Empty w t extent → (x : ℕ) → cell w t 0 x ≢ 0 → Within extent x
within w t extent pos z x l = go (zone extent x)
  where
    go : Zone extent x → Within extent x
    go (nowhere q) = absurd (l (ap (cell w t 0) q ∙ cell-none w t 0))
    go (inside i) = i
    go (beyond b) = absurd (l (z 0 x pos b))

-- ---- what was found makes a sound state
pub record Found (st : State) : Type 0 where
  pub least : 1 ≤ st.head.generation
  pub most : st.head.generation ≤ last_generation
  pub elems : PoolOk st.head.elems frame_width frame_at.next st.elems
  pub shared : PoolOk st.head.shared header_width header_at.next_free st.shared
  pub headers : Headers st.shared st.head.shared.extent
  pub scanned : Scanned st

module _ (st : State) (F : Found st) where
  past_e : Empty frame_width st.elems st.head.elems.extent
  past_e = empty_of frame_width st.elems st.head.elems.extent F.elems.zeros

  past_s : Empty header_width st.shared st.head.shared.extent
  past_s = empty_of header_width st.shared st.head.shared.extent F.shared.zeros

  -- Sound 3: what was met, and what the chains leave
  frames-counted : lives (generation_of st.elems) st.head.elems.extent ≡ st.head.elems.live
  frames-counted =
      let z = F.scanned.scan in
      counted st.head.elems (generation_of st.elems) (next_of st.elems) F.elems.live F.elems.chain (slots z.runs) (once-met st _ _ _ F.scanned.seen z) (live-met st _ _ _ F.scanned.seen z) z.total

  headers-counted : lives (count_of st.shared) st.head.shared.extent ≡ st.head.shared.live
  headers-counted =
      let z = F.scanned.scan in
      counted st.head.shared (count_of st.shared) (next_free_of st.shared) F.shared.live F.shared.chain (classes z.runs) z.fresh (live-classes st _ _ _ F.scanned.seen z) z.count

  -- a frame stands in a run that was walked
  record Stands (x : ℕ) : Type 0 where
    run : Run
    there : In run F.scanned.scan.runs
    member : In x (frames run)
    ok : RunOk st run
    fit : Fit st.elems st.head.elems.extent run.class x

  stands : (x : ℕ) → generation_of st.elems x ≢ 0 → Stands x
  stands x l =
      let i = within frame_width st.elems st.head.elems.extent (omega arith) past_e x l in
      let z = F.scanned.scan in
      let m = full (slots z.runs) (generation_of st.elems) st.head.elems.extent (once-met st _ _ _ F.scanned.seen z) (live-met st _ _ _ F.scanned.seen z) (z.total ∙ sym frames-counted) x l i.low i.high in
      let t = run_at x z.runs m in
      let ok = all-at (RunOk st) t.0 z.runs z.good t.1 in
      record { run = t.0; there = t.1; member = t.2; ok = ok; fit = all-at (Fit st.elems st.head.elems.extent t.0.class) x (frames t.0) ok.fits t.2 }

  -- where the ring comes to x from
  record From (x : ℕ) : Type 0 where
    from : ℕ
    live : generation_of st.elems from ≢ 0
    leads : next_of st.elems from ≡ x
    back : previous_of st.elems x ≡ from

  from : (x : ℕ) → Stands x → From x
  from x t = go t.member
    where
      made : (z : ℕ) × In z (frames t.run) × (next_of st.elems z ≡ x) → From x
      made r =
          let f = all-at (Fit st.elems st.head.elems.extent t.run.class) r.0 (frames t.run) t.ok.fits r.1 in
          record { from = r.0; live = f.live; leads = r.2; back = ap (previous_of st.elems) (sym r.2) ∙ f.back }

      go : In x (frames t.run) → From x
      go (inl q) = let r = walk-last (next_of st.elems) t.run.start t.run.start t.run.rest t.ok.round in made (r.0, r.1, r.2 ∙ sym q)
      go (inr m) = made (pred_in (next_of st.elems) t.run.start t.run.start x t.run.rest t.ok.round m)

  -- its next is a frame: the walk goes on to it, or begins there
  next-live : (x : ℕ) → Stands x → generation_of st.elems (next_of st.elems x) ≢ 0
  next-live x t = (all-at (Fit st.elems st.head.elems.extent t.run.class) (next_of st.elems x) (frames t.run) t.ok.fits (closed (next_of st.elems) t.run.start t.run.rest t.ok.round x t.member)).live
    where
      after : (n : ℕ → ℕ) (a b y : ℕ) (zs : List ℕ) → Walk n a b zs → In y zs → (n y ≡ b) ⊎ In (n y) zs
      after n a b y [] w x3 = elim x3 [ ]
      after n a b y (z ∷ []) w (inl q) = inl (ap n q ∙ w.1)
      after n a b y (z ∷ x ∷ zs) w (inl q) = inr (inr (inl (ap n q ∙ w.1.0)))
      after n a b y (z ∷ zs) w (inr m) = go (after n (n z) b y zs w.1 m)
        where
          go : (n y ≡ b) ⊎ In (n y) zs → (n y ≡ b) ⊎ In (n y) (z ∷ zs)
          go (inl q) = inl q
          go (inr m) = inr (inr m)

      closed : (n : ℕ → ℕ) (x : ℕ) (xs : List ℕ) → Walk n (n x) x xs → (y : ℕ) → In y (x ∷ xs) → In (n y) (x ∷ xs)
      closed n x xs w y m = go (after n x x y (x ∷ xs) (refl, w) m)
        where
          go : (n y ≡ x) ⊎ In (n y) (x ∷ xs) → In (n y) (x ∷ xs)
          go (inl q) = inl q
          go (inr m) = m

  -- the ring of a live class
  abbrev Ringed : ℕ → Type 0
  Ringed c = (x : ℕ) × (r : Ring (generation_of st.elems) (class_of st.elems) (next_of st.elems) c x (count_of st.shared c)) × (total_of st.shared c ≡ sum (map (bytes_of st.elems) (x ∷ r.rest)))

  class-run : (c : ℕ) → count_of st.shared c ≢ 0 → Ringed c
  class-run c l =
      let i = within header_width st.shared st.head.shared.extent (omega arith) past_s c l in
      let z = F.scanned.scan in
      let m = full (classes z.runs) (count_of st.shared) st.head.shared.extent z.fresh (live-classes st _ _ _ F.scanned.seen z) (z.count ∙ sym headers-counted) c l i.low i.high in
      let t = of_class c z.runs m in
      go t.0 t.1 t.2
    where
      go : (r : Run) → In r F.scanned.scan.runs → r.class ≡ c → Ringed c
      go r k q =
          let ok = all-at (RunOk st) r F.scanned.scan.runs F.scanned.scan.good k in (
            r.start,
            record {
              rest = r.rest;
              round = ok.round;
              once = ok.once;
              frames = all_map (λ y f. record { live = f.live; mine = f.mine ∙ q }) (frames r) ok.fits;
              whole = λ x f. whole r k q x f (stands x f.live);
              sized = ok.sized ∙ ap (count_of st.shared) q;
            },
            ap (total_of st.shared) (sym q) ∙ sym ok.bytes,
          )
        where
          whole : (r : Run) → In r F.scanned.scan.runs → r.class ≡ c → (x : ℕ) → Frame (generation_of st.elems) (class_of st.elems) c x → Stands x → In x (frames r)
          whole r k q x f t = subst (λ (u : Run). In x (frames u)) (same-run t.run r F.scanned.scan.runs F.scanned.scan.fresh t.there k (sym t.fit.mine ∙ f.mine ∙ sym q)) t.member

  header_ok : (c : ℕ) → Within st.head.shared.extent c → HeaderOk st.shared c
  header_ok c i = let q : (c - 1) + 1 ≡ c = omega (arith, i.low) in subst (HeaderOk st.shared) q (F.headers (c - 1) (omega (arith, i.low, i.high)))

  pub working-found : Working (view st)
  working-found = record {
    least = F.least;
    most = F.most;
    elems = pooled-linked st.head.elems (generation_of st.elems) (next_of st.elems) F.elems.live F.elems.chain F.elems.extent frames-counted
        (cell-none frame_width st.elems 0) (λ x l. (past_e frame_at.generation x (omega arith) l, past_e frame_at.next x (omega arith) l));
    shared = pooled-linked st.head.shared (count_of st.shared) (next_free_of st.shared) F.shared.live F.shared.chain F.shared.extent headers-counted
        (cell-none header_width st.shared 0) (λ x l. (past_s header_at.count x (omega arith) l, past_s header_at.next_free x (omega arith) l));
    gens = λ x. gens x (ℕ_discrete (generation_of st.elems x) 0);
    zeros = λ x l. zeros x l (zone st.head.elems.extent x);
    value-zero = λ c l. value-zero c l (zone st.head.shared.extent c);
    chain-zero = λ c l. (header_ok c (within header_width st.shared st.head.shared.extent (omega arith) past_s c l)).live l;
    marks = λ c. marks c (zone st.head.shared.extent c);
    links = record {
      next-live = λ x l. next-live x (stands x l);
      prev_live = λ x l. let r = from x (stands x l) in subst (λ (u : ℕ). generation_of st.elems u ≢ 0) (sym r.back) r.live;
      prev_next = λ x l. (stands x l).fit.back;
      next_prev = λ x l. let r = from x (stands x l) in ap (next_of st.elems) r.back ∙ r.leads;
    };
    class-live = λ x l. let t = stands x l in subst (λ (c : ℕ). count_of st.shared c ≢ 0) (sym t.fit.mine) (omega (arith, t.ok.sized));
    sizes = sizes;
    ring = λ c l. let t = class-run c l in (t.0, t.1);
  }
    where
      bytes-free : (x : ℕ) → generation_of st.elems x ≡ 0 → Zone st.head.elems.extent x → bytes_of st.elems x ≡ 0
      bytes-free x l (nowhere q) = rw q (cell-none frame_width st.elems frame_at.size)
      bytes-free x l (inside i) = (F.scanned.scan.free x i.low i.high l).size
      bytes-free x l (beyond b) = past_e frame_at.size x (omega arith) b

      bytes_most : (x : ℕ) → Dec (generation_of st.elems x ≡ 0) → bytes_of st.elems x ≤ most_bytes
      bytes_most x (yes q) = rw (bytes-free x q (zone st.head.elems.extent x)) (omega arith)
      bytes_most x (no q) = (stands x q).fit.small

      total-free : (c : ℕ) → count_of st.shared c ≡ 0 → Zone st.head.shared.extent c → total_of st.shared c ≡ 0
      total-free c l (nowhere q) = rw q (cell-none header_width st.shared header_at.total)
      total-free c l (inside i) = ((header_ok c i).free l).1
      total-free c l (beyond b) = past_s header_at.total c (omega arith) b

      free_all : (x : ℕ) → generation_of st.elems x ≡ 0 → bytes_of st.elems x ≡ 0
      free_all x l = bytes-free x l (zone st.head.elems.extent x)

      in_table : (x : ℕ) → generation_of st.elems x ≢ 0 → (0 < x) × (x ≤ st.head.elems.capacity)
      in_table x l = let i = within frame_width st.elems st.head.elems.extent (omega arith) past_e x l in (i.low, omega (arith, i.high, F.elems.extent))

      classes-live : (x : ℕ) → generation_of st.elems x ≢ 0 → count_of st.shared (class_of st.elems x) ≢ 0
      classes-live x l = let t = stands x l in subst (λ (c : ℕ). count_of st.shared c ≢ 0) (sym t.fit.mine) (omega (arith, t.ok.sized))

      totals : (c : ℕ) → Dec (count_of st.shared c ≡ 0) → total_of st.shared c ≡ whole st.head.elems.capacity (class_of st.elems) (bytes_of st.elems) c
      totals c (yes e) = total-free c e (zone st.head.shared.extent c) ∙ sym (whole-none st.head.elems.capacity (generation_of st.elems) (class_of st.elems) (bytes_of st.elems) c free_all (λ x l q. classes-live x l (ap (count_of st.shared) q ∙ e)))
      totals c (no e) = let t = class-run c e in t.2 ∙ sym (ring-over st.head.elems.capacity t.1 free_all in_table)

      sizes : Sizes st.head.elems.capacity (generation_of st.elems) (class_of st.elems) (bytes_of st.elems) (total_of st.shared)
      sizes = record { most = λ x. bytes_most x (ℕ_discrete (generation_of st.elems x) 0); free = free_all; total = λ c. totals c (ℕ_discrete (count_of st.shared c) 0) }

      gens : (x : ℕ) → Dec (generation_of st.elems x ≡ 0) → generation_of st.elems x ≤ last_generation
      gens x (yes q) = rw q (omega arith)
      gens x (no q) = (stands x q).fit.most

      zeros : (x : ℕ) → generation_of st.elems x ≡ 0 → Zone st.head.elems.extent x → (payload_of st.elems x ≡ 0) × (class_of st.elems x ≡ 0) × (previous_of st.elems x ≡ 0)
      zeros x l (nowhere q) = rw q (cell-none frame_width st.elems frame_at.payload, cell-none frame_width st.elems frame_at.class, cell-none frame_width st.elems frame_at.previous)
      zeros x l (inside i) = let f = F.scanned.scan.free x i.low i.high l in (f.payload, f.class, f.previous)
      zeros x l (beyond b) = (past_e frame_at.payload x (omega arith) b, past_e frame_at.class x (omega arith) b, past_e frame_at.previous x (omega arith) b)

      value-zero : (c : ℕ) → count_of st.shared c ≡ 0 → Zone st.head.shared.extent c → value_of st.shared c ≡ 0
      value-zero c l (nowhere q) = rw q (cell-none header_width st.shared header_at.value)
      value-zero c l (inside i) = ((header_ok c i).free l).0
      value-zero c l (beyond b) = past_s header_at.value c (omega arith) b

      none : (c : ℕ) → mark_of st.shared c ≡ 0 → (mark_of st.shared c ≤ 1) × (mark_of st.shared c ≤ count_of st.shared c)
      none c e = (omega (arith, e), omega (arith, e))

      marks : (c : ℕ) → Zone st.head.shared.extent c → (mark_of st.shared c ≤ 1) × (mark_of st.shared c ≤ count_of st.shared c)
      marks c (nowhere q) = none c (rw q (cell-none header_width st.shared header_at.mark))
      marks c (inside i) = (header_ok c i).mark
      marks c (beyond b) = none c (past_s header_at.mark c (omega arith) b)

-- ---- of a sound state, each part
module _ (st : State) (S : Working (view st)) where
  pub must_headers : Headers st.shared st.head.shared.extent
  must_headers c l = record { free = λ z. (S.value-zero (c + 1) z, total-none (view st) S (c + 1) z); live = λ u. S.chain-zero (c + 1) u; mark = S.marks (c + 1) }

  pub must_shared : PoolOk st.head.shared header_width header_at.next_free st.shared
  must_shared = record {
    extent = S.shared.fits;
    live = omega (arith, S.shared.number, lives_le (count_of st.shared) st.head.shared.extent);
    zeros = zeros_of header_width st.shared st.head.shared.extent (omega arith) (λ f x l b. at f x l b);
    chain = linked_of S.shared;
  }
    where
      at : Empty header_width st.shared st.head.shared.extent
      at zero x l b = (S.shared.past x b).0
      at (suc zero) x l b = S.value-zero x (S.shared.past x b).0
      at (suc (suc zero)) x l b = (S.shared.past x b).1
      at (suc (suc (suc zero))) x l b = omega (arith, (S.marks x).1, (S.shared.past x b).0)
      at (suc (suc (suc (suc zero)))) x l b = total-none (view st) S x (S.shared.past x b).0
      at (suc (suc (suc (suc (suc f))))) x l b = absurd (omega arith)

  pub must_elems : PoolOk st.head.elems frame_width frame_at.next st.elems
  must_elems = record {
    extent = S.elems.fits;
    live = omega (arith, S.elems.number, lives_le (generation_of st.elems) st.head.elems.extent);
    zeros = zeros_of frame_width st.elems st.head.elems.extent (omega arith) (λ f x l b. at f x l b);
    chain = linked_of S.elems;
  }
    where
      at : Empty frame_width st.elems st.head.elems.extent
      at zero x l b = (S.elems.past x b).0
      at (suc zero) x l b = (S.zeros x (S.elems.past x b).0).0
      at (suc (suc zero)) x l b = (S.zeros x (S.elems.past x b).0).1
      at (suc (suc (suc zero))) x l b = (S.zeros x (S.elems.past x b).0).2
      at (suc (suc (suc (suc zero)))) x l b = (S.elems.past x b).1
      at (suc (suc (suc (suc (suc zero))))) x l b = S.sizes.free x (S.elems.past x b).0
      at (suc (suc (suc (suc (suc (suc f)))))) x l b = absurd (omega arith)

  pub must_free : (x : ℕ) → generation_of st.elems x ≡ 0 → FreeOk st.elems x
  must_free x z = let o = S.zeros x z in record { payload = o.0; class = o.1; previous = o.2; size = S.sizes.free x z }

  pub must_class : (x : ℕ) → generation_of st.elems x ≢ 0 → Within st.head.shared.extent (class_of st.elems x)
  must_class x l = let o = live_in S.shared (class_of st.elems x) (S.class-live x l) in record { low = o.0; high = o.1 }

  -- the scan is through
  module _ (met rings : ℕ) (seen : List ℕ) (z : Scan st st.head.elems.extent met rings seen) where
    -- two walks of one length from one place are one
    same-walk : (n : ℕ → ℕ) (a b d : ℕ) (xs ys : List ℕ) → Walk n a b xs → Walk n a d ys → length xs ≡ length ys → xs ≡ ys
    same-walk n a b d [] [] v w q = refl
    same-walk n a b d [] (y ∷ ys) v w q = absurd (omega arith)
    same-walk n a b d (x ∷ xs) [] v w q = absurd (omega arith)
    same-walk n a b d (x ∷ xs) (y ∷ ys) v w q =
        let p : x ≡ y = sym v.0 ∙ w.0 in
        let r = same-walk n (n x) b d xs ys v.1 (subst (λ (u : ℕ). Walk n (n u) d ys) (sym p) w.1) (omega arith) in
        λ i. p i ∷ r i

    -- each frame was met
    met_all : (x : ℕ) → generation_of st.elems x ≢ 0 → In x (slots z.runs)
    met_all x l =
        let i = live_in S.elems x l in
        let t = of_class (class_of st.elems x) z.runs (z.passed x i.0 i.1 l) in
        let r = t.0 in
        let ok = all-at (RunOk st) r z.runs z.good t.1 in
        let g = turn (S.ring (class_of st.elems x) (S.class-live x l)).1 (record { live = ok.fits.0.live; mine = ok.fits.0.mine ∙ t.2 }) in
        let q : r.rest ≡ g.rest = same-walk (next_of st.elems) (next_of st.elems r.start) r.start r.start r.rest g.rest ok.round g.round (omega (arith, ok.sized, g.sized, ap (count_of st.shared) t.2)) in
        at-run x r z.runs t.1 (subst (λ (ys : List ℕ). In x (r.start ∷ ys)) (sym q) (g.whole x (record { live = l; mine = refl })))

    pub must_met : met ≡ st.head.elems.live
    must_met = sym z.total ∙ sym (exact (slots z.runs) (generation_of st.elems) st.head.elems.extent (once-met st _ _ _ seen z) (live-met st _ _ _ seen z) met_all) ∙ S.elems.number

    pub must_rings : rings ≡ st.head.shared.live
    must_rings = sym z.count ∙ sym (exact (classes z.runs) (count_of st.shared) st.head.shared.extent z.fresh (live-classes st _ _ _ seen z) seen_all) ∙ S.shared.number
      where
        seen_all : (c : ℕ) → count_of st.shared c ≢ 0 → In c (classes z.runs)
        seen_all c l =
            let r = S.ring c l in
            let f = r.1.frames.0 in
            let i = live_in S.elems r.0 f.live in
            subst (λ (v : ℕ). In v (classes z.runs)) f.mine (z.passed r.0 i.0 i.1 f.live)
