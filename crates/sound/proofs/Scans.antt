-- The scan of the element slots: its beginning, each turn, and what its rings say.
use mathlib.Core.Path.{◌≡◌, refl, sym, ap, subst, ◌∙◌}
use mathlib.Core.Logic.{◌≢◌, ◌⊎◌, inl, inr}
use mathlib.Core.Bool.{true, false}
use mathlib.Core.List.{List, [], ◌∷◌}
use Prim.Native.Nat.{ℕ, suc, ◌+◌, ◌-◌, ◌≤◌, ◌<◌}
use native.Mathlib.Omega.{arith}
use native.Mathlib.Decide.{ℕ_discrete}
use lib.ListN.{length-append}
use Rattle.marks.specs.Marks.{marked, Added}
use Rattle.rules.specs.Tables.{generation_of, class_of, count_of, total_of, State}
use Rattle.rules.proofs.Laws.Lists.{All, In, Out, NoDup, all-at, all_of, in_parts, in_left, in_right, nodup_append}
use Rattle.rules.proofs.Laws.Count.{lives_le, fewer}
use Rattle.rules.proofs.Laws.Rounds.{Within, Fit, Round, went, went_once}
use Rattle.turns.specs.Turns.{FreeOk}
use Rattle.sound.specs.Scans.{Run, frames, classes, slots, RunOk, Scan}

-- ---- lists of runs
pub run_at : (y : ℕ) (rs : List Run) → In y (slots rs) → (r : Run) × In r rs × In y (frames r)
run_at y [] m = elim m [ ]
run_at y (r ∷ rs) m = go (λ k. run_at y rs k) (in_parts y (frames r) (slots rs) m)
  where
    go : (In y (slots rs) → (q : Run) × In q rs × In y (frames q)) → In y (frames r) ⊎ In y (slots rs) → (q : Run) × In q (r ∷ rs) × In y (frames q)
    go f (inl k) = (r, inl refl, k)
    go f (inr k) = let t = f k in (t.0, inr t.1, t.2)

pub at-run : (y : ℕ) (r : Run) (rs : List Run) → In r rs → In y (frames r) → In y (slots rs)
at-run y r [] x'' m = elim x'' [ ]
at-run y r (q ∷ rs) (inl p) m = in_left y (frames q) (slots rs) (subst (λ (v : Run). In y (frames v)) p m)
at-run y r (q ∷ rs) (inr k) m = in_right y (frames q) (slots rs) (at-run y r rs k m)

pub of_class : (c : ℕ) (rs : List Run) → In c (classes rs) → (r : Run) × In r rs × (r.class ≡ c)
of_class c [] x' = elim x' [ ]
of_class c (r ∷ rs) (inl q) = (r, inl refl, sym q)
of_class c (r ∷ rs) (inr m) = let t = of_class c rs m in (t.0, inr t.1, t.2)

pub class_of_lem : (r : Run) (rs : List Run) → In r rs → In r.class (classes rs)
class_of_lem r [] x' = elim x' [ ]
class_of_lem r (q ∷ rs) (inl p) = inl (ap (λ (v : Run). v.class) p)
class_of_lem r (q ∷ rs) (inr m) = inr (class_of_lem r rs m)

-- a class has one run
pub same-run : (r q : Run) (rs : List Run) → NoDup (classes rs) → In r rs → In q rs → r.class ≡ q.class → r ≡ q
same-run r q [] u x4 _ e = elim x4 [ ]
same-run r q (t ∷ rs) u (inl a) (inl b) e = a ∙ sym b
same-run r q (t ∷ rs) u (inl a) (inr b) e = absurd (all-at (λ y. t.class ≢ y) q.class (classes rs) u.0 (class_of_lem q rs b) (ap (λ (v : Run). v.class) (sym a) ∙ e))
same-run r q (t ∷ rs) u (inr a) (inl b) e = absurd (all-at (λ y. t.class ≢ y) r.class (classes rs) u.0 (class_of_lem r rs a) (ap (λ (v : Run). v.class) (sym b) ∙ sym e))
same-run r q (t ∷ rs) u (inr a) (inr b) e = same-run r q rs u.1 a b e

out_of : (c : ℕ) (xs : List ℕ) → (In c xs → ⊥) → Out c xs
out_of c xs f = all_of (λ y. c ≢ y) xs (λ y m q. f (subst (λ (v : ℕ). In v xs) (sym q) m))

-- a ring that was walked, as a run
record Ran (st : State) (c x : ℕ) : Type 0 where
  run : Run
  ok : RunOk st run
  class : run.class ≡ c
  start : run.start ≡ x

ran : (st : State) (c x k : ℕ) → Within st.head.shared.extent c → k ≡ count_of st.shared c → Round st.elems st.head.elems.extent c x k (total_of st.shared c) x → Ran st c x
ran st c x k l q r =
    let w = went st.elems st.head.elems.extent c x k (total_of st.shared c) x r in
    record {
      run = record { class = c; start = x; rest = w.rest };
      ok = record { header = l; sized = w.sized ∙ q; round = w.walk; once = went_once st.elems st.head.elems.extent c x k (total_of st.shared c) w; bytes = w.bytes; fits = w.fits };
      class = refl;
      start = refl;
    }

module _ (st : State) where
  slot-class : (y : ℕ) (rs : List Run) → All (RunOk st) rs → In y (slots rs) → In (class_of st.elems y) (classes rs)
  slot-class y rs g k =
      let t = run_at y rs k in
      let ok = all-at (RunOk st) t.0 rs g t.1 in
      subst (λ (v : ℕ). In v (classes rs)) (sym (all-at (Fit st.elems st.head.elems.extent t.0.class) y (frames t.0) ok.fits t.2).mine) (class_of_lem t.0 rs t.1)

  slots-once : (rs : List Run) → All (RunOk st) rs → NoDup (classes rs) → NoDup (slots rs)
  slots-once [] g u = tt
  slots-once (r ∷ rs) g u =
      nodup_append (frames r) (slots rs) g.0.once (slots-once rs g.1 u.1)
      (all_of (λ x. Out x (slots rs)) (frames r) (λ x k. all_of (λ y. x ≢ y) (slots rs) (λ y l q.
      all-at (λ v. r.class ≢ v) (class_of st.elems y) (classes rs) u.0 (slot-class y rs g.1 l)
      (sym (all-at (Fit st.elems st.head.elems.extent r.class) x (frames r) g.0.fits k).mine ∙ ap (class_of st.elems) q))))

  slots-live : (rs : List Run) → All (RunOk st) rs → All (λ x. (generation_of st.elems x ≢ 0) × (0 < x) × (x ≤ st.head.elems.extent)) (slots rs)
  slots-live rs g = all_of (λ x. (generation_of st.elems x ≢ 0) × (0 < x) × (x ≤ st.head.elems.extent)) (slots rs) (λ x k.
      let t = run_at x rs k in
      let f = all-at (Fit st.elems st.head.elems.extent t.0.class) x (frames t.0) (all-at (RunOk st) t.0 rs g t.1).fits t.2 in
      (f.live, f.inside.low, f.inside.high))

  pub begun : (seen : List ℕ) → ((c : ℕ) → marked seen c ≡ false) → Scan st 0 0 0 seen
  begun seen blank = record {
    runs = [];
    good = tt;
    fresh = tt;
    marks = λ c h. absurd (cc (blank c));
    noted = λ c h. absurd h;
    passed = λ x lo hi l. absurd (omega arith);
    free = λ x lo hi l. absurd (omega arith);
    total = refl;
    count = refl;
    few = omega arith;
  }

  module _ (i met rings : ℕ) (seen : List ℕ) (z : Scan st i met rings seen) where
    pub once-met : NoDup (slots z.runs)
    once-met = slots-once z.runs z.good z.fresh

    pub live-met : All (λ x. (generation_of st.elems x ≢ 0) × (0 < x) × (x ≤ st.head.elems.extent)) (slots z.runs)
    live-met = slots-live z.runs z.good

    pub live-classes : All (λ d. (count_of st.shared d ≢ 0) × (0 < d) × (d ≤ st.head.shared.extent)) (classes z.runs)
    live-classes = all_of (λ d. (count_of st.shared d ≢ 0) × (0 < d) × (d ≤ st.head.shared.extent)) (classes z.runs) (λ d k.
        let t = of_class d z.runs k in
        let ok = all-at (RunOk st) t.0 z.runs z.good t.1 in
        subst (λ (d : ℕ). (count_of st.shared d ≢ 0) × (0 < d) × (d ≤ st.head.shared.extent)) t.2 (omega (arith, ok.sized), ok.header.low, ok.header.high))

    pub bounded : met ≤ st.head.elems.extent
    bounded = omega (arith, fewer (slots z.runs) (generation_of st.elems) st.head.elems.extent once-met live-met, lives_le (generation_of st.elems) st.head.elems.extent, z.total)

    pub skip-free : generation_of st.elems (i + 1) ≡ 0 → FreeOk st.elems (i + 1) → Scan st (i + 1) met rings seen
    skip-free h f = record {
      runs = z.runs;
      good = z.good;
      fresh = z.fresh;
      marks = z.marks;
      noted = z.noted;
      passed = λ x lo hi l. passed x lo hi l (ℕ_discrete x (i + 1));
      free = λ x lo hi l. free x lo hi l (ℕ_discrete x (i + 1));
      total = z.total;
      count = z.count;
      few = omega (arith, z.few);
    }
      where
        passed : (x : ℕ) → 0 < x → x ≤ i + 1 → generation_of st.elems x ≢ 0 → Dec (x ≡ i + 1) → In (class_of st.elems x) (classes z.runs)
        passed x lo hi l (yes q) = absurd (l (ap (generation_of st.elems) q ∙ h))
        passed x lo hi l (no q) = z.passed x lo (omega arith) l

        free : (x : ℕ) → 0 < x → x ≤ i + 1 → generation_of st.elems x ≡ 0 → Dec (x ≡ i + 1) → FreeOk st.elems x
        free x lo hi l (yes q) = subst (FreeOk st.elems) (sym q) f
        free x lo hi l (no q) = z.free x lo (omega arith) l

    module _ (c : ℕ) (h : generation_of st.elems (i + 1) ≢ 0) (mine : class_of st.elems (i + 1) ≡ c) (pos : 0 < c) where
      up : suc (c - 1) ≡ c
      up = omega arith

      free-next : (x : ℕ) → 0 < x → x ≤ i + 1 → generation_of st.elems x ≡ 0 → Dec (x ≡ i + 1) → FreeOk st.elems x
      free-next x lo hi l (yes q) = absurd (h (sym (ap (generation_of st.elems) q) ∙ l))
      free-next x lo hi l (no q) = z.free x lo (omega arith) l

      pub skip-seen : marked seen (c - 1) ≡ true → Scan st (i + 1) met rings seen
      skip-seen k = record {
        runs = z.runs;
        good = z.good;
        fresh = z.fresh;
        marks = z.marks;
        noted = z.noted;
        passed = λ x lo hi l. passed x lo hi l (ℕ_discrete x (i + 1));
        free = λ x lo hi l. free-next x lo hi l (ℕ_discrete x (i + 1));
        total = z.total;
        count = z.count;
        few = omega (arith, z.few);
      }
        where
          here : In c (classes z.runs)
          here = subst (λ (v : ℕ). In v (classes z.runs)) up (z.marks (c - 1) k)

          passed : (x : ℕ) → 0 < x → x ≤ i + 1 → generation_of st.elems x ≢ 0 → Dec (x ≡ i + 1) → In (class_of st.elems x) (classes z.runs)
          passed x lo hi l (yes q) = subst (λ (v : ℕ). In v (classes z.runs)) (sym (ap (class_of st.elems) q ∙ mine)) here
          passed x lo hi l (no q) = z.passed x lo (omega arith) l

      pub take-ring : (k : ℕ) (seen' : List ℕ) → c ≤ st.head.shared.extent → marked seen (c - 1) ≡ false → k ≡ count_of st.shared c → Round st.elems st.head.elems.extent c (i + 1) k (total_of st.shared c) (i + 1) → Added seen (c - 1) seen' → Scan st (i + 1) (met + k) (rings + 1) seen'
      take-ring k seen' within off size r add =
          let t = ran st c (i + 1) k (record { low = pos; high = within }) size r in
          let head : t.run.class ≡ c = t.class in
          record {
            runs = t.run ∷ z.runs;
            good = (t.ok, z.good);
            fresh = (subst (λ (v : ℕ). Out v (classes z.runs)) (sym head) (out_of c (classes z.runs) absent), z.fresh);
            marks = λ d o. marks t d o (ℕ_discrete d (c - 1));
            noted = λ d o. on d (subst (λ (v : ℕ). In (suc d) (v ∷ classes z.runs)) head o) (ℕ_discrete d (c - 1));
            passed = λ x lo hi l. passed t x lo hi l (ℕ_discrete x (i + 1));
            free = λ x lo hi l. free-next x lo hi l (ℕ_discrete x (i + 1));
            total = omega (arith, length-append (frames t.run) (slots z.runs), z.total, t.ok.sized, ap (count_of st.shared) head, size);
            count = omega (arith, z.count);
            few = omega (arith, z.few);
          }
        where
          absent : In c (classes z.runs) → ⊥
          absent k = cc (off, z.noted (c - 1) (subst (λ (v : ℕ). In v (classes z.runs)) (sym up) k))

          marks : (t : Ran st c (i + 1)) → (d : ℕ) → marked seen' d ≡ true → Dec (d ≡ c - 1) → In (suc d) (classes (t.run ∷ z.runs))
          marks t d o (yes q) = inl (omega (arith, t.class))
          marks t d o (no q) = inr (z.marks d (sym (add.others d q) ∙ o))

          on : (d : ℕ) → In (suc d) (c ∷ classes z.runs) → Dec (d ≡ c - 1) → marked seen' d ≡ true
          on d o (yes q) = ap (marked seen') q ∙ add.here
          on d (inl p) (no q) = absurd (q (omega arith))
          on d (inr p) (no q) = add.others d q ∙ z.noted d p

          passed : (t : Ran st c (i + 1)) → (x : ℕ) → 0 < x → x ≤ i + 1 → generation_of st.elems x ≢ 0 → Dec (x ≡ i + 1) → In (class_of st.elems x) (classes (t.run ∷ z.runs))
          passed t x lo hi l (yes q) = inl (ap (class_of st.elems) q ∙ mine ∙ sym t.class)
          passed t x lo hi l (no q) = inr (z.passed x lo (omega arith) l)

pub numbered : {st : State} {i met rings live headers : ℕ} {seen : List ℕ} → met ≡ live → rings ≡ headers → Scan st i met rings seen → Scan st i live headers seen
numbered {st} {i} {met} {rings} {live} {headers} {seen} a b z = subst (λ (v : ℕ). Scan st i live v seen) b (subst (λ (v : ℕ). Scan st i v rings seen) a z)
