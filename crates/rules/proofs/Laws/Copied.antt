-- The copy of one table (Ticket 10): its columns are the source's but for the links of free slots, which chain all of them, lowest first.
use Rattle.std.specs.Prelude.{if◌then◌else◌}
use mathlib.Core.Path.{◌≡◌, refl, sym, ap, ◌∙◌, fun_ext}
use mathlib.Core.Logic.{◌≢◌, ◌⊎◌, inl, inr}
use mathlib.Core.Bool.{Bool, true, false, not}
use mathlib.Core.List.{List, [], ◌∷◌, map}
use Prim.Native.Nat.{ℕ, zero, suc, ◌+◌, ◌*◌, ◌-◌, ◌≤◌, ◌<◌}
use native.Mathlib.Nat.{zero-add}
use native.Mathlib.Omega.{arith}
use native.Mathlib.Decide.{ℕ_discrete, dec_lt}
use lib.Dec.{T}
use lib.ListN.{length, get_or, set, replicate, length-set, length-map, length-replicate}
use lib.Seq.{get_or-set_same, get_or-set_other}
use Rattle.rules.specs.Notation.{steps, along, up_to, keep}
use Rattle.rules.specs.Tables.{Side, field_of, cell, is_live}
use Rattle.rules.specs.Calls.{Is}
use Rattle.rules.specs.Copy.{last_to, last_live, free_from, copied_row, copied_table, copied_pool}
use Rattle.rules.proofs.Laws.Tests.{is_true, is_false, is_of}
use Rattle.rules.proofs.Laws.Lists.{In, Walk, all_of}
use Rattle.rules.proofs.Laws.Columns.{cell-none, get_d-zeros}
use Rattle.rules.proofs.Laws.Steps.{length-along}
use Rattle.rules.proofs.Laws.Sums.{keep_in, keep_of, keep-once, up_to-in, up_to-of, up_to-once}
use Rattle.rules.proofs.Laws.Pools.{Pooled, Free, Chain, lives, sign, live_in}
use Rattle.rules.proofs.Laws.Sides.{live_of, live_to, Blank}
use Rattle.rules.proofs.Laws.Places.{upto, upto_in, upto_out, cell-padded, length-padded}
use Rattle.rules.proofs.Laws.Blocks.{map_at, get_d-along}
use Rattle.rules.proofs.Laws.Ascending.{Rising, rising-keep}

steps_up : (f a : ℕ) → steps suc f a ≡ a + f
steps_up zero a = omega arith
steps_up (suc f) a = steps_up f (suc a) ∙ omega arith

-- along a walk to 0 over a list that rises, each step rises
steps-none : (n : ℕ → ℕ) (k : ℕ) → n 0 ≡ 0 → steps n k 0 ≡ 0
steps-none n zero z = refl
steps-none n (suc k) z = rw z (steps-none n k z)

walk-rising : (n : ℕ → ℕ) (a : ℕ) (xs : List ℕ) → n 0 ≡ 0 → Walk n a 0 xs → Rising xs → (k : ℕ) → steps n (suc k) a ≢ 0 → steps n k a < steps n (suc k) a
walk-rising n a [] z w r k h = absurd (h (ap (steps n (suc k)) w ∙ steps-none n (suc k) z))
walk-rising n a (x ∷ []) z w r zero h = absurd (h (ap n w.0 ∙ w.1))
walk-rising n a (x ∷ y ∷ ys) z w r zero h = omega (arith, w.0, ap n w.0, w.1.0, r.0.0)
walk-rising n a (x ∷ xs) z w r (suc k) h = rw w.0 (walk-rising n (n x) xs z w.1 r.1 k (rw w.0 at h))

module _ (t : Side) where
  abbrev g : ℕ → ℕ
  g = field_of t t.used

  abbrev n : ℕ → ℕ
  n = field_of t t.link

  -- ---- the last live slot
  pub last_le : (k : ℕ) → last_to t k ≤ k
  unfolding last_to
  last_le zero = omega arith
  last_le (suc k) = go (is_live t (suc k)) (last_le k)
    where
      go : (b : Bool) → last_to t k ≤ k → (if b then suc k else last_to t k) ≤ suc k
      go true l = omega arith
      go false l = omega arith

  pub last-live : (k : ℕ) → (last_to t k ≡ 0) ⊎ T (is_live t (last_to t k))
  unfolding last_to
  last-live zero = inl refl
  last-live (suc k) = go (is_live t (suc k)) refl (last-live k)
    where
      go : (b : Bool) → is_live t (suc k) ≡ b → (last_to t k ≡ 0) ⊎ T (is_live t (last_to t k)) → ((if b then suc k else last_to t k) ≡ 0) ⊎ T (is_live t (if b then suc k else last_to t k))
      go true e r = inr (rw e tt)
      go false e r = r

  last-over : (k s : ℕ) → last_to t k < s → s ≤ k → is_live t s ≡ false
  unfolding last_to
  last-over zero s l h = absurd (omega arith)
  last-over (suc k) s l h = go (is_live t (suc k)) refl l (ℕ_discrete s (suc k)) (λ m i. last-over k s m i)
    where
      go : (b : Bool) → is_live t (suc k) ≡ b → (if b then suc k else last_to t k) < s → Dec (s ≡ suc k) → (last_to t k < s → s ≤ k → is_live t s ≡ false) → is_live t s ≡ false
      go true e l d r = absurd (omega arith)
      go false e l (yes q) r = rw q e
      go false e l (no q) r = r l (omega arith)

  module _ (P : Pooled t.pool (field_of t t.used) (field_of t t.link)) where
    pub live-is : (s : ℕ) → Is (field_of t t.used s ≢ 0) (is_live t s)
    live-is s = is_of (is_live t s) (λ b. (live_of t s b).used) (λ h. let l = live_in P s h in live_to t s (record { low = l.0; high = l.1; used = h }))

    not_live : (s : ℕ) → is_live t s ≡ false → field_of t t.used s ≡ 0
    not_live s e = go (ℕ_discrete (g s) 0)
      where
        go : Dec (g s ≡ 0) → g s ≡ 0
        go (yes z) = z
        go (no z) = absurd (rw e at (live-is s) z)

    pub live-yes : (s : ℕ) → field_of t t.used s ≢ 0 → is_live t s ≡ true
    live-yes s h = is_true (is_live t s) (live-is s) h

    pub live_no : (s : ℕ) → field_of t t.used s ≡ 0 → is_live t s ≡ false
    live_no s e = is_false (is_live t s) (live-is s) (λ h. h e)

    -- a live slot is at most the last
    pub live-last : (s : ℕ) → field_of t t.used s ≢ 0 → s ≤ last_live t
    live-last s h = go (dec_lt (last_live t) s)
      where
        go : Dec (last_live t < s) → s ≤ last_live t
        go (yes l) = absurd (h (not_live s (last-over t.pool.extent s l (live_in P s h).1)))
        go (no l) = omega arith

    pub zero-past : (s : ℕ) → last_live t < s → field_of t t.used s ≡ 0
    zero-past s l = go (ℕ_discrete (g s) 0)
      where
        go : Dec (g s ≡ 0) → g s ≡ 0
        go (yes e) = e
        go (no e) = absurd (omega (arith, live-last s e))

    lives-end : (k : ℕ) → lives (field_of t t.used) (last_live t + k) ≡ lives (field_of t t.used) (last_live t)
    lives-end zero = let z : last_live t + 0 ≡ last_live t = omega arith in rw z
    lives-end (suc k) =
        let z : last_live t + suc k ≡ suc (last_live t + k) = omega arith in
        let e : g (suc (last_live t + k)) ≡ 0 = zero-past (suc (last_live t + k)) (omega arith) in
        rw z (omega (arith, lives-end k, ap sign e))

    lives-last : lives (field_of t t.used) (last_live t) ≡ t.pool.live
    lives-last =
        let z : last_live t + (t.pool.extent - last_live t) ≡ t.pool.extent = omega (arith, last_le t.pool.extent) in
        sym (lives-end (t.pool.extent - last_live t)) ∙ ap (lives g) z ∙ P.number

    -- ---- the rows
    module _ (capacity : ℕ) (wide : t.link < t.width) where
      row-wide : (s : ℕ) → length (copied_row t s) ≡ t.width
      row-wide s = go (is_live t s)
        where
          go : (b : Bool) → length (if b then map (λ f. field_of t f s) (along suc t.width 0) else set (replicate t.width 0) t.link (free_from t (last_live t - s) (suc s))) ≡ t.width
          go true = length-map (along suc t.width 0) (λ f. field_of t f s) ∙ length-along suc t.width 0
          go false = length-set (replicate t.width 0) t.link (free_from t (last_live t - s) (suc s)) ∙ length-replicate {A = ℕ} t.width 0

      pub row-live : (s f : ℕ) → field_of t t.used s ≢ 0 → f < t.width → get_or (copied_row t s) f 0 ≡ field_of t f s
      row-live s f h l = rw (live-yes s h) (map_at (λ f. field_of t f s) 0 (along suc t.width 0) f (rw (length-along suc t.width 0) l) ∙ ap (λ (i : ℕ). field_of t i s) (get_d-along suc t.width f 0 l ∙ steps_up f 0 ∙ zero-add f))

      pub row-link : (s : ℕ) → field_of t t.used s ≡ 0 → get_or (copied_row t s) t.link 0 ≡ free_from t (last_live t - s) (suc s)
      row-link s e = rw (live_no s e) (get_or-set_same (replicate t.width 0) t.link (free_from t (last_live t - s) (suc s)) 0 (rw (length-replicate {A = ℕ} t.width 0) wide))

      pub row-free : (s f : ℕ) → field_of t t.used s ≡ 0 → f ≢ t.link → get_or (copied_row t s) f 0 ≡ 0
      row-free s f e q = rw (live_no s e) (get_or-set_other (replicate t.width 0) t.link f (free_from t (last_live t - s) (suc s)) 0 q ∙ get_d-zeros t.width f)

      -- ---- the columns
      up_to-at : (m s : ℕ) → 1 ≤ s → s ≤ m → get_or (up_to m) (s - 1) 0 ≡ s
      up_to-at m s lo hi = get_d-along suc m (s - 1) 1 (omega arith) ∙ steps_up (s - 1) 1 ∙ omega arith

      column : (f : ℕ) → f < t.width → cell t.width (copied_table capacity t) f ≡ upto (last_live t) (λ s. get_or (copied_row t (get_or (up_to (last_live t)) (s - 1) 0)) f 0)
      unfolding copied_table
      column f h = cell-padded t.width (copied_row t) row-wide (capacity * t.width) (up_to (last_live t)) f h ∙ ap (λ (k : ℕ). upto k (λ s. get_or (copied_row t (get_or (up_to (last_live t)) (s - 1) 0)) f 0)) (length-along suc (last_live t) 1)

      pub copied_in : (s f : ℕ) → f < t.width → 1 ≤ s → s ≤ last_live t → cell t.width (copied_table capacity t) f s ≡ get_or (copied_row t s) f 0
      copied_in s f h lo hi = ap (λ (col : ℕ → ℕ). col s) (column f h) ∙ upto_in (last_live t) (λ s. get_or (copied_row t (get_or (up_to (last_live t)) (s - 1) 0)) f 0) s lo hi ∙ ap (λ (i : ℕ). get_or (copied_row t i) f 0) (up_to-at (last_live t) s lo hi)

      pub copied-past : (s f : ℕ) → f < t.width → last_live t < s → cell t.width (copied_table capacity t) f s ≡ 0
      copied-past s f h l = ap (λ (col : ℕ → ℕ). col s) (column f h) ∙ upto_out (last_live t) (λ s. get_or (copied_row t (get_or (up_to (last_live t)) (s - 1) 0)) f 0) s l

      -- a live slot is as it was
      pub copied-live : (s f : ℕ) → field_of t t.used s ≢ 0 → f < t.width → cell t.width (copied_table capacity t) f s ≡ field_of t f s
      copied-live s f h l = copied_in s f l (live_in P s h).0 (live-last s h) ∙ row-live s f h l

      -- a free one is zero but for its link
      blank : (s f : ℕ) → field_of t t.used s ≡ 0 → f < t.width → f ≢ t.link → cell t.width (copied_table capacity t) f s ≡ 0
      blank s f e l q = go (ℕ_discrete s 0) (dec_lt (last_live t) s)
        where
          go : Dec (s ≡ 0) → Dec (last_live t < s) → cell t.width (copied_table capacity t) f s ≡ 0
          go (yes z) d = rw z (cell-none t.width (copied_table capacity t) f)
          go (no z) (yes d) = copied-past s f l d
          go (no z) (no d) = copied_in s f l (omega arith) (omega arith) ∙ row-free s f e q

      -- so every column but the link is the source's
      pub copied_column : Blank t → (f : ℕ) → f < t.width → f ≢ t.link → cell t.width (copied_table capacity t) f ≡ field_of t f
      copied_column B f l q = fun_ext λ s. go s (ℕ_discrete (g s) 0)
        where
          go : (s : ℕ) → Dec (g s ≡ 0) → cell t.width (copied_table capacity t) f s ≡ field_of t f s
          go s (yes e) = blank s f e l q ∙ sym (B s f e l q)
          go s (no e) = copied-live s f e l

      link-free : (s : ℕ) → 1 ≤ s → s ≤ last_live t → is_live t s ≡ false → cell t.width (copied_table capacity t) t.link s ≡ free_from t (last_live t - s) (suc s)
      link-free s lo hi e = copied_in s t.link wide lo hi ∙ row-link s (not_live s e)

      -- ---- the chain: all free slots, lowest first
      walk-free : (link : ℕ → ℕ) (m a : ℕ) → ((s : ℕ) → a ≤ s → s < a + m → is_live t s ≡ false → link s ≡ free_from t (a + m - suc s) (suc s)) → Walk link (free_from t m a) 0 (keep (λ s. not (is_live t s)) (along suc m a))
      unfolding free_from
      walk-free link zero a h = refl
      walk-free link (suc m) a h = go (is_live t a) refl (walk-free link m (suc a) (λ s lo hi e. let z : suc a + m ≡ a + suc m = omega arith in rw z (h s (omega arith) (omega arith) e)))
        where
          go : (b : Bool) → is_live t a ≡ b → Walk link (free_from t m (suc a)) 0 (keep (λ s. not (is_live t s)) (along suc m (suc a)))
              → Walk link (if b then free_from t m (suc a) else a) 0 (if not b then a ∷ keep (λ s. not (is_live t s)) (along suc m (suc a)) else keep (λ s. not (is_live t s)) (along suc m (suc a)))
          go true e w = w
          go false e w =
              let z : a + suc m - suc a ≡ m = omega arith in
              let q : link a ≡ free_from t m (suc a) = rw z at (h a (omega arith) (omega arith) e) in
              (refl, rw q w)

      free-slots : List ℕ
      free-slots = keep (λ s. not (is_live t s)) (up_to (last_live t))

      not_T_false : (s : ℕ) → T (not (is_live t s)) → is_live t s ≡ false
      not_T_false s h = go (is_live t s) h
        where
          go : (b : Bool) → T (not b) → b ≡ false
          go true h = absurd h
          go false h = refl

      false_T_not : (s : ℕ) → is_live t s ≡ false → T (not (is_live t s))
      false_T_not s e = rw e tt

      pub copied-chain : Chain (field_of t t.used) (cell t.width (copied_table capacity t) t.link) (free_from t (last_live t) 1) (last_live t)
      unfolding free-slots
      copied-chain = record {
        slots = free-slots;
        walk = walk-free (cell t.width (copied_table capacity t) t.link) (last_live t) 1 (λ s lo hi e. let z : 1 + last_live t - suc s ≡ last_live t - s = omega arith in rw z (link-free s lo (omega arith) e));
        once = keep-once (λ s. not (is_live t s)) (up_to (last_live t)) (up_to-once (last_live t));
        free = all_of (Free g (last_live t)) free-slots (λ s m.
            let k = keep_of (λ s. not (is_live t s)) s (up_to (last_live t)) m in
            let b = up_to-of (last_live t) s k.0 in
            record { low = b.0; within = b.1; free = not_live s (not_T_false s k.1) });
      }

      -- TICKET 4: every free slot up to the extent is on it
      pub copied-whole : (s : ℕ) → Free (field_of t t.used) (last_live t) s → In s copied-chain.slots
      unfolding copied-chain free-slots
      copied-whole s f = keep_in (λ s. not (is_live t s)) s (up_to (last_live t)) (up_to-in (last_live t) s f.low f.within) (false_T_not s (live_no s f.free))

      -- lowest first
      pub copied-rising : (k : ℕ) → steps (cell t.width (copied_table capacity t) t.link) (suc k) (free_from t (last_live t) 1) ≢ 0
          → steps (cell t.width (copied_table capacity t) t.link) k (free_from t (last_live t) 1) < steps (cell t.width (copied_table capacity t) t.link) (suc k) (free_from t (last_live t) 1)
      unfolding copied-chain free-slots
      copied-rising = walk-rising (cell t.width (copied_table capacity t) t.link) (free_from t (last_live t) 1) copied-chain.slots (cell-none t.width (copied_table capacity t) t.link) copied-chain.walk (rising-keep (λ s. not (is_live t s)) (last_live t) 1)

      pub copied-pooled : Blank t → t.used < t.width → t.used ≢ t.link → last_live t ≤ capacity
          → Pooled (copied_pool capacity t) (cell t.width (copied_table capacity t) t.used) (cell t.width (copied_table capacity t) t.link)
      unfolding copied_pool
      copied-pooled B u q fits = rw (copied_column B t.used u q) (record {
        fits = fits;
        number = lives-last;
        chain = copied-chain;
        whole = copied-whole;
        none = P.none;
        past = λ s l. (zero-past s l, copied-past s t.link wide l);
      })

      pub copied-long : last_live t ≤ capacity → length (copied_table capacity t) ≡ capacity * t.width
      unfolding copied_table
      copied-long fits = length-padded t.width (copied_row t) row-wide capacity (up_to (last_live t)) (rw (length-along suc (last_live t) 1) fits)
