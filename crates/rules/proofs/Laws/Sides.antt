-- Live and free slots of either table: the book's tests as facts on columns; and Sound 2, 3, 5 and 6 of one table.
use Rattle.std.specs.Prelude.{if◌then◌else◌, ◌==◌}
use mathlib.Core.Path.{◌≡◌, sym, ap, subst, ◌∙◌}
use mathlib.Core.Logic.{◌≢◌}
use mathlib.Core.Bool.{Bool, true, false, ◌&&◌, not}
use mathlib.Core.List.{List, ◌∷◌}
use Prim.Native.Nat.{ℕ, zero, suc, ◌+◌, ◌-◌, ◌*◌, ◌≤◌, ◌<◌}
use native.Mathlib.Nat.{add-zero, zero-add}
use native.Mathlib.Omega.{arith}
use native.Mathlib.Decide.{ℕ_discrete, dec_lt, dec_le}
use lib.Dec.{T, leb→le, le→leb, eqb→eq, eqb_refl, T_not, not_T}
use lib.ListN.{length}
use Rattle.rules.specs.Notation.{◌≤?◌, steps, along, up_to, keep}
use Rattle.rules.specs.Tables.{Side, field_of, is_free, is_live}
use Rattle.rules.specs.Sound.{chain_at, Chain}
use Rattle.rules.proofs.Laws.Columns.{cell-none, cell_out}
use Rattle.rules.proofs.Laws.Lists.{In, all-at}
use Rattle.rules.proofs.Laws.Steps.{steps_add, along-walk, walk_end, all-along, along_once, met, walk-met, walk_when, walk-once}
use Rattle.rules.proofs.Laws.Pools.{Pooled, Free, lives, sign, sign_one}
use Rattle.rules.proofs.Laws.Pools

pub and_T : (a b : Bool) → T (a && b) → T a × T b
and_T true b t = (tt, t)
and_T false b t = absurd t

pub T_and : (a b : Bool) → T a → T b → T (a && b)
T_and true b p q = q
T_and false b p q = absurd p

-- a live slot of a table
pub record LiveIn (t : Side) (s : ℕ) : Type 0 where
  pub low : 1 ≤ s
  pub high : s ≤ t.pool.extent
  pub used : field_of t t.used s ≢ 0

module _ (t : Side) (s : ℕ) where
  pub live_of : T (is_live t s) → LiveIn t s
  unfolding is_live
  live_of h =
      let p = and_T ((1 ≤? s) && (s ≤? t.pool.extent)) (not (field_of t t.used s == 0)) h in
      let q = and_T (1 ≤? s) (s ≤? t.pool.extent) p.0 in
      record { low = leb→le 1 s q.0; high = leb→le s t.pool.extent q.1; used = λ e. T_not (field_of t t.used s == 0) p.1 (rw e (eqb_refl 0)) }

  pub live_to : LiveIn t s → T (is_live t s)
  unfolding is_live
  live_to l =
      T_and ((1 ≤? s) && (s ≤? t.pool.extent)) (not (field_of t t.used s == 0))
      (T_and (1 ≤? s) (s ≤? t.pool.extent) (le→leb 1 s l.low) (le→leb s t.pool.extent l.high))
      (not_T (field_of t t.used s == 0) (λ e. l.used (eqb→eq (field_of t t.used s) 0 e)))

  pub free_of : T (is_free t s) → Free (field_of t t.used) t.pool.extent s
  unfolding is_free
  free_of h =
      let p = and_T ((1 ≤? s) && (s ≤? t.pool.extent)) (field_of t t.used s == 0) h in
      let q = and_T (1 ≤? s) (s ≤? t.pool.extent) p.0 in
      record { low = leb→le 1 s q.0; within = leb→le s t.pool.extent q.1; free = eqb→eq (field_of t t.used s) 0 p.1 }

  pub free-to : Free (field_of t t.used) t.pool.extent s → T (is_free t s)
  unfolding is_free
  free-to f =
      T_and ((1 ≤? s) && (s ≤? t.pool.extent)) (field_of t t.used s == 0)
      (T_and (1 ≤? s) (s ≤? t.pool.extent) (le→leb 1 s f.low) (le→leb s t.pool.extent f.within))
      (rw f.free (eqb_refl 0))

-- ---- Sound 3: the live slots, counted
kept_one : (b : Bool) (v x : ℕ) (r : List ℕ) → (T b → v ≢ 0) → (v ≢ 0 → T b) → length (if b then x ∷ r else r) ≡ sign v + length r
kept_one true v x r f g = omega (arith, sign_one v (f tt))
kept_one false zero x r f g = omega arith
kept_one false (suc v) x r f g = absurd (g (omega arith))

module _ (t : Side) where
  pub lives-from : (k a : ℕ) → a + k ≤ t.pool.extent → lives (field_of t t.used) (a + k) ≡ lives (field_of t t.used) a + length (keep (is_live t) (along suc k (suc a)))
  lives-from zero a h = rw (add-zero a) (omega arith)
  lives-from (suc k) a h =
      let e : a + suc k ≡ suc a + k = omega arith in
      rw e (omega (
        arith,
        lives-from k (suc a) (omega arith),
        kept_one (is_live t (suc a)) (field_of t t.used (suc a)) (suc a) (keep (is_live t) (along suc k (suc (suc a)))) (λ b. (live_of t (suc a) b).used) (λ u. live_to t (suc a) (record { low = omega arith; high = omega arith; used = u })),
      ))

  pub lives-kept : lives (field_of t t.used) t.pool.extent ≡ length (keep (is_live t) (up_to t.pool.extent))
  lives-kept = simp zero-add at (lives-from t.pool.extent 0 (omega arith))

-- ---- Sound 5: the free chain
module _ (t : Side) where
  -- a chain that meets only free slots and ends at 0 meets none twice
  pub chain_none_twice : (size : ℕ) → ((k : ℕ) → k < size → T (is_free t (chain_at t k))) → chain_at t size ≡ 0 → (j k : ℕ) → j < k → k < size → chain_at t j ≢ chain_at t k
  chain_none_twice size free ends j k l h e =
      let d = size - k in
      let n = field_of t t.link in
      let r = t.pool.root in
      let q : k + d ≡ size = omega arith in
      let z : chain_at t (j + d) ≡ 0 = steps_add n j d r ∙ ap (steps n d) e ∙ sym (steps_add n k d r) ∙ ap (chain_at t) q ∙ ends in
      let f = free_of t (chain_at t (j + d)) (free (j + d) (omega arith)) in
      omega (arith, f.low)

  pub chain_of : Chain t → Pools.Chain (field_of t t.used) (field_of t t.link) t.pool.root t.pool.extent
  chain_of c =
      let n = field_of t t.link in
      let r = t.pool.root in
      record {
        slots = along n c.size r;
        walk = rw c.ends at (along-walk n c.size r);
        once = along_once n c.size r c.once;
        free = all-along n (Free (field_of t t.used) t.pool.extent) c.size r (λ j l. free_of t (chain_at t j) (c.free j l));
      }

  pub chain-whole : (c : Chain t) → (s : ℕ) → Free (field_of t t.used) t.pool.extent s → In s (chain_of c).slots
  unfolding chain_of
  chain-whole c s f =
      let m = c.meets s (free-to t s f) in
      let xs = (chain_of c).slots in
      subst (λ (x : ℕ). In x xs) m.2 (met (field_of t t.link) c.size m.0 t.pool.root m.1)

  pub chain-to : (c : Pools.Chain (field_of t t.used) (field_of t t.link) t.pool.root t.pool.extent)
      → ((s : ℕ) → Free (field_of t t.used) t.pool.extent s → In s c.slots) → Chain t
  chain-to c whole =
      let n = field_of t t.link in
      let r = t.pool.root in
      let xs = c.slots in
      record {
        size = length xs;
        free = λ k l. free-to t (chain_at t k) (all-at (Free (field_of t t.used) t.pool.extent) (chain_at t k) xs c.free (walk-met n r 0 xs c.walk k l));
        once = walk-once n r 0 xs c.walk c.once;
        ends = walk_end n r 0 xs c.walk;
        meets = λ s f. walk_when n r 0 s xs c.walk (whole s (free_of t s f));
      }

-- ---- Sound 2, 3, 5 and 6 of one table
pub record Kept (t : Side) : Type 0 where
  pub extent : t.pool.extent ≤ t.pool.capacity
  pub live : t.pool.live ≡ length (keep (is_live t) (up_to t.pool.extent))
  pub chain : Chain t
  pub free : (s f : ℕ) → T (is_free t s) → f < t.width → f ≢ t.link → field_of t f s ≡ 0
  pub past : (s f : ℕ) → t.pool.extent < s → s ≤ t.pool.capacity → f < t.width → field_of t f s ≡ 0

-- a slot that is not live holds zeros, but for its link
abbrev pub Blank : Side → Type 0
Blank t = (s f : ℕ) → field_of t t.used s ≡ 0 → f < t.width → f ≢ t.link → field_of t f s ≡ 0

-- where a slot stands
pub data Zone (extent s : ℕ) : Type 0 where
  nowhere : s ≡ 0 → Zone extent s
  inside : 1 ≤ s → s ≤ extent → Zone extent s
  beyond : extent < s → Zone extent s

pub zone : (extent s : ℕ) → Zone extent s
zone extent s = go (ℕ_discrete s 0) (dec_lt extent s)
  where
    go : Dec (s ≡ 0) → Dec (extent < s) → Zone extent s
    go (yes e) d = nowhere e
    go (no e) (yes l) = beyond l
    go (no e) (no l) = inside (omega arith) (omega arith)

module _ (t : Side) (long : length t.table ≡ t.pool.capacity * t.width) (k : Kept t) where
  past_all : (s f : ℕ) → t.pool.extent < s → f < t.width → field_of t f s ≡ 0
  past_all s f h l = go (dec_le s t.pool.capacity)
    where
      go : Dec (s ≤ t.pool.capacity) → field_of t f s ≡ 0
      go (yes m) = k.past s f h m l
      go (no m) = cell_out t.width t.table f s t.pool.capacity long (omega arith)

  pub blank_of : Blank t
  blank_of s f e l n = go (zone t.pool.extent s)
    where
      go : Zone t.pool.extent s → field_of t f s ≡ 0
      go (nowhere q) = rw q (cell-none t.width t.table f)
      go (inside lo hi) = k.free s f (free-to t s (record { low = lo; within = hi; free = e })) l n
      go (beyond h) = past_all s f h l

  pub pooled_of : t.used < t.width → t.link < t.width → Pooled t.pool (field_of t t.used) (field_of t t.link)
  pooled_of u l = record {
    fits = k.extent;
    number = lives-kept t ∙ sym k.live;
    chain = chain_of t k.chain;
    whole = chain-whole t k.chain;
    none = cell-none t.width t.table t.used;
    past = λ s h. (past_all s t.used h u, past_all s t.link h l);
  }

pub kept_of : (t : Side) → Pooled t.pool (field_of t t.used) (field_of t t.link) → Blank t → Kept t
kept_of t P b = record {
  extent = P.fits;
  live = sym P.number ∙ lives-kept t;
  chain = chain-to t P.chain P.whole;
  free = λ s f h. b s f (free_of t s h).free;
  past = λ s f h m l. past s f h l (ℕ_discrete f t.link);
}
  where
    past : (s f : ℕ) → t.pool.extent < s → f < t.width → Dec (f ≡ t.link) → field_of t f s ≡ 0
    past s f h l (yes e) = rw e (P.past s h).1
    past s f h l (no e) = b s f (P.past s h).0 l e
