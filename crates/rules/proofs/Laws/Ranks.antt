-- The live slots of a table in slot order (Ticket 3): they list it; a slot's place among them is the number of live slots up to it.
use mathlib.Core.Path.{◌≡◌, refl, sym, ap, ◌∙◌}
use mathlib.Core.Logic.{◌≢◌, ◌⊎◌, inl, inr}
use mathlib.Core.List.{List, [], ◌∷◌}
use Prim.Native.Nat.{ℕ, zero, suc, ◌+◌, ◌≤◌, ◌<◌}
use native.Mathlib.Omega.{arith}
use native.Mathlib.Decide.{ℕ_discrete}
use native.Mathlib.Nat.{zero-add}
use lib.Dec.{leb→le, le→leb}
use lib.ListN.{length}
use Rattle.rules.specs.Notation.{◌≤?◌, up_to, keep}
use Rattle.rules.specs.Tables.{Side, field_of, is_live}
use Rattle.rules.specs.Compress.{place_of, live_slots}
use Rattle.rules.proofs.Laws.Tests.{is_true, is_false, le_is}
use Rattle.rules.proofs.Laws.Lists.{All, In, NoDup, all_map, all_of, all-at}
use Rattle.rules.proofs.Laws.Sums.{keep_in, keep_of, keep-once, up_to-in, up_to-of, up_to-once, length-same}
use Rattle.rules.proofs.Laws.Ascending.{Rising, rising-keep}
use Rattle.rules.proofs.Laws.Sides.{live_of, live_to, lives-from}
use Rattle.rules.proofs.Laws.Pools.{Pooled, lives, sign, sign_one, live_in}
use Rattle.rules.proofs.Laws.Places.{place_cases}
use Rattle.rules.proofs.Laws.Order.{Listed}

-- columns that are 0 at the same slots count alike
pub lives-alike : (g h : ℕ → ℕ) (k : ℕ) → ((s : ℕ) → g s ≡ 0 → h s ≡ 0) → ((s : ℕ) → g s ≢ 0 → h s ≢ 0) → lives h k ≡ lives g k
lives-alike g h zero z n = refl
lives-alike g h (suc k) z n = rw (lives-alike g h k z n) (ap (λ (i : ℕ). lives g k + i) (go (ℕ_discrete (g (suc k)) 0)))
  where
    go : Dec (g (suc k) ≡ 0) → sign (h (suc k)) ≡ sign (g (suc k))
    go (yes e) = rw (e, z (suc k) e)
    go (no e) = sign_one (h (suc k)) (n (suc k) e) ∙ sym (sign_one (g (suc k)) e)

-- a live slot is counted
pub lives-some : (g : ℕ → ℕ) (s : ℕ) → g 0 ≡ 0 → g s ≢ 0 → 1 ≤ lives g s
lives-some g zero z h = absurd (h z)
lives-some g (suc s) z h = omega (arith, sign_one (g (suc s)) h)

-- how many of a list are at most `s`
abbrev pub rank : List ℕ → ℕ → ℕ
rank xs s = length (keep (λ y. y ≤? s) xs)

rank_none : (xs : List ℕ) (s : ℕ) → All (λ y. s < y) xs → rank xs s ≡ 0
rank_none [] s a = refl
rank_none (x ∷ xs) s a = rw (is_false (x ≤? s) (le_is x s) (λ h. omega (arith, a.0))) (rank_none xs s a.1)

-- in a list that rises, a member's place is its rank
pub place_rank : (xs : List ℕ) (s : ℕ) → Rising xs → In s xs → place_of xs s ≡ rank xs s
place_rank [] s r m = elim m [ ]
place_rank (x ∷ xs) s r m = go (place_cases xs s x) m (λ i. place_rank xs s r.1 i)
  where
    one : x ≤ s → rank (x ∷ xs) s ≡ suc (rank xs s)
    one h = rw (is_true (x ≤? s) (le_is x s) h)

    go : ((s ≡ x) × (place_of (x ∷ xs) s ≡ 1)) ⊎ ((s ≢ x) × (place_of (x ∷ xs) s ≡ suc (place_of xs s))) → In s (x ∷ xs) → (In s xs → place_of xs s ≡ rank xs s) → place_of (x ∷ xs) s ≡ rank (x ∷ xs) s
    go (inl p) m f = p.1 ∙ sym (one (omega (arith, p.0)) ∙ ap suc (rank_none xs s (all_map (λ y l. omega (arith, p.0)) xs r.0)))
    go (inr p) (inl e) f = absurd (p.0 e)
    go (inr p) (inr i) f = p.1 ∙ ap suc (f i) ∙ sym (one (omega (arith, all-at (λ y. x < y) s xs r.0 i)))

-- two lists with the same members, none twice, have the same ranks
pub rank_same : (xs ys : List ℕ) (s : ℕ) → NoDup xs → NoDup ys → ((x : ℕ) → In x xs → In x ys) → ((y : ℕ) → In y ys → In y xs) → rank xs s ≡ rank ys s
rank_same xs ys s d e f g = length-same (keep (λ y. y ≤? s) xs) (keep (λ y. y ≤? s) ys) (keep-once (λ y. y ≤? s) xs d) (keep-once (λ y. y ≤? s) ys e) (λ x m. move xs ys f x m) (λ x m. move ys xs g x m)
  where
    move : (xs ys : List ℕ) → ((x : ℕ) → In x xs → In x ys) → (x : ℕ) → In x (keep (λ y. y ≤? s) xs) → In x (keep (λ y. y ≤? s) ys)
    move xs ys f x m = let k = keep_of (λ y. y ≤? s) x xs m in keep_in (λ y. y ≤? s) x ys (f x k.0) k.1

module _ (t : Side) {n : ℕ → ℕ} (P : Pooled t.pool (field_of t t.used) n) where
  abbrev g : ℕ → ℕ
  g = field_of t t.used

  -- THE LISTING in slot order
  pub live_listed : Listed (field_of t t.used) (live_slots t)
  unfolding live_slots
  live_listed = record {
    once = keep-once (is_live t) (up_to t.pool.extent) (up_to-once t.pool.extent);
    live = all_of (λ s. g s ≢ 0) (live_slots t) (λ s m. (live_of t s (keep_of (is_live t) s (up_to t.pool.extent) m).1).used);
    whole = λ s h. let l = live_in P s h in keep_in (is_live t) s (up_to t.pool.extent) (up_to-in t.pool.extent s l.0 l.1) (live_to t s (record { low = l.0; high = l.1; used = h }));
  }

  pub live-rising : Rising (live_slots t)
  unfolding live_slots
  live-rising = rising-keep (is_live t) t.pool.extent 1

  -- the live slots up to `s`, counted in two ways
  lives_rank : (s : ℕ) → s ≤ t.pool.extent → lives (field_of t t.used) s ≡ rank (live_slots t) s
  unfolding live_slots
  lives_rank s l =
      simp zero-add at (lives-from t s 0 (omega arith))
      ∙ length-same (keep (is_live t) (up_to s)) (keep (λ y. y ≤? s) (live_slots t)) (keep-once (is_live t) (up_to s) (up_to-once s)) (keep-once (λ y. y ≤? s) (live_slots t) live_listed.once) there back
    where
      there : (x : ℕ) → In x (keep (is_live t) (up_to s)) → In x (keep (λ y. y ≤? s) (keep (is_live t) (up_to t.pool.extent)))
      there x m =
          let k = keep_of (is_live t) x (up_to s) m in
          let b = up_to-of s x k.0 in
          keep_in (λ y. y ≤? s) x (keep (is_live t) (up_to t.pool.extent)) (keep_in (is_live t) x (up_to t.pool.extent) (up_to-in t.pool.extent x b.0 (omega (arith, b.1))) k.1) (le→leb x s b.1)

      back : (x : ℕ) → In x (keep (λ y. y ≤? s) (keep (is_live t) (up_to t.pool.extent))) → In x (keep (is_live t) (up_to s))
      back x m =
          let k = keep_of (λ y. y ≤? s) x (keep (is_live t) (up_to t.pool.extent)) m in
          let i = keep_of (is_live t) x (up_to t.pool.extent) k.0 in
          keep_in (is_live t) x (up_to s) (up_to-in s x (up_to-of t.pool.extent x i.0).0 (leb→le x s k.1)) i.1

  -- the place of a live slot is the number of live slots up to it
  pub place-lives : (s : ℕ) → field_of t t.used s ≢ 0 → place_of (live_slots t) s ≡ lives (field_of t t.used) s
  place-lives s h = place_rank (live_slots t) s live-rising (live_listed.whole s h) ∙ sym (lives_rank s (live_in P s h).1)
