-- A free chain that was walked to 0, in as many steps as the extent leaves after the live slots, is the pool's chain, and the other way round.
use mathlib.Core.Path.{◌≡◌, refl, sym, ap, subst, ◌∙◌}
use mathlib.Core.Logic.{◌≢◌}
use mathlib.Core.List.{List, [], ◌∷◌}
use Prim.Native.Nat.{ℕ, zero, suc, ◌+◌, ◌-◌, ◌≤◌, ◌<◌}
use native.Mathlib.Omega.{arith}
use lib.ListN.{length, length-append}
use Rattle.rules.proofs.Laws.Lists.{All, In, NoDup, Walk, all_map, all_of, all_parts, in_cut, walk-cut}
use Rattle.rules.specs.declared.Pool.{Pool}
use Rattle.rules.proofs.Laws.Count.{full, fewer, exact_within, unused, unused_free, free_unused, lives_unused}
use Rattle.rules.proofs.Laws.Pools.{Free, Chain, Pooled, lives}

abbrev pub Both : Type 0 → Type 0 → Type 0
Both P Q = (P → Q) × (Q → P)

-- ---- the walk

-- the free chain from `x` ends at 0 after exactly `k` slots
abbrev pub Linked : (g n : ℕ → ℕ) → (extent k x : ℕ) → Type 0
Linked g n extent zero x = x ≡ 0
Linked g n extent (suc k) x = Free g extent x × Linked g n extent k (n x)

module _ (g n : ℕ → ℕ) (extent : ℕ) where
  -- at the end, and on the way
  pub linked-end : (k x : ℕ) → k ≡ 0 → Both (x ≡ 0) (Linked g n extent k x)
  linked-end zero x e = (λ z. z, λ z. z)
  linked-end (suc k) x e = absurd (omega arith)

  pub linked-free : (k x : ℕ) → k ≢ 0 → Linked g n extent k x → Free g extent x
  linked-free zero x h l = absurd (h refl)
  linked-free (suc k) x h l = l.0

  pub linked-step : (k x : ℕ) → k ≢ 0 → Free g extent x → Both (Linked g n extent (k - 1) (n x)) (Linked g n extent k x)
  linked-step zero x h f = absurd (h refl)
  linked-step (suc k) x h f = let e : suc k - 1 ≡ k = omega arith in rw e (λ l. (f, l), λ l. l.1)

  -- two walks to 0 from one place are of one length, so a walk to 0 meets none twice
  same_size : (x : ℕ) (l m : List ℕ) → Walk n x 0 l → Walk n x 0 m → All (Free g extent) l → All (Free g extent) m → length l ≡ length m
  same_size x [] [] p q f h = refl
  same_size x [] (z ∷ m) p q f h = absurd (omega (arith, q.0, h.0.low))
  same_size x (y ∷ l) [] p q f h = absurd (omega (arith, p.0, f.0.low))
  same_size x (y ∷ l) (z ∷ m) p q f h = let e : z ≡ y = sym q.0 ∙ p.0 in ap suc (same_size (n y) l m p.1 (rw e at q.1) f.1 h.1)

  chain-once : (x : ℕ) (l : List ℕ) → Walk n x 0 l → All (Free g extent) l → NoDup l
  chain-once x [] w f = tt
  chain-once x (y ∷ l) w f = (all_of (λ z. y ≢ z) l (λ z m q. twice (rw (← q) at m)), chain-once (n y) l w.1 f.1)
    where
      twice : In y l → ⊥
      twice m =
          let t = in_cut y l m in
          let v = walk-cut n (n y) 0 y t.0 t.1 (rw t.2 at w.1) in
          let h = all_parts (Free g extent) t.0 (y ∷ t.1) (rw t.2 at f.1) in
          omega (arith, same_size y (y ∷ l) (y ∷ t.1) (refl, w.1) (refl, v.1) (f.0, f.1) h.1, ap length t.2, length-append t.0 (y ∷ t.1))

  record Listed (k x : ℕ) : Type 0 where
    list : List ℕ
    walk : Walk n x 0 list
    free : All (Free g extent) list
    long : length list ≡ k

  listed : (k x : ℕ) → Linked g n extent k x → Listed k x
  listed zero x e = record { list = []; walk = e; free = tt; long = refl }
  listed (suc k) x l = let r = listed k (n x) l.1 in record { list = x ∷ r.list; walk = (refl, r.walk); free = (l.0, r.free); long = ap suc r.long }

  pub chain_of : (k x : ℕ) → Linked g n extent k x → Chain g n x extent
  chain_of k x l = let r = listed k x l in record { slots = r.list; walk = r.walk; once = chain-once x r.list r.walk r.free; free = r.free }

  pub chain-long : (k x : ℕ) (l : Linked g n extent k x) → length (chain_of k x l).slots ≡ k
  unfolding chain_of
  chain-long k x l = (listed k x l).long

  links : (x : ℕ) (l : List ℕ) → Walk n x 0 l → All (Free g extent) l → Linked g n extent (length l) x
  links x [] w f = w
  links x (y ∷ l) w f = rw w.0 (f.0, links (n y) l w.1 f.1)

  -- Ticket 4: a chain holds every free slot exactly if it is as long as the extent leaves after the live slots
  module _ (x : ℕ) (c : Chain g n x extent) where
    met-free : All (λ s. (unused g s ≢ 0) × (0 < s) × (s ≤ extent)) c.slots
    met-free = all_map (λ s f. (unused_free g s f.free, f.low, f.within)) c.slots c.free

    pub chain_fits : length c.slots + lives g extent ≤ extent
    chain_fits = omega (arith, fewer c.slots (unused g) extent c.once met-free, lives_unused g extent)

    pub chain-whole : length c.slots + lives g extent ≡ extent → (s : ℕ) → Free g extent s → In s c.slots
    chain-whole e s f = full c.slots (unused g) extent c.once met-free (omega (arith, lives_unused g extent)) s (unused_free g s f.free) f.low f.within

    pub chain-size : ((s : ℕ) → Free g extent s → In s c.slots) → length c.slots + lives g extent ≡ extent
    chain-size w = omega (arith, lives_unused g extent, exact_within c.slots (unused g) extent c.once met-free (λ s lo hi u. w s (record { low = lo; within = hi; free = free_unused g s u })))

-- what the check asks of a chain, of a pool
pub linked_of : {p : Pool} {g n : ℕ → ℕ} → Pooled p g n → Linked g n p.extent (p.extent - p.live) p.root
linked_of {p} {g} {n} P =
    let c = P.chain in
    let e : length c.slots ≡ p.extent - p.live = omega (arith, chain-size g n p.extent p.root c P.whole, P.number) in
    subst (λ (k : ℕ). Linked g n p.extent k p.root) e (links g n p.extent p.root c.slots c.walk c.free)

-- and where as many live slots were met as the head says, the chain leaves room for no more
module _ (p : Pool) (g n : ℕ → ℕ) (h : p.live ≤ p.extent) (l : Linked g n p.extent (p.extent - p.live) p.root) where
  pub counted : (xs : List ℕ) → NoDup xs → All (λ s. (g s ≢ 0) × (0 < s) × (s ≤ p.extent)) xs → length xs ≡ p.live → lives g p.extent ≡ p.live
  counted xs u a e = omega (
    arith,
    h,
    fewer xs g p.extent u a,
    chain_fits g n p.extent p.root (chain_of g n p.extent (p.extent - p.live) p.root l),
    chain-long g n p.extent (p.extent - p.live) p.root l,
  )

  pub pooled-linked : p.extent ≤ p.capacity → lives g p.extent ≡ p.live → g 0 ≡ 0 → ((s : ℕ) → p.extent < s → (g s ≡ 0) × (n s ≡ 0)) → Pooled p g n
  pooled-linked fits number none past =
      let c = chain_of g n p.extent (p.extent - p.live) p.root l in
      record {
        fits = fits;
        number = number;
        chain = c;
        whole = chain-whole g n p.extent p.root c (omega (arith, h, number, chain-long g n p.extent (p.extent - p.live) p.root l));
        none = none;
        past = past;
      }
