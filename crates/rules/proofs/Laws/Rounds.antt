-- A ring that was walked round, frame by frame, against the ring of a sound state: none is met twice, by the links back.
use mathlib.Core.Path.{◌≡◌, refl, sym, ap, subst, ◌∙◌}
use mathlib.Core.Logic.{◌≢◌, ◌⊎◌, inl, inr}
use mathlib.Core.List.{List, [], ◌∷◌, map}
use Prim.Native.Nat.{ℕ, zero, suc, ◌-◌, ◌≤◌, ◌<◌}
use native.Mathlib.Omega.{arith}
use lib.ListN.{length}
use Rattle.rules.specs.Notation.{sum}
use Rattle.rules.specs.Tables.{last_generation, most_bytes, generation_of, class_of, previous_of, next_of, bytes_of, State}
use Rattle.rules.proofs.Laws.Lists.{All, In, Out, NoDup, Walk, all_map, all-at, all_of}
use Rattle.rules.proofs.Laws.Pools.{live_in}
use Rattle.rules.proofs.Laws.Working.{view, Working, Frame, turn, total-over}
use Rattle.rules.proofs.Laws.Chains.{Both}

pub record Within (extent s : ℕ) : Type 0 where
  pub low : 0 < s
  pub high : s ≤ extent

-- a frame of the class `c`, with its link on
pub record Fit (e : List ℕ) (extent c y : ℕ) : Type 0 where
  pub inside : Within extent y
  pub live : generation_of e y ≢ 0
  pub most : generation_of e y ≤ last_generation
  pub mine : class_of e y ≡ c
  pub onward : Within extent (next_of e y)
  pub back : previous_of e (next_of e y) ≡ y
  pub small : bytes_of e y ≤ most_bytes

-- from `y` on, `k` frames in all with `z` bytes between them, and then `x` for the first time
abbrev pub Round : List ℕ → (extent c x : ℕ) → (k z y : ℕ) → Type 0
Round e extent c x zero z y = ⊥
Round e extent c x (suc k) z y = Fit e extent c y × (bytes_of e y ≤ z) × (((next_of e y ≡ x) × (k ≡ 0) × (z - bytes_of e y ≡ 0)) ⊎ ((next_of e y ≢ x) × Round e extent c x k (z - bytes_of e y) (next_of e y)))

-- ---- one turn of the walk

module _ (e : List ℕ) (extent c x : ℕ) where
  pub round-none : (k z y : ℕ) → k ≡ 0 → Round e extent c x k z y → ⊥
  round-none zero z y q r = r
  round-none (suc k) z y q r = absurd (omega arith)

  pub round_fit : (k z y : ℕ) → Round e extent c x k z y → Fit e extent c y
  round_fit zero z y r = absurd r
  round_fit (suc k) z y r = r.0

  pub round-bytes : (k z y : ℕ) → Round e extent c x k z y → bytes_of e y ≤ z
  round-bytes zero z y r = absurd r
  round-bytes (suc k) z y r = r.1

  pub round-last : (k z y : ℕ) → k ≢ 0 → k - 1 ≡ 0 → Fit e extent c y → bytes_of e y ≤ z → z - bytes_of e y ≡ 0 → next_of e y ≡ x → Round e extent c x k z y
  round-last zero z y h l f b t q = absurd (h refl)
  round-last (suc k) z y h l f b t q = (f, b, inl (q, omega arith, t))

  -- the walk is back: none is left, nor are bytes
  pub round_early : (k z y : ℕ) → next_of e y ≡ x → Round e extent c x k z y → (k - 1 ≡ 0) × (z - bytes_of e y ≡ 0)
  round_early zero z y q r = absurd r
  round_early (suc k) z y q r = go r.2
    where
      go : ((next_of e y ≡ x) × (k ≡ 0) × (z - bytes_of e y ≡ 0)) ⊎ ((next_of e y ≢ x) × Round e extent c x k (z - bytes_of e y) (next_of e y)) → (suc k - 1 ≡ 0) × (z - bytes_of e y ≡ 0)
      go (inl p) = (omega (arith, p.1), p.2)
      go (inr p) = absurd (p.0 q)

  pub round-step : (k z y : ℕ) → k ≢ 0 → Fit e extent c y → bytes_of e y ≤ z → next_of e y ≢ x → Both (Round e extent c x (k - 1) (z - bytes_of e y) (next_of e y)) (Round e extent c x k z y)
  round-step zero z y h f b u = absurd (h refl)
  round-step (suc k) z y h f b u = let q : suc k - 1 ≡ k = omega arith in rw q (λ r. (f, b, inr (u, r)), λ r. back r.2)
    where
      back : ((next_of e y ≡ x) × (k ≡ 0) × (z - bytes_of e y ≡ 0)) ⊎ ((next_of e y ≢ x) × Round e extent c x k (z - bytes_of e y) (next_of e y)) → Round e extent c x k (z - bytes_of e y) (next_of e y)
      back (inl p) = absurd (u p.0)
      back (inr p) = p.1

-- ---- a round is a ring

-- what a walk meets was come to from a place of it
pub pred_in : (n : ℕ → ℕ) (y b t : ℕ) (ys : List ℕ) → Walk n (n y) b ys → In t ys → (z : ℕ) × In z (y ∷ ys) × (n z ≡ t)
pred_in n y b t [] w x'' = elim x'' [ ]
pred_in n y b t (u ∷ us) w (inl q) = (y, inl refl, w.0 ∙ sym q)
pred_in n y b t (u ∷ us) w (inr m) = let r = pred_in n u b t us w.1 m in (r.0, inr r.1, r.2)

-- and it ends at the next of one
pub walk-last : (n : ℕ → ℕ) (a b : ℕ) (xs : List ℕ) → Walk n (n a) b xs → (z : ℕ) × In z (a ∷ xs) × (n z ≡ b)
walk-last n a b [] w = (a, inl refl, w)
walk-last n a b (y ∷ ys) w = let r = walk-last n y b ys w.1 in (r.0, inr r.1, r.2)

once : (n p : ℕ → ℕ) (b x : ℕ) (xs : List ℕ) → Walk n (n x) b xs → All (λ y. p (n y) ≡ y) (x ∷ xs) → Out x xs → NoDup (x ∷ xs)
once n p b x [] w h o = (tt, tt)
once n p b x (y ∷ ys) w h o = (
  o,
  once n p b y ys w.1 h.1 (all_of (λ t. y ≢ t) ys (λ t m q.
      let r = pred_in n y b t ys w.1 m in
      let same : r.0 ≡ x = sym (all-at (λ u. p (n u) ≡ u) r.0 (y ∷ ys) h.1 r.1) ∙ ap p (r.2 ∙ sym q ∙ sym w.0) ∙ h.0 in
      all-at (λ u. x ≢ u) r.0 (y ∷ ys) o r.1 (sym same))),
)

-- the frames met from `x` on
pub record Went (e : List ℕ) (n c x k z y : ℕ) : Type 0 where
  pub rest : List ℕ
  pub walk : Walk (next_of e) (next_of e y) x rest
  pub fits : All (Fit e n c) (y ∷ rest)
  pub apart : Out x rest
  pub sized : suc (length rest) ≡ k
  pub bytes : sum (map (bytes_of e) (y ∷ rest)) ≡ z

pub went : (e : List ℕ) (n c x k z y : ℕ) → Round e n c x k z y → Went e n c x k z y
went e n c x zero z y r = absurd r
went e n c x (suc k) z y r = go (λ q. went e n c x k (z - bytes_of e y) (next_of e y) q) r.2
  where
    go : (Round e n c x k (z - bytes_of e y) (next_of e y) → Went e n c x k (z - bytes_of e y) (next_of e y)) → ((next_of e y ≡ x) × (k ≡ 0) × (z - bytes_of e y ≡ 0)) ⊎ ((next_of e y ≢ x) × Round e n c x k (z - bytes_of e y) (next_of e y)) → Went e n c x (suc k) z y
    go f (inl p) = record { rest = []; walk = p.0; fits = (r.0, tt); apart = tt; sized = ap suc (sym p.1); bytes = omega (arith, r.1, p.2) }
    go f (inr p) = let w = f p.1 in record { rest = next_of e y ∷ w.rest; walk = (refl, w.walk); fits = (r.0, w.fits); apart = (λ q. p.0 (sym q), w.apart); sized = ap suc w.sized; bytes = omega (arith, r.1, w.bytes) }

pub went_once : (e : List ℕ) (n c x k z : ℕ) (w : Went e n c x k z x) → NoDup (x ∷ w.rest)
went_once e n c x k z w = once (next_of e) (previous_of e) x x w.rest w.walk (all_map (λ y f. f.back) (x ∷ w.rest) w.fits) w.apart

-- ---- of a sound state: each frame's round

module _ (st : State) (S : Working (view st)) where
  fit_of : (c y : ℕ) → Frame (view st).gen (view st).class c y → Fit st.elems st.head.elems.extent c y
  fit_of c y f =
      let a = live_in S.elems y f.live in
      let b = live_in S.elems ((view st).next y) (S.links.next-live y f.live) in
      record {
        inside = record { low = a.0; high = a.1 };
        live = f.live;
        most = S.gens y;
        mine = f.mine;
        onward = record { low = b.0; high = b.1 };
        back = S.links.prev_next y f.live;
        small = S.sizes.most y;
      }

  abbrev Rounds : (c x k z y : ℕ) → Type 0
  Rounds = Round st.elems st.head.elems.extent

  rounds : (c x y : ℕ) (ys : List ℕ) → Walk (view st).next ((view st).next y) x ys → All (Frame (view st).gen (view st).class c) (y ∷ ys) → Out x ys → Rounds c x (suc (length ys)) (sum (map (view st).bytes (y ∷ ys))) y
  rounds c x y [] w f o = (fit_of c y f.0, omega arith, inl (w, refl, omega arith))
  rounds c x y (u ∷ us) w f o =
      let less : sum (map (view st).bytes (y ∷ u ∷ us)) - (view st).bytes y ≡ sum (map (view st).bytes (u ∷ us)) = omega arith in
      (fit_of c y f.0, omega arith, inr (λ q. o.0 (sym q ∙ w.0), rw less (subst (Rounds c x (suc (length us)) (sum (map (view st).bytes (u ∷ us)))) (sym w.0) (rounds c x u us w.1 f.1 o.1))))

  pub round_of : (c x : ℕ) → Frame (view st).gen (view st).class c x → Rounds c x ((view st).count c) ((view st).total c) x
  round_of c x f =
      let h : (view st).count c ≢ 0 = rw (← f.mine) (S.class-live x f.live) in
      let r = turn (S.ring c h).1 f in
      subst (λ (z : ℕ). Rounds c x ((view st).count c) z x) (sym (total-over (view st) S c x r))
      (subst (λ (k : ℕ). Rounds c x k (sum (map (view st).bytes (x ∷ r.rest))) x) r.sized (rounds c x x r.rest r.round r.frames r.once.0))
