-- Pass 2 of the shared side, over any columns: the headers of the runs, in any order, are brought to the slots 1 to `m` by swaps.
use mathlib.Core.Path.{◌≡◌, refl, sym, ap, ◌∙◌}
use mathlib.Core.Logic.{◌≢◌}
use Prim.Native.Nat.{ℕ, suc, ◌≤◌, ◌<◌}
use native.Mathlib.Omega.{arith}
use native.Mathlib.Decide.{ℕ_discrete}
use Rattle.rules.proofs.Laws.Columns.{choose}
use Rattle.swaps.specs.Swaps.{Trail, here, on}

pub trail-end : {f : ℕ → ℕ} {i a r : ℕ} → Trail f i a r → i ≤ r
trail-end (here h) = h
trail-end (on p l u t) = trail-end t

-- the walk has one end
pub trail_one : {f : ℕ → ℕ} {i a r r' : ℕ} → Trail f i a r → Trail f i a r' → r ≡ r'
trail_one (here h) (here k) = refl
trail_one (here h) (on p l u t) = absurd (omega arith)
trail_one (on p l u t) (here h) = absurd (omega arith)
trail_one (on p l u t) (on p' l' u' t') = trail_one t t'

-- what the next step of the recursion rests on
pub trail-next : {f : ℕ → ℕ} {i a r : ℕ} → Trail f i a r → a < i → (a < f a) × Trail f i (f a) r
trail-next (here h) l = absurd (omega arith)
trail-next (on p l u t) l' = (u, t)

pub trail_low : {f : ℕ → ℕ} {i a r : ℕ} → 0 < i → Trail f i a r → 0 < a
trail_low z (here h) = omega arith
trail_low z (on p l u t) = p

-- the place moves on: an end that is not `i` stays,
pub trail-stays : {f f' : ℕ → ℕ} {i a r : ℕ} → ((b : ℕ) → b < i → f' b ≡ f b) → r ≢ i → Trail f i a r → Trail f' (suc i) a r
trail-stays {i = i} {a = a} e n (here h) = here {a = a} (omega arith)
trail-stays {f} {f'} {i} {a} {r} e n (on p l u t) = on {a = a} {r = r} p (omega arith) (rw (e a l) u) (rw (e a l) (trail-stays e n t))

-- and a walk that ended at `i` goes on to `j`
pub trail_goes : {f f' : ℕ → ℕ} {i a r j : ℕ} → ((b : ℕ) → b < i → f' b ≡ f b) → f' i ≡ j → 0 < i → i < j → r ≡ i → Trail f i a r → Trail f' (suc i) a j
trail_goes {f} {f'} {i} {a} {r} {j} e k z l q (here h) =
    let m : f' a ≡ j = ap f' q ∙ k in
    on {a = a} {r = j} (omega arith) (omega arith) (rw m (omega arith)) (rw m (here {a = j} (omega arith)))
trail_goes {f} {f'} {i} {a} {r} {j} e k z l q (on p d u t) = on {a = a} {r = j} p (omega arith) (rw (e a d) u) (rw (e a d) (trail_goes e k z l q t))

-- the slots `i` and `j` are exchanged, and entry `i` names `j`; with `j` at `i` nothing need change
pub record Swapped {A : Type 0} (f f' : ℕ → ℕ) (h h' : ℕ → A) (i j : ℕ) : Type 0 where
  pub low : (b : ℕ) → b < i → f' b ≡ f b
  pub high : (b : ℕ) → i < b → f' b ≡ f b
  pub named : j ≢ i → f' i ≡ j
  pub at_i : h' i ≡ h j
  pub at_j : h' j ≡ h i
  pub off : (s : ℕ) → s ≢ i → s ≢ j → h' s ≡ h s

-- THE INVARIANT at the place `i`: `f` the class entries, `h` the shared rows, `k` the runs' headers
pub record Sorting {A : Type 0} (m extent : ℕ) (k : ℕ → A) (f : ℕ → ℕ) (h : ℕ → A) (i : ℕ) : Type 0 where
  -- slots below `i` are final
  pub final : (s : ℕ) → 0 < s → s < i → h s ≡ k s
  -- where the header of run `s` is
  pub spot : ℕ → ℕ
  pub trail : (s : ℕ) → i ≤ s → s ≤ m → Trail f i (f s) (spot s)
  pub inside : (s : ℕ) → i ≤ s → s ≤ m → spot s ≤ extent
  pub holds : (s : ℕ) → i ≤ s → s ≤ m → h (spot s) ≡ k s
  pub apart : (s t : ℕ) → i ≤ s → s ≤ m → i ≤ t → t ≤ m → spot s ≡ spot t → s ≡ t

-- a swap keeps it
module _ {A : Type 0} {m extent : ℕ} {k : ℕ → A} {f f' : ℕ → ℕ} {h h' : ℕ → A} {i j : ℕ} (S : Sorting m extent k f h i) (z : 0 < i) (l : i ≤ m) (J : j ≡ S.spot i) (W : Swapped f f' h h' i j) where
  -- a header that stood at `i` stands at `j` now
  moved : ℕ → ℕ
  moved s = choose (ℕ_discrete (S.spot s) i) j (S.spot s)

  -- run `s` past `i`: where it was and is
  data Way (s : ℕ) (was now : ℕ) : Type 0 where
    displaced : was ≡ i → i < j → now ≡ j → Way s was now
    stayed : was ≢ i → was ≢ j → now ≡ was → Way s was now

  high : i ≤ j
  high = rw J (trail-end (S.trail i (omega arith) l))

  other : (s : ℕ) → suc i ≤ s → s ≤ m → S.spot s ≢ j
  other s a b e = omega (arith, S.apart s i (omega arith) b (omega arith) l (e ∙ J))

  way : (s : ℕ) → suc i ≤ s → s ≤ m → Way s (S.spot s) (moved s)
  unfolding moved
  way s a b = go (ℕ_discrete (S.spot s) i)
    where
      go : (d : Dec (S.spot s ≡ i)) → Way s (S.spot s) (choose d j (S.spot s))
      go (yes e) = displaced e (omega (arith, high, other s a b)) refl
      go (no e) = stayed e (other s a b) refl

  final_next : (s : ℕ) → 0 < s → s < suc i → h' s ≡ k s
  final_next s a b = go (ℕ_discrete s i)
    where
      go : Dec (s ≡ i) → h' s ≡ k s
      go (yes e) = rw (e, W.at_i, J) (S.holds i (omega arith) l)
      go (no e) = W.off s e (omega (arith, high)) ∙ S.final s a (omega arith)

  pub sorting_next : Sorting m extent k f' h' (suc i)
  sorting_next = record {
    final = final_next;
    spot = moved;
    trail = λ s a b. rw (W.high s a) (trail' s a b (way s a b));
    inside = λ s a b. inside' s a b (way s a b);
    holds = λ s a b. holds' s a b (way s a b);
    apart = λ s t a b a' b' e. apart' s t a b a' b' e (way s a b) (way t a' b');
  }
    where
      trail' : (s : ℕ) → suc i ≤ s → s ≤ m → Way s (S.spot s) (moved s) → Trail f' (suc i) (f s) (moved s)
      trail' s a b (displaced e d q) = rw q (trail_goes W.low (W.named (omega arith)) z d e (S.trail s (omega arith) b))
      trail' s a b (stayed e d q) = rw q (trail-stays W.low e (S.trail s (omega arith) b))

      inside' : (s : ℕ) → suc i ≤ s → s ≤ m → Way s (S.spot s) (moved s) → moved s ≤ extent
      inside' s a b (displaced e d q) = rw (q, J) (S.inside i (omega arith) l)
      inside' s a b (stayed e d q) = rw q (S.inside s (omega arith) b)

      holds' : (s : ℕ) → suc i ≤ s → s ≤ m → Way s (S.spot s) (moved s) → h' (moved s) ≡ k s
      holds' s a b (displaced e d q) = rw (q, W.at_j, ← e) (S.holds s (omega arith) b)
      holds' s a b (stayed e d q) = rw q (W.off (S.spot s) e d ∙ S.holds s (omega arith) b)

      apart' : (s t : ℕ) → suc i ≤ s → s ≤ m → suc i ≤ t → t ≤ m → moved s ≡ moved t → Way s (S.spot s) (moved s) → Way t (S.spot t) (moved t) → s ≡ t
      apart' s t a b a' b' e (displaced e₁ d₁ q₁) (displaced e₂ d₂ q₂) = S.apart s t (omega arith) b (omega arith) b' (e₁ ∙ sym e₂)
      apart' s t a b a' b' e (displaced e₁ d₁ q₁) (stayed e₂ d₂ q₂) = absurd (d₂ (sym q₂ ∙ sym e ∙ q₁))
      apart' s t a b a' b' e (stayed e₁ d₁ q₁) (displaced e₂ d₂ q₂) = absurd (d₁ (sym q₁ ∙ e ∙ q₂))
      apart' s t a b a' b' e (stayed e₁ d₁ q₁) (stayed e₂ d₂ q₂) = S.apart s t (omega arith) b (omega arith) b' (sym q₁ ∙ e ∙ q₂)
