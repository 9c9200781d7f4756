-- The shared side as a whole: passes 1, 2 and 3, and nothing past the runs.
use mathlib.Core.Path.{◌≡◌, refl, sym, ap, ◌∙◌}
use mathlib.Core.List.{List}
use Prim.Native.Nat.{ℕ, zero, suc, ◌+◌, ◌*◌, ◌-◌, ◌≤◌, ◌<◌}
use native.Mathlib.Omega.{arith}
use native.Mathlib.Decide.{dec_lt}
use lib.ListN.{length, get_or, get_or-eq_default}
use Rattle.rules.specs.Tables.{header_width, header_at, cell, class_of, count_of}
use Rattle.copies.specs.Parts.{Zeroed}
use Rattle.swaps.specs.Swaps.{slot_in, Permuting, Permuted}
use Rattle.place.specs.Headers.{start, begins, named, counted, Noted, Counted, Recovered, Placeable, Placed}
use Rattle.swaps.proofs.Exchanges.{beside_trans}

module _ (m : ℕ) (e s : List ℕ) (P : Placeable m e s) where
  -- after pass 1
  module _ (e₁ : List ℕ) (N : Noted m e s e₁) where
    entry : (k : ℕ) → 1 ≤ k → k ≤ m → class_of e₁ k ≡ named e s (k - 1)
    entry zero a b = absurd (omega arith)
    entry (suc k) a b = let z : suc k - 1 ≡ k = omega arith in rw z (N.noted k b)

    pub permuting : Permuting m e₁ s
    permuting = record {
      extent = P.extent;
      many = rw N.beside.long P.blocks.many;
      wide = P.wide;
      enough = P.enough;
      spots = λ k a b. rw (entry k a b) ((P.blocks.header (k - 1) (omega arith)).some, P.spots (k - 1) (omega arith));
      apart = λ k l a b c d q. let z = P.apart (k - 1) (l - 1) (omega arith) (omega arith) (sym (entry k a b) ∙ q ∙ entry l c d) in omega arith;
    }

    -- after pass 2
    module _ (e₂ s₂ : List ℕ) (Q : Permuted m e₁ s e₂ s₂) where
      headers_are : (k : ℕ) → k < m → slot_in header_width s₂ (suc k) ≡ slot_in header_width s (named e s k)
      headers_are k l = Q.brought (suc k) (omega arith) l ∙ ap (slot_in header_width s) (N.noted k l)

      count-is : (k : ℕ) → k < m → count_of s₂ (suc k) ≡ count_of s (named e s k)
      count-is k l = λ i. headers_are k l i header_at.count (omega arith)

      -- the counts give the blocks again
      starts : (k : ℕ) → k ≤ m → counted s₂ k ≡ begins e s k
      unfolding start begins
      starts zero l = refl
      starts (suc k) l = rw (starts k (omega arith), count-is k l)

      pub sizes : Counted m e₂ s₂
      sizes = record {
        many = rw Q.long (omega (arith, P.wide, P.enough));
        ends = λ k l. rw (starts k l, Q.beside.long, N.beside.long) (P.blocks.ends k l);
      }

      -- after pass 3, and the rest zeroed
      module _ (e₃ s₃ : List ℕ) (Y : Recovered m e₂ s₂ e₃) (Z : Zeroed s₂ (m * header_width) (length s₂) s₃) where
        cell_same : (f k : ℕ) → f < header_width → k < m → cell header_width s₃ f (suc k) ≡ cell header_width s₂ f (suc k)
        unfolding cell
        cell_same f k h l = Z.below (k * header_width + f) (omega arith)

        zeros : (j : ℕ) → m * header_width ≤ j → Dec (j < length s₂) → get_or s₃ j 0 ≡ 0
        zeros j a (yes d) = Z.within j a d
        zeros j a (no d) = get_or-eq_default s₃ 0 (rw Z.long (omega arith))

        pub placed : Placed m e s e₃ s₃
        placed = record {
          beside = beside_trans N.beside (beside_trans Q.beside Y.beside);
          class = λ k l t a b. Y.hit k l t (rw (starts k (omega arith)) a) (rw (starts (suc k) l) b);
          past = λ t a. let d : m < t = omega (arith, P.past) in Y.past t (rw (starts m (omega arith)) a) ∙ Q.past t d ∙ N.past t d;
          long = Z.long ∙ Q.long;
          headers = λ k l. λ i. λ f h. (cell_same f k h l ∙ (λ j. headers_are k l j f h)) i;
          zeros = λ j a. zeros j a (dec_lt j (length s₂));
        }
