-- Passes 1 and 3 on the tables: their loops' invariants.
use mathlib.Core.Path.{◌≡◌, refl, ◌∙◌}
use mathlib.Core.List.{List}
use Prim.Native.Nat.{ℕ, zero, suc, ◌+◌, ◌*◌, ◌-◌, ◌≤◌, ◌<◌}
use native.Mathlib.Omega.{arith}
use native.Mathlib.Numerals.{add-one}
use native.Mathlib.Decide.{ℕ_discrete}
use lib.ListN.{length}
use Rattle.rules.specs.Tables.{frame_width, frame_at, put, class_of, count_of}
use Rattle.rules.proofs.Laws.Columns.{upd, upd_at, upd_other}
use Rattle.slots.specs.Asked.{Within}
use Rattle.swaps.specs.Swaps.{Beside}
use Rattle.place.specs.Headers.{start, begins, named, counted, Blocks, Filled, Counted}
use Rattle.swaps.proofs.Exchanges.{beside-refl, beside_trans, beside-put, class-put}

-- ---- pass 1, at run `suc k`, whose first frame is `at`
pub record Noting (e₀ s e : List ℕ) (k at : ℕ) : Type 0 where
  pub beside : Beside e₀ e
  pub here : at ≡ begins e₀ s k
  pub noted : (j : ℕ) → j < k → class_of e (suc j) ≡ named e₀ s j
  pub past : (t : ℕ) → k < t → class_of e t ≡ class_of e₀ t

pub noting_start : (e s : List ℕ) → Noting e s e 0 1
unfolding begins
noting_start e s = record { beside = beside-refl e; here = refl; noted = λ j h. absurd (omega arith); past = λ t h. refl }

module _ (m : ℕ) (e₀ s e : List ℕ) (k at : ℕ) (B : Blocks m e₀ s) (R : Noting e₀ s e k at) (l : k < m) where
  noting_class : class_of e at ≡ named e₀ s k
  noting_class = rw R.here (R.past _ (B.ahead k l))

  noting_entry : Within frame_width e (k + 1)
  noting_entry = record { some = omega arith; inside = rw R.beside.long (omega (arith, B.many)) }

  noting_sum : at + count_of s (class_of e at) ≡ begins e₀ s (suc k)
  unfolding begins
  noting_sum = rw (noting_class, R.here)

  pub noting_small : (at + count_of s (class_of e at)) * frame_width ≤ length e + frame_width
  noting_small = rw (noting_sum, R.beside.long) (B.ends (suc k) l)

  pub noting_next : (c n : ℕ) (e' : List ℕ) → c ≡ class_of e at → n ≡ count_of s c → e' ≡ put frame_width e (k + 1) frame_at.class c → Noting e₀ s e' (k + 1) (at + n)
  noting_next c n e' ec en q =
      let col : class_of (put frame_width e (suc k) frame_at.class (class_of e at)) ≡ upd (class_of e) (suc k) (class_of e at) = class-put e (suc k) (class_of e at) (rw add-one at noting_entry) in
      rw (q, en, ec, add-one) (record {
        beside = beside_trans R.beside (beside-put e (suc k) (class_of e at));
        here = noting_sum;
        noted = λ j h. rw col (noted' j h (ℕ_discrete j k));
        past = λ t h. rw col (upd_other (class_of e) (suc k) (class_of e at) t (omega arith) ∙ R.past t (omega arith));
      })
    where
      noted' : (j : ℕ) → j < suc k → Dec (j ≡ k) → upd (class_of e) (suc k) (class_of e at) (suc j) ≡ named e₀ s j
      noted' j h (yes z) = upd_at (class_of e) (suc k) (class_of e at) (suc j) (omega arith) ∙ rw z noting_class
      noted' j h (no z) = upd_other (class_of e) (suc k) (class_of e at) (suc j) (omega arith) ∙ R.noted j (omega arith)

-- ---- a block is filled, up to before slot `s` by now
pub filling_next : (e₀ : List ℕ) (a c : ℕ) (e : List ℕ) (s : ℕ) → Filled e₀ a (s - a) c e → a ≤ s → Within frame_width e s → (e' : List ℕ) → e' ≡ put frame_width e s frame_at.class c → Filled e₀ a (s + 1 - a) c e'
filling_next e₀ a c e s F l w e' q =
    let col : class_of (put frame_width e s frame_at.class c) ≡ upd (class_of e) s c = class-put e s c w in
    rw q (record {
      beside = beside_trans F.beside (beside-put e s c);
      hit = λ t h k. rw col (hit' t h k (ℕ_discrete t s));
      below = λ t h. rw col (upd_other (class_of e) s c t (omega arith) ∙ F.below t h);
      past = λ t h. rw col (upd_other (class_of e) s c t (omega arith) ∙ F.past t (omega arith));
    })
  where
    hit' : (t : ℕ) → a ≤ t → t < a + (s + 1 - a) → Dec (t ≡ s) → upd (class_of e) s c t ≡ c
    hit' t h k (yes z) = upd_at (class_of e) s c t z
    hit' t h k (no z) = upd_other (class_of e) s c t z ∙ F.hit t h (omega arith)

-- ---- pass 3, at block `suc k`, which begins at `at`
pub record Recovering (e₀ s e : List ℕ) (k at : ℕ) : Type 0 where
  pub beside : Beside e₀ e
  pub low : 1 ≤ at
  pub here : at ≡ counted s k
  pub hit : (j : ℕ) → j < k → (t : ℕ) → counted s j ≤ t → t < counted s (suc j) → class_of e t ≡ suc j
  pub past : (t : ℕ) → at ≤ t → class_of e t ≡ class_of e₀ t

start_up : (size : ℕ → ℕ) (j k : ℕ) → j ≤ k → start size j ≤ start size k
unfolding start
start_up size j zero h = let z : j ≡ 0 = omega arith in rw z (omega arith)
start_up size j (suc k) h = go (ℕ_discrete j (suc k)) (λ l. start_up size j k l)
  where
    go : Dec (j ≡ suc k) → (j ≤ k → start size j ≤ start size k) → start size j ≤ start size k + size k
    go (yes z) f = rw z (omega arith)
    go (no z) f = omega (arith, f (omega arith))

pub recovering_start : (e s : List ℕ) → Recovering e s e 0 1
unfolding start
recovering_start e s = record { beside = beside-refl e; low = omega arith; here = refl; hit = λ j h. absurd (omega arith); past = λ t h. refl }

module _ (m : ℕ) (e₀ s e : List ℕ) (k at : ℕ) (C : Counted m e₀ s) (R : Recovering e₀ s e k at) (l : k < m) where
  recovering_sum : at + count_of s (k + 1) ≡ counted s (suc k)
  unfolding start
  recovering_sum = rw (R.here, add-one)

  pub recovering_room : (at + count_of s (k + 1)) * frame_width ≤ length e + frame_width
  recovering_room = rw (recovering_sum, R.beside.long) (C.ends (suc k) l)

  pub recovering_next : (n : ℕ) (e' : List ℕ) → n ≡ count_of s (k + 1) → Filled e at n (k + 1) e' → Recovering e₀ s e' (k + 1) (at + n)
  recovering_next n e' en F = record {
    beside = beside_trans R.beside F.beside;
    low = omega (arith, R.low);
    here = rw (en, recovering_sum, add-one);
    hit = λ j h t a b. hit' j t a b h (ℕ_discrete j k);
    past = λ t h. F.past t h ∙ R.past t (omega arith);
  }
    where
      hit' : (j t : ℕ) → counted s j ≤ t → t < counted s (suc j) → j < k + 1 → Dec (j ≡ k) → class_of e' t ≡ suc j
      hit' j t a b h (yes z) = F.hit t (rw (z, ← R.here) at a) (omega (arith, en, rw (z, ← recovering_sum) at b)) ∙ rw (z, add-one)
      hit' j t a b h (no z) = F.below t (omega (arith, start_up (λ j. count_of s (suc j)) (suc j) k (omega arith), R.here)) ∙ R.hit j (omega arith) t a b
