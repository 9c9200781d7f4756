-- Pass 2 on the tables: two slots exchanged field by field, and the loop that keeps the swaps' invariant.
use mathlib.Core.Path.{◌≡◌, refl, sym, ap, ◌∙◌, fun_ext}
use mathlib.Core.Logic.{◌≢◌}
use mathlib.Core.List.{List}
use Prim.Native.Nat.{ℕ, suc, ◌+◌, ◌*◌, ◌≤◌, ◌<◌}
use native.Mathlib.Omega.{arith}
use native.Mathlib.Numerals.{add-one}
use native.Mathlib.Decide.{ℕ_discrete}
use lib.ListN.{length}
use Rattle.rules.specs.Tables.{frame_width, header_width, frame_at, cell, put, class_of}
use Rattle.rules.proofs.Laws.Columns.{upd, upd_same, upd_at, upd_other, length-put, put-at, put_off}
use Rattle.rules.proofs.Laws.Pools.{if_eq, if_ne}
use Rattle.slots.specs.Asked.{Within, Cell}
use Rattle.swaps.specs.Swaps.{Trail, here, exchanged_at, Exchanged, Brought, Beside, slot_in, Permuting, Permuted}
use Rattle.swaps.proofs.Swaps.{Sorting, Swapped, sorting_next, trail_one, trail-end}

-- ---- all but the class entries stay
pub beside-refl : (e : List ℕ) → Beside e e
beside-refl e = record { long = refl; others = λ f h n. refl }

pub beside_trans : {a b c : List ℕ} → Beside a b → Beside b c → Beside a c
beside_trans p q = record { long = q.long ∙ p.long; others = λ f h n. q.others f h n ∙ p.others f h n }

pub beside-put : (e : List ℕ) (i j : ℕ) → Beside e (put frame_width e i frame_at.class j)
beside-put e i j = record { long = length-put frame_width e i frame_at.class j; others = λ f h n. put_off frame_width e i frame_at.class j f (omega arith) h n }

pub class-put : (e : List ℕ) (i j : ℕ) → Within frame_width e i → class_of (put frame_width e i frame_at.class j) ≡ upd (class_of e) i j
class-put e i j w = put-at frame_width e i frame_at.class j (omega arith) w.some w.inside

-- ---- the loop of `exchange_rows`, at field `f`
pub record Exchanging (w : ℕ) (t₀ : List ℕ) (i j : ℕ) (t : List ℕ) (f : ℕ) : Type 0 where
  pub long : length t ≡ length t₀
  pub done : (g : ℕ) → g < f → cell w t g ≡ exchanged_at (cell w t₀ g) i j
  pub left : (g : ℕ) → f ≤ g → g < w → cell w t g ≡ cell w t₀ g

module _ (w : ℕ) (t₀ : List ℕ) (i j : ℕ) (t : List ℕ) (f : ℕ) (one : Within w t₀ i) (two : Within w t₀ j) (R : Exchanging w t₀ i j t f) (l : f < w) where
  pub exchanging_one : Cell w t f i
  exchanging_one = record { some = one.some; inside = rw R.long one.inside; field = l }

  pub exchanging_two : Cell w t f j
  exchanging_two = record { some = two.some; inside = rw R.long two.inside; field = l }

  pub exchanging_next : (a b : ℕ) (t₁ t₂ : List ℕ) → a ≡ cell w t f i → b ≡ cell w t f j → t₁ ≡ put w t i f b → t₂ ≡ put w t₁ j f a → Exchanging w t₀ i j t₂ (f + 1)
  exchanging_next a b t₁ t₂ ea eb p q = rw (q, p, ea, eb, add-one) (record {
    long = length-put w (put w t i f (cell w t f j)) j f (cell w t f i) ∙ length-put w t i f (cell w t f j) ∙ R.long;
    done = λ g h. done' g h (ℕ_discrete g f);
    left = λ g h k. off g k (omega arith) ∙ R.left g (omega arith) k;
  })
    where
      off : (g : ℕ) → g < w → g ≢ f → cell w (put w (put w t i f (cell w t f j)) j f (cell w t f i)) g ≡ cell w t g
      off g k n = put_off w (put w t i f (cell w t f j)) j f (cell w t f i) g l k n ∙ put_off w t i f (cell w t f j) g l k n

      at_f : cell w (put w (put w t i f (cell w t f j)) j f (cell w t f i)) f ≡ exchanged_at (cell w t f) i j
      at_f =
          put-at w (put w t i f (cell w t f j)) j f (cell w t f i) l two.some (rw length-put exchanging_two.inside)
          ∙ ap (λ (c : ℕ → ℕ). upd c j (cell w t f i)) (put-at w t i f (cell w t f j) l one.some exchanging_one.inside)

      done' : (g : ℕ) → g < suc f → Dec (g ≡ f) → cell w (put w (put w t i f (cell w t f j)) j f (cell w t f i)) g ≡ exchanged_at (cell w t₀ g) i j
      done' g h (yes e) = rw e (at_f ∙ ap (λ (c : ℕ → ℕ). exchanged_at c i j) (R.left f (omega arith) l))
      done' g h (no e) = off g (omega arith) e ∙ R.done g (omega arith)

-- a slot with itself
pub exchanged_same : (w : ℕ) (t : List ℕ) (i j : ℕ) → j ≡ i → Exchanged w t i j t
exchanged_same w t i j e = record { long = refl; columns = λ f l. rw e (same (cell w t f)) }
  where
    same : (c : ℕ → ℕ) → c ≡ upd (upd c i (c i)) i (c i)
    same c = fun_ext (λ s. go s (ℕ_discrete s i))
      where
        go : (s : ℕ) → Dec (s ≡ i) → c s ≡ upd (upd c i (c i)) i (c i) s
        go s (yes e) = ap c e ∙ sym (upd_at (upd c i (c i)) i (c i) s e)
        go s (no e) = sym (upd_other (upd c i (c i)) i (c i) s e ∙ upd_other c i (c i) s e)

-- where the slots are after it
module _ (w : ℕ) (t : List ℕ) (i j : ℕ) (t' : List ℕ) (X : Exchanged w t i j t') where
  slot_is : (a b : ℕ) → ((c : ℕ → ℕ) → exchanged_at c i j a ≡ c b) → slot_in w t' a ≡ slot_in w t b
  slot_is a b h = λ q. λ f l. (ap (λ (c : ℕ → ℕ). c a) (X.columns f l) ∙ h (cell w t f)) q

  at_one : slot_in w t' i ≡ slot_in w t j
  at_one = slot_is i j (λ c. go c (ℕ_discrete i j))
    where
      go : (c : ℕ → ℕ) → Dec (i ≡ j) → exchanged_at c i j i ≡ c j
      go c (yes e) = upd_at (upd c i (c j)) j (c i) i e ∙ ap c e
      go c (no e) = upd_other (upd c i (c j)) j (c i) i e ∙ upd_same c i (c j)

  at_two : slot_in w t' j ≡ slot_in w t i
  at_two = slot_is j i (λ c. upd_same (upd c i (c j)) j (c i))

  at_other : (b : ℕ) → b ≢ i → b ≢ j → slot_in w t' b ≡ slot_in w t b
  at_other b h k = slot_is b b (λ c. upd_other (upd c i (c j)) j (c i) b k ∙ upd_other c i (c j) b h)

-- ---- the loop of `sort`, at place `i`
pub record Sorts (m : ℕ) (e₀ s₀ e s : List ℕ) (i : ℕ) : Type 0 where
  pub extent : ℕ
  pub sorting : Sorting m extent (λ k. slot_in header_width s₀ (class_of e₀ k)) (class_of e) (slot_in header_width s) i
  pub beside : Beside e₀ e
  pub long : length s ≡ length s₀
  pub wide : extent * header_width ≤ length s
  pub enough : m ≤ extent
  pub past : (t : ℕ) → i ≤ t → class_of e t ≡ class_of e₀ t

pub sorts_start : (m : ℕ) (e s : List ℕ) → Permuting m e s → Sorts m e s e s 1
sorts_start m e s P = record {
  extent = P.extent;
  sorting = record {
    final = λ k a b. absurd (omega arith);
    spot = class_of e;
    trail = λ k a b. here (P.spots k a b).0;
    inside = λ k a b. (P.spots k a b).1;
    holds = λ k a b. refl;
    apart = P.apart;
  };
  beside = beside-refl e;
  long = refl;
  wide = P.wide;
  enough = P.enough;
  past = λ t h. refl;
}

module _ (m : ℕ) (e₀ s₀ e s : List ℕ) (i : ℕ) (P : Permuting m e₀ s₀) (R : Sorts m e₀ s₀ e s i) (low : 1 ≤ i) (l : i ≤ m) where
  pub sorts_entry : Within frame_width e i
  sorts_entry = record { some = low; inside = rw R.beside.long (omega (arith, P.many)) }

  spot_is : (j : ℕ) → Trail (class_of e) i (class_of e i) j → j ≡ R.sorting.spot i
  spot_is j t = trail_one t (R.sorting.trail i (omega arith) l)

  pub sorts_one : Within header_width s i
  sorts_one = record { some = low; inside = omega (arith, R.enough, R.wide) }

  pub sorts_two : (j : ℕ) → Trail (class_of e) i (class_of e i) j → Within header_width s j
  sorts_two j t =
      let h : j ≤ R.extent = rw (spot_is j t) (R.sorting.inside i (omega arith) l) in
      record { some = omega (arith, low, trail-end t); inside = omega (arith, R.wide) }

  -- the class entries after it
  data Entries (e' : List ℕ) (j : ℕ) : Type 0 where
    stay : j ≡ i → e' ≡ e → Entries e' j
    written : j ≢ i → e' ≡ put frame_width e i frame_at.class j → Entries e' j

  entries : (j : ℕ) (e' s' : List ℕ) → Brought e s e' s' i j → Entries e' j
  entries j e' s' W = go (ℕ_discrete j i)
    where
      go : Dec (j ≡ i) → Entries e' j
      go (yes q) = stay q (W.elems ∙ if_eq j i e (put frame_width e i frame_at.class j) q)
      go (no q) = written q (W.elems ∙ if_ne j i e (put frame_width e i frame_at.class j) q)

  entries-other : (j : ℕ) (e' : List ℕ) → Entries e' j → (b : ℕ) → b ≢ i → class_of e' b ≡ class_of e b
  entries-other j e' (stay q w) b h = rw w
  entries-other j e' (written q w) b h = rw (w, class-put e i j sorts_entry) (upd_other (class_of e) i j b h)

  entries-named : (j : ℕ) (e' : List ℕ) → Entries e' j → j ≢ i → class_of e' i ≡ j
  entries-named j e' (stay q w) n = absurd (n q)
  entries-named j e' (written q w) n = rw (w, class-put e i j sorts_entry) (upd_same (class_of e) i j)

  entries-beside : (j : ℕ) (e' : List ℕ) → Entries e' j → Beside e e'
  entries-beside j e' (stay q w) = rw w (beside-refl e)
  entries-beside j e' (written q w) = rw w (beside-put e i j)

  swapped : (j : ℕ) (e' s' : List ℕ) → Brought e s e' s' i j → Swapped (class_of e) (class_of e') (slot_in header_width s) (slot_in header_width s') i j
  swapped j e' s' W =
      let E = entries j e' s' W in
      record {
        low = λ b h. entries-other j e' E b (omega arith);
        high = λ b h. entries-other j e' E b (omega arith);
        named = entries-named j e' E;
        at_i = at_one header_width s i j s' W.shared;
        at_j = at_two header_width s i j s' W.shared;
        off = at_other header_width s i j s' W.shared;
      }

  pub sorts_next : (j : ℕ) (e' s' : List ℕ) → Trail (class_of e) i (class_of e i) j → Brought e s e' s' i j → Sorts m e₀ s₀ e' s' (i + 1)
  sorts_next j e' s' t' W =
      record {
        extent = R.extent;
        sorting = rw add-one (sorting_next R.sorting low l (spot_is j t') (swapped j e' s' W));
        beside = beside_trans R.beside (entries-beside j e' (entries j e' s' W));
        long = W.shared.long ∙ R.long;
        wide = rw W.shared.long R.wide;
        enough = R.enough;
        past = λ t h. entries-other j e' (entries j e' s' W) t (omega arith) ∙ R.past t (omega arith);
      }

pub sorts_done : (m : ℕ) (e₀ s₀ e s : List ℕ) (i : ℕ) → Sorts m e₀ s₀ e s i → i ≡ m + 1 → Permuted m e₀ s₀ e s
sorts_done m e₀ s₀ e s i R h = record { beside = R.beside; long = R.long; brought = λ k a b. R.sorting.final k a (omega arith); past = λ t l. R.past t (omega arith) }
