-- Ticket 4: a restored table that had room and refused, and the same with its free slots chained; and when no slot is free.
use Prim.Native.Nat.{ℕ, zero, suc, ◌-◌, ◌≤◌, ◌<◌}
use native.Mathlib.Omega.{arith}
use mathlib.Core.Path.{◌≡◌, refl, sym, ap, subst, ◌∙◌}
use mathlib.Core.Logic.{inl, inr}
use mathlib.Core.Bool.{true, false}
use mathlib.Core.List.{List, [], ◌∷◌, ◌++◌, map}
use lib.Dec.{T, lit≤, lit<}
use Rattle.rules.specs.Tables.{frame_width, header_width, class_of, count_of, State, Side, field_of, elem_side, shared_side, cell, is_free, is_live}
use Rattle.rules.specs.Sound.{Chain, chain_at, Sound, Frame, Header, OneRing, RingSize}
use Rattle.rules.specs.Calls.{new_run, insert, step, AtDoor}
use Rattle.rules.specs.Exact.{NoneFree}
use Rattle.rules.proofs.Cases.{rules, Case, ◌gives◌, did, says, key, ok, refused, pool, at, e, s, zeros}
use Rattle.rules.proofs.Worked.{four}
use Rattle.rules.proofs.Sounds.{live_range, free_range}
use Rattle.rules.proofs.Unsound.{root-zero}

-- a run of one in slot 2, shared slot 2; slot 1 of each table is free, and the roots are as given
abbrev pub saved : (capacity root shared_root : ℕ) → State
saved capacity root shared_root =
    at (pool capacity 2 root 1) (pool capacity 2 shared_root 1) 2
    (e 0 0 0 0 0 ++ e 1 20 2 2 2 ++ zeros frame_width (capacity - 2))
    (s 0 0 0 ++ s 1 200 0 ++ zeros header_width (capacity - 2))

abbrev pub chained : State
chained = saved 2 1 1

-- a second frame of the run, and a second run, in the slots that were free
abbrev inserted : State
inserted = at (pool 2 2 0 2) (pool 2 2 1 1) 2 (e 2 40 2 2 2 ++ e 1 20 2 1 1) (s 0 0 0 ++ s 2 200 0)

abbrev begun : State
begun = at (pool 2 2 0 2) (pool 2 2 0 2) 2 (e 2 40 1 1 1 ++ e 1 20 2 2 2) (s 1 400 0 ++ s 1 200 0)

-- and a run past the extents
abbrev past : State
past = at (pool 3 3 0 2) (pool 3 3 0 2) 2 (e 0 0 0 0 0 ++ e 1 20 2 2 2 ++ e 2 40 3 3 3) (s 0 0 0 ++ s 1 200 0 ++ s 1 400 0)

abbrev table : List Case
table =
    -- chained, the slot is given
    step chained [] (insert (key 2 1) 40 0) gives ok (1 ∷ 2 ∷ []) inserted [] ∷
    step chained [] (new_run 40 400 0) gives ok (1 ∷ 2 ∷ []) begun [] ∷
    -- what was complained of: the rules go by root and extent, so past the check such a state had room and refused, or took past its extents
    step (saved 2 0 0) [] (insert (key 2 1) 40 0) gives refused 5 (saved 2 0 0) [] ∷
    step (saved 2 0 0) [] (new_run 40 400 0) gives refused 6 (saved 2 0 0) [] ∷
    step (saved 3 0 0) [] (new_run 40 400 0) gives ok (3 ∷ 2 ∷ []) past [] ∷
    []

pub restored : map did table ≡ map says table
unfolding rules
restored = refl

-- ---- the state is sound exactly where both roots are 1

pub unsound : Sound (saved 2 0 1) → ⊥
unfolding cell is_free
unsound S = root-zero _ 1 (lit≤ tt) refl tt S.chains.0

pub shared_unsound : Sound (saved 2 1 0) → ⊥
unfolding cell is_free
shared_unsound S = root-zero _ 1 (lit≤ tt) refl tt S.chains.1

-- slots 1 and 2
one_or_two : (P : ℕ → Type 0) → P 1 → P 2 → (n : ℕ) → 1 ≤ n → n ≤ 2 → P n
one_or_two P a b zero lo hi = absurd (omega arith)
one_or_two P a b (suc zero) lo hi = a
one_or_two P a b (suc (suc zero)) lo hi = b
one_or_two P a b (suc (suc (suc n))) lo hi = absurd (omega arith)

frame_2 : (P : ℕ → Type 0) → P 2 → (n : ℕ) → Frame chained n → P n
unfolding cell is_live
frame_2 P b n f = let r = live_range (elem_side chained) n f in one_or_two (λ m. Frame chained m → P m) (λ h. absurd h) (λ _. b) n r.0 r.1 f

header_2 : (P : ℕ → Type 0) → P 2 → (n : ℕ) → Header chained n → P n
unfolding cell is_live
header_2 P b n f = let r = live_range (shared_side chained) n f in one_or_two (λ m. Header chained m → P m) (λ h. absurd h) (λ _. b) n r.0 r.1 f

free_1 : (P : ℕ → Type 0) → P 1 → (n : ℕ) → T (is_free (elem_side chained) n) → P n
unfolding cell is_free
free_1 P a n f = let r = free_range (elem_side chained) n f in one_or_two (λ m. T (is_free (elem_side chained) m) → P m) (λ _. a) (λ h. absurd h) n r.0 r.1 f

shared_free_1 : (P : ℕ → Type 0) → P 1 → (n : ℕ) → T (is_free (shared_side chained) n) → P n
unfolding cell is_free
shared_free_1 P a n f = let r = free_range (shared_side chained) n f in one_or_two (λ m. T (is_free (shared_side chained) m) → P m) (λ _. a) (λ h. absurd h) n r.0 r.1 f

-- a free row
zero-frame : (f : ℕ) → f < frame_width → field_of (elem_side chained) f 1 ≡ 0
unfolding cell
zero-frame zero l = refl
zero-frame (suc zero) l = refl
zero-frame (suc (suc zero)) l = refl
zero-frame (suc (suc (suc zero))) l = refl
zero-frame (suc (suc (suc (suc zero)))) l = refl
zero-frame (suc (suc (suc (suc (suc zero))))) l = refl
zero-frame (suc (suc (suc (suc (suc (suc f)))))) l = absurd (omega arith)

zero-header : (f : ℕ) → f < header_width → field_of (shared_side chained) f 1 ≡ 0
unfolding cell
zero-header zero l = refl
zero-header (suc zero) l = refl
zero-header (suc (suc zero)) l = refl
zero-header (suc (suc (suc zero))) l = refl
zero-header (suc (suc (suc (suc zero)))) l = refl
zero-header (suc (suc (suc (suc (suc f))))) l = absurd (omega arith)

-- a chain of the slot 1 alone
chain_of_1 : (t : Side) → t.pool.root ≡ 1 → T (is_free t 1) → field_of t t.link 1 ≡ 0 → ((P : ℕ → Type 0) → P 1 → (n : ℕ) → T (is_free t n) → P n) → Chain t
chain_of_1 t r f z only = record {
  size = 1;
  free = λ k l. first k l;
  once = λ j k l m. absurd (omega arith);
  ends = ap (field_of t t.link) r ∙ z;
  meets = only (λ n. (k : ℕ) × (k < 1) × (chain_at t k ≡ n)) (0, lit< tt, r);
}
  where
    first : (k : ℕ) → k < 1 → T (is_free t (chain_at t k))
    first zero l = subst (λ (x : ℕ). T (is_free t x)) (sym r) f
    first (suc k) l = absurd (omega arith)

pub chained_sound : Sound chained
unfolding cell is_live is_free
chained_sound = record {
  generation = (lit≤ tt, lit≤ tt);
  extents = (lit≤ tt, lit≤ tt);
  lives = (refl, refl);
  generations = frame_2 _ (lit≤ tt, lit≤ tt);
  chains = (chain_of_1 (elem_side chained) refl tt refl free_1, chain_of_1 (shared_side chained) refl tt refl shared_free_1);
  zeros = record {
    free = (
      (λ n f h l d. free_1 (λ n. field_of (elem_side chained) f n ≡ 0) (zero-frame f l) n h),
      (λ n f h l d. shared_free_1 (λ n. field_of (shared_side chained) f n ≡ 0) (zero-header f l) n h),
    );
    shared = header_2 _ refl;
    past = ((λ n f lo hi. absurd (omega arith)), (λ n f lo hi. absurd (omega arith)));
  };
  links = frame_2 _ (record { next = tt; previous = tt; back = refl; forth = refl });
  classes = frame_2 _ tt;
  one_class = λ x y f g _. frame_2 (λ x. class_of chained.elems x ≡ class_of chained.elems y) (frame_2 (λ y. 2 ≡ class_of chained.elems y) refl y g) x f;
  own_class = λ x y f g _. frame_2 (λ x. OneRing chained x y) (frame_2 (OneRing chained 2) (0, refl) y g) x f;
  marks = header_2 _ (lit≤ tt);
  sizes = frame_2 _ (lit≤ tt);
  totals = frame_2 _ refl;
  rings = header_2 (λ c. (n : ℕ) × Frame chained n × (class_of chained.elems n ≡ c) × RingSize chained n (count_of chained.shared c)) (
    2,
    tt,
    refl,
    record { some = lit≤ tt; back = refl; before = λ k lo hi. absurd (omega arith) },
  );
}

-- ---- at the host's door

pub insert-refused : AtDoor (saved 2 0 1) [] (insert (key 2 1) 40 0) (refused 2 (saved 2 0 1) [])
unfolding rules
insert-refused = record { sound = false; decided = λ _ w. unsound w.0; same = refl }

pub new_run-refused : AtDoor (saved 2 1 0) [] (new_run 40 400 0) (refused 2 (saved 2 1 0) [])
unfolding rules
new_run-refused = record { sound = false; decided = λ _ w. shared_unsound w.0; same = refl }

pub insert-given : AtDoor chained [] (insert (key 2 1) 40 0) (ok (1 ∷ 2 ∷ []) inserted [])
unfolding rules
insert-given = record { sound = true; decided = λ _. (chained_sound, inl refl); same = refl }

-- ---- no slot is free: of four frames in four slots, but not of two headers in three, nor where a slot within the extent is free

pub none_free : NoneFree (elem_side four)
unfolding cell is_free
none_free zero (inl f) = f
none_free (suc zero) (inl f) = f
none_free (suc (suc zero)) (inl f) = f
none_free (suc (suc (suc zero))) (inl f) = f
none_free (suc (suc (suc (suc zero)))) (inl f) = f
none_free (suc (suc (suc (suc (suc n))))) (inl f) = let r = free_range (elem_side four) (suc (suc (suc (suc (suc n))))) f in omega (arith, r.1)
none_free n (inr l) = omega (arith, l.0, l.1)

pub one_free : NoneFree (elem_side chained) → ⊥
unfolding cell is_free
one_free n = n 1 (inl tt)

pub free-past : NoneFree (shared_side four) → ⊥
free-past n = n 3 (inr (lit< tt, lit≤ tt))
