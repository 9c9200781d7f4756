-- A table wiped whole; of fresh the lengths of tables that fit, and the call's ways.
use Prim.Native.Nat.{ℕ, ◌*◌, ◌≤◌}
use native.Mathlib.Nat.{mul-le-mul_right}
use native.Mathlib.Omega.{arith}
use mathlib.Core.Path.{◌≡◌, ap, ◌∙◌}
use mathlib.Core.Bool.{true, false}
use mathlib.Core.List.{List, [], ◌++◌}
use lib.ListN.{length, take, drop, replicate}
use Rattle.std.proofs.Common.{length-take-le}
use Rattle.rules.specs.declared.Head.{Head}
use Rattle.rules.specs.declared.Refusal.TheVariants.{Shape}
use Rattle.rules.specs.Tables.{blank, frame_width, header_width, State, state_of}
use Rattle.rules.specs.Sound.{both_fit}
use Rattle.rules.specs.Refusals.{Outcome, outcome, refuse, answer}
use Rattle.rules.specs.Slots.{empty_pool, empty, fresh}
use Rattle.rules.specs.Calls.{fresh_step}
use Rattle.rules.proofs.Laws.Soundness.{shaped_of}
use Rattle.rules.proofs.Laws.Past.{wiped_whole, zeros-end}
use Rattle.wipes.specs.Wiped.{ZeroPast}

-- tables that fit are as long as their capacities say, and past these there is nothing
pub fit_past : (elems shared : List ℕ) (frames headers : ℕ) → ((h : Head) → both_fit (state_of h elems shared) frames headers ≡ true)
    → ZeroPast frames frame_width frames elems × ZeroPast headers header_width headers shared
fit_past elems shared frames headers f =
    let h : Head = record { elems = empty_pool frames; shared = empty_pool headers; generation = 1; undo = blank } in
    let s = shaped_of (state_of h elems shared) (f h) in
    let e : length elems ≤ frames * frame_width = omega (arith, s.elems.long) in
    let g : length shared ≤ headers * header_width = omega (arith, s.shared.long) in (
      record { long = s.elems.long; within = omega arith; zeros = zeros-end elems (frames * frame_width) e },
      record { long = s.shared.long; within = omega arith; zeros = zeros-end shared (headers * header_width) g },
    )

-- a table whose used slots are filled with 0 is all zero
pub wiped : (w : ℕ) (t : List ℕ) (capacity used : ℕ) → ZeroPast capacity w used t → (z : List ℕ) → z ≡ replicate (length (take (used * w) t)) 0 → z ++ drop (used * w) t ≡ replicate (capacity * w) 0
wiped w t capacity used p z e =
    let n : length (take (used * w) t) ≡ used * w = length-take-le (used * w) t (rw p.long (mul-le-mul_right w p.within)) in
    ap (λ (y : List ℕ). y ++ drop (used * w) t) (rw n at e) ∙ wiped_whole w t capacity used p.long p.within p.zeros

-- the same of a fill that ends at a number told apart, so that where it ends is a fact of its own
pub wiped_to : (w : ℕ) (t : List ℕ) (capacity used end : ℕ) → end ≡ used * w → ZeroPast capacity w used t → (z : List ℕ) → z ≡ replicate (length (take end t)) 0 → z ++ drop end t ≡ replicate (capacity * w) 0
wiped_to w t capacity used end s p z e = rw s (wiped w t capacity used p z (rw s at e))

-- fresh, by its two ways
module _ (st : State) (frames headers : ℕ) (o : Outcome) where
  pub fresh_1 : both_fit st frames headers ≡ false → o ≡ outcome st [] (refuse Shape) → o ≡ fresh_step st frames headers
  unfolding fresh
  fresh_1 p q = simp p q

  pub fresh-done : both_fit st frames headers ≡ true → o ≡ outcome st [] (answer [] (empty frames headers 1)) → o ≡ fresh_step st frames headers
  unfolding fresh
  fresh-done p q = simp p q
