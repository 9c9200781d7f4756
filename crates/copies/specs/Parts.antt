-- What copying or zeroing a part asks and leaves.
use Rattle.std.specs.Prelude.{◌≡◌, ◌≢◌, ◌⊎◌, List, ℕ, suc, ◌+◌, ◌*◌, ◌≤◌, ◌<◌, length, get_or}
use Rattle.rules.specs.Notation.{steps}
use Rattle.rules.specs.Tables.{most_slots, frame_width, frame_at, cell, generation_of, payload_of, class_of, next_of, bytes_of}
use Rattle.rules.specs.Runs.{frame}
use Rattle.rules.specs.ReadFile.{before_in, after_in}
use Rattle.slots.specs.Asked.{Within}

-- a slot holds these fields
abbrev pub Holds : (width : ℕ) → List ℕ → (slot : ℕ) → (fields : List ℕ) → Type 0
Holds w t s vs = (f : ℕ) → f < w → cell w t f s ≡ get_or vs f 0

-- `n` slots along next from `x` stand in the table, and there is room for them past the `a`-th scratch row
pub record Copiable (e sc : List ℕ) (x a n : ℕ) : Type 0 where
  pub slots : (i : ℕ) → i < n → Within frame_width e (steps (next_of e) i x)
  pub room : (a + n) * frame_width ≤ length sc
  pub small : a + n ≤ most_slots

-- the frame `i` steps along next from `x`, in a block of `size` past the `a`-th row, with its own class
abbrev pub copied_frame : List ℕ → (x a size g i : ℕ) → List ℕ
copied_frame e x a size g i = let s = steps (next_of e) i x in frame g (payload_of e s) (class_of e s) (before_in a size i) (after_in a size i) (bytes_of e s)

-- `n` frames of the ring stand in the scratch, and their generations are zeroed where they stood
pub record Copied (e sc : List ℕ) (x a n size g : ℕ) (e' sc' : List ℕ) : Type 0 where
  pub long : length e' ≡ length e
  pub others : (f : ℕ) → f < frame_width → f ≢ frame_at.generation → cell frame_width e' f ≡ cell frame_width e f
  pub hit : (i : ℕ) → i < n → generation_of e' (steps (next_of e) i x) ≡ 0
  pub miss : (s : ℕ) → ((i : ℕ) → i < n → s ≢ steps (next_of e) i x) → generation_of e' s ≡ generation_of e s
  pub frames : (i : ℕ) → i < n → Holds frame_width sc' (suc (a + i)) (copied_frame e x a size g i)
  pub still : (f s : ℕ) → f < frame_width → (s ≤ a) ⊎ (a + n < s) → cell frame_width sc' f s ≡ cell frame_width sc f s
  pub wide : length sc' ≡ length sc

-- the first `n` numbers are those of `s`
pub record Pasted (t s : List ℕ) (n : ℕ) (t' : List ℕ) : Type 0 where
  pub long : length t' ≡ length t
  pub below : (j : ℕ) → j < n → get_or t' j 0 ≡ get_or s j 0
  pub past : (j : ℕ) → n ≤ j → get_or t' j 0 ≡ get_or t j 0

-- the numbers from `a` to before `b` are 0
pub record Zeroed (t : List ℕ) (a b : ℕ) (t' : List ℕ) : Type 0 where
  pub long : length t' ≡ length t
  pub within : (j : ℕ) → a ≤ j → j < b → get_or t' j 0 ≡ 0
  pub below : (j : ℕ) → j < a → get_or t' j 0 ≡ get_or t j 0
  pub past : (j : ℕ) → b ≤ j → get_or t' j 0 ≡ get_or t j 0
