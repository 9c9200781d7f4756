-- What the swaps ask and leave: class entries say where each run's header is, and swaps bring it to its slot.
use Rattle.std.specs.Prelude.{◌≡◌, ◌≢◌, List, ℕ, ◌*◌, ◌≤◌, ◌<◌, length, if◌then◌else◌, ◌==◌}
use Rattle.rules.specs.Tables.{frame_width, header_width, frame_at, cell, put, class_of}
use Rattle.rules.proofs.Laws.Columns.{upd}
use Rattle.slots.specs.Asked.{Within}

-- Class entries followed from `a`, while below the place `i`, end at `r`; the followed numbers only rise.
pub data Trail (f : ℕ → ℕ) (i : ℕ) : ℕ → ℕ → Type 0 where
  here : {a : ℕ} → i ≤ a → Trail f i a a
  on : {a r : ℕ} → 0 < a → a < i → a < f a → Trail f i (f a) r → Trail f i a r

pub record Followable (e : List ℕ) (place a : ℕ) : Type 0 where
  pub goal : ℕ
  pub trail : Trail (class_of e) place a goal
  pub within : Within frame_width e place

-- a column with `i` and `j` exchanged; and so all columns of a table
abbrev pub exchanged_at : (ℕ → ℕ) → (i j : ℕ) → ℕ → ℕ
exchanged_at c i j = upd (upd c i (c j)) j (c i)

pub record Exchanged (w : ℕ) (t : List ℕ) (i j : ℕ) (t' : List ℕ) : Type 0 where
  pub long : length t' ≡ length t
  pub columns : (f : ℕ) → f < w → cell w t' f ≡ exchanged_at (cell w t f) i j

-- the header at `j` comes to slot `i`, and class entry `i` says where the one that stood there went
pub record Brought (e s e' s' : List ℕ) (i j : ℕ) : Type 0 where
  pub elems : e' ≡ (if j == i then e else put frame_width e i frame_at.class j)
  pub shared : Exchanged header_width s i j s'

-- all but the class entries stay
pub record Beside (e e' : List ℕ) : Type 0 where
  pub long : length e' ≡ length e
  pub others : (f : ℕ) → f < frame_width → f ≢ frame_at.class → cell frame_width e' f ≡ cell frame_width e f

-- a slot as one value
abbrev pub slot_in : (w : ℕ) → List ℕ → (slot : ℕ) → (f : ℕ) → f < w → ℕ
slot_in w t s f l = cell w t f s

-- pass 2 begins: class entry k says where run k's header is, for the m runs
pub record Permuting (m : ℕ) (e s : List ℕ) : Type 0 where
  pub extent : ℕ
  pub many : m * frame_width ≤ length e
  pub wide : extent * header_width ≤ length s
  pub enough : m ≤ extent
  pub spots : (k : ℕ) → 1 ≤ k → k ≤ m → (1 ≤ class_of e k) × (class_of e k ≤ extent)
  pub apart : (k l : ℕ) → 1 ≤ k → k ≤ m → 1 ≤ l → l ≤ m → class_of e k ≡ class_of e l → k ≡ l

-- and ends: slot k holds what it named
pub record Permuted (m : ℕ) (e s e' s' : List ℕ) : Type 0 where
  pub beside : Beside e e'
  pub long : length s' ≡ length s
  pub brought : (k : ℕ) → 1 ≤ k → k ≤ m → slot_in header_width s' k ≡ slot_in header_width s (class_of e k)
  pub past : (t : ℕ) → m < t → class_of e' t ≡ class_of e t
