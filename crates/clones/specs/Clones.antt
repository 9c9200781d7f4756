-- What a copy of a table asks and leaves.
use Rattle.std.specs.Prelude.{◌≡◌, ◌≢◌, List, ℕ, ◌*◌, ◌≤◌, ◌<◌, length}
use Rattle.rules.specs.declared.Pool.{Pool}
use Rattle.clones.specs.declared.Layout.{Layout}
use Rattle.rules.specs.Tables.{most_slots, cell, Side, field_of}
use Rattle.rules.specs.Copy.{last_live}
use Rattle.rules.proofs.Laws.Pools.{Pooled}

abbrev pub side_of : Pool → (table : List ℕ) → Layout → Side
side_of pool table layout = record { pool = pool; table = table; width = layout.width; used = layout.used; link = layout.link }

-- the same with another field that links the free slots
abbrev pub linked : Layout → (link : ℕ) → Layout
linked layout link = record { width = layout.width; used = layout.used; link = link }

pub record Scannable (t : Side) : Type 0 where
  pub inside : t.pool.extent * t.width ≤ length t.table
  pub reads : t.used < t.width

-- the fields of the slot `b` are those of `s` in the other table
pub record Rowed (w : ℕ) (t : List ℕ) (b : ℕ) (from : List ℕ) (s : ℕ) (t' : List ℕ) : Type 0 where
  pub long : length t' ≡ length t
  pub there : (f : ℕ) → f < w → cell w t' f b ≡ cell w from f s
  pub still : (f u : ℕ) → f < w → u ≢ b → cell w t' f u ≡ cell w t f u

-- the fields of the slot `b` are 0
pub record Cleared (w : ℕ) (t : List ℕ) (b : ℕ) (t' : List ℕ) : Type 0 where
  pub long : length t' ≡ length t
  pub none : (f : ℕ) → f < w → cell w t' f b ≡ 0
  pub still : (f u : ℕ) → f < w → u ≢ b → cell w t' f u ≡ cell w t f u

-- one slot, with `root` the lowest free slot above it
pub data CloneOne (w : ℕ) (t from : List ℕ) (used link s root : ℕ) (t' : List ℕ) (r : ℕ) : Type 0 where
  free : cell w from used s ≡ 0 → length t' ≡ length t → cell w t' link s ≡ root → ((f : ℕ) → f < w → f ≢ link → cell w t' f s ≡ 0) → ((f u : ℕ) → f < w → u ≢ s → cell w t' f u ≡ cell w t f u) → r ≡ s
      → CloneOne w t from used link s root t' r
  live : cell w from used s ≢ 0 → Rowed w t s from s t' → r ≡ root → CloneOne w t from used link s root t' r

-- a sound table, and one with room up to its last live slot
pub record Clonable (capacity : ℕ) (to : List ℕ) (t : Side) (last : ℕ) : Type 0 where
  pub pooled : Pooled t.pool (field_of t t.used) (field_of t t.link)
  pub inside : t.pool.extent * t.width ≤ length t.table
  pub reads : t.used < t.width
  pub links : t.link < t.width
  pub narrow : t.width ≤ most_slots
  pub is : last ≡ last_live t
  pub room : last ≤ capacity
  pub small : capacity ≤ most_slots
  pub long : length to ≡ capacity * t.width
