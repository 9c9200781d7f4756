-- What the shared side asks and leaves: class entries come to say where each run's header is, the headers change places, and the counts give the class entries again.
use Rattle.std.specs.Prelude.{◌≡◌, List, ℕ, zero, suc, ◌+◌, ◌*◌, ◌≤◌, ◌<◌, length, get_or}
use Rattle.rules.specs.Tables.{frame_width, header_width, class_of, count_of}
use Rattle.slots.specs.Asked.{Within}
use Rattle.swaps.specs.Swaps.{Beside, slot_in}

-- where run `suc k` begins, if run `suc k` has `size k` frames
unfoldable pub start : (ℕ → ℕ) → ℕ → ℕ
start size zero = 1
start size (suc k) = start size k + size k

-- the same read from the class entries and the counts: the size of a run is the count of the class of its first frame
unfoldable pub begins : (elems shared : List ℕ) → ℕ → ℕ
begins e s zero = 1
begins e s (suc k) = begins e s k + count_of s (class_of e (begins e s k))

-- the header of run `suc k`
abbrev pub named : (elems shared : List ℕ) → ℕ → ℕ
named e s k = class_of e (begins e s k)

-- pass 1 begins: m runs in blocks, with their own class entries
pub record Blocks (m : ℕ) (e s : List ℕ) : Type 0 where
  pub many : m * frame_width ≤ length e
  pub ahead : (k : ℕ) → k < m → k < begins e s k
  pub inside : (k : ℕ) → k < m → begins e s k * frame_width ≤ length e
  pub header : (k : ℕ) → k < m → Within header_width s (named e s k)
  pub ends : (k : ℕ) → k ≤ m → begins e s k * frame_width ≤ length e + frame_width

-- and ends: entry k names run k's header
pub record Noted (m : ℕ) (e s e' : List ℕ) : Type 0 where
  pub beside : Beside e e'
  pub noted : (k : ℕ) → k < m → class_of e' (suc k) ≡ named e s k
  pub past : (t : ℕ) → m < t → class_of e' t ≡ class_of e t

-- the class entries of `n` slots from `a` become `c`
pub record Filled (e : List ℕ) (a n c : ℕ) (e' : List ℕ) : Type 0 where
  pub beside : Beside e e'
  pub hit : (t : ℕ) → a ≤ t → t < a + n → class_of e' t ≡ c
  pub below : (t : ℕ) → t < a → class_of e' t ≡ class_of e t
  pub past : (t : ℕ) → a + n ≤ t → class_of e' t ≡ class_of e t

-- where the counts of the slots put the blocks
abbrev pub counted : List ℕ → ℕ → ℕ
counted s = start (λ j. count_of s (suc j))

-- pass 3 begins: the counts of the slots 1 to m are the sizes of the blocks
pub record Counted (m : ℕ) (e s : List ℕ) : Type 0 where
  pub many : m * header_width ≤ length s
  pub ends : (k : ℕ) → k ≤ m → counted s k * frame_width ≤ length e + frame_width

-- and ends: the frames of block k have class k
pub record Recovered (m : ℕ) (e s e' : List ℕ) : Type 0 where
  pub beside : Beside e e'
  pub hit : (k : ℕ) → k < m → (t : ℕ) → counted s k ≤ t → t < counted s (suc k) → class_of e' t ≡ suc k
  pub past : (t : ℕ) → counted s m ≤ t → class_of e' t ≡ class_of e t

-- the shared side as a whole: headers that differ, of m runs in blocks
pub record Placeable (m : ℕ) (e s : List ℕ) : Type 0 where
  pub extent : ℕ
  pub blocks : Blocks m e s
  pub wide : extent * header_width ≤ length s
  pub enough : m ≤ extent
  pub spots : (k : ℕ) → k < m → named e s k ≤ extent
  pub apart : (k l : ℕ) → k < m → l < m → named e s k ≡ named e s l → k ≡ l
  pub past : m < begins e s m

pub record Placed (m : ℕ) (e s e' s' : List ℕ) : Type 0 where
  pub beside : Beside e e'
  pub class : (k : ℕ) → k < m → (t : ℕ) → begins e s k ≤ t → t < begins e s (suc k) → class_of e' t ≡ suc k
  pub past : (t : ℕ) → begins e s m ≤ t → class_of e' t ≡ class_of e t
  pub long : length s' ≡ length s
  pub headers : (k : ℕ) → k < m → slot_in header_width s' (suc k) ≡ slot_in header_width s (named e s k)
  pub zeros : (j : ℕ) → m * header_width ≤ j → get_or s' j 0 ≡ 0
