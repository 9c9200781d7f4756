-- Tables and head: slots and their fields, the state, and when a slot or a key is live.
use Rattle.std.specs.Prelude.{ℕ, zero, suc, ◌+◌, ◌*◌, ◌≡◌, Bool, ◌&&◌, ◌||◌, not, List, get_or, set, if◌then◌else◌, ◌==◌}
use Rattle.std.proofs.lemmas.List.Edits.{sets}
use Rattle.rules.specs.declared.Pool.{Pool}
use Rattle.rules.specs.declared.Head.{Head}
use Rattle.rules.specs.declared.Memory.{Memory}
use Rattle.rules.specs.declared.Key.{Key}
use Rattle.rules.specs.declared.Cause.{Cause}
use Rattle.rules.specs.declared.Cause.TheVariants.{NoSlot, FreeSlot, OtherGeneration}
use Rattle.std.specs.Prelude.{Result, Ok, Err}
use Rattle.rules.specs.Notation.{◌≤?◌, ◌<?◌}

-- Tables: the highest capacity; Tables 3: the last generation
abbrev pub most_slots : ℕ
most_slots = 65536

abbrev pub last_generation : ℕ
last_generation = 4294967295

-- Ticket 6: the greatest size of a frame, in bytes; and what is kept of a size that is given, which in C is never past it
abbrev pub most_bytes : ℕ
most_bytes = 4294967295

-- a total stays below this
abbrev pub total_bound : ℕ
total_bound = 281474976710656

unfoldable pub sized : ℕ → ℕ
sized z = if z ≤? most_bytes then z else most_bytes

-- Tables: a table is a list of numbers, as many to a slot as its width says. Slots are numbered from 1; slot 0, which means none, holds nothing.
unfoldable pub cell : (width : ℕ) → List ℕ → (field slot : ℕ) → ℕ
cell w t f zero = 0
cell w t f (suc s) = get_or t (s * w + f) 0

unfoldable pub put : (width : ℕ) → List ℕ → (slot field value : ℕ) → List ℕ
put w t zero f v = t
put w t (suc s) f v = set t (s * w + f) v

-- all fields of a slot are written at once
unfoldable pub row : (width : ℕ) → List ℕ → (slot : ℕ) → (fields : List ℕ) → List ℕ
row w t zero vs = t
row w t (suc s) vs = sets t (s * w) vs

-- Tables 1 and Ticket 6: an element slot's fields, in this order (docs/LAYOUT.md)
abbrev pub frame_width : ℕ
frame_width = 6

abbrev pub frame_at : record { generation : ℕ; payload : ℕ; class : ℕ; previous : ℕ; next : ℕ; size : ℕ }
frame_at = record { generation = 0; payload = 1; class = 2; previous = 3; next = 4; size = 5 }

abbrev pub generation_of : List ℕ → (slot : ℕ) → ℕ
generation_of e = cell frame_width e frame_at.generation

abbrev pub payload_of : List ℕ → (slot : ℕ) → ℕ
payload_of e = cell frame_width e frame_at.payload

abbrev pub class_of : List ℕ → (slot : ℕ) → ℕ
class_of e = cell frame_width e frame_at.class

abbrev pub previous_of : List ℕ → (slot : ℕ) → ℕ
previous_of e = cell frame_width e frame_at.previous

abbrev pub next_of : List ℕ → (slot : ℕ) → ℕ
next_of e = cell frame_width e frame_at.next

abbrev pub bytes_of : List ℕ → (slot : ℕ) → ℕ
bytes_of e = cell frame_width e frame_at.size

-- Tables 2 and Tickets 1 and 6: a shared slot's fields, in this order (docs/LAYOUT.md)
abbrev pub header_width : ℕ
header_width = 5

abbrev pub header_at : record { count : ℕ; value : ℕ; next_free : ℕ; mark : ℕ; total : ℕ }
header_at = record { count = 0; value = 1; next_free = 2; mark = 3; total = 4 }

abbrev pub count_of : List ℕ → (class : ℕ) → ℕ
count_of s = cell header_width s header_at.count

abbrev pub value_of : List ℕ → (class : ℕ) → ℕ
value_of s = cell header_width s header_at.value

abbrev pub next_free_of : List ℕ → (class : ℕ) → ℕ
next_free_of s = cell header_width s header_at.next_free

abbrev pub mark_of : List ℕ → (class : ℕ) → ℕ
mark_of s = cell header_width s header_at.mark

abbrev pub total_of : List ℕ → (class : ℕ) → ℕ
total_of s = cell header_width s header_at.total

-- Tables 3: the head, with both tables
pub record State : Type 0 where
  pub head : Head
  pub elems : List ℕ
  pub shared : List ℕ

abbrev pub state_of : Head → (elems shared : List ℕ) → State
state_of head elems shared = record { head = head; elems = elems; shared = shared }

-- Ticket 7: what the head remembers when there is nothing to undo
abbrev pub blank : Memory
blank = record { kept = 0; gone = 0; moved = 0; value = 0 }

-- the state with another table, and the head with other pools or another generation, which has nothing to undo
abbrev pub with_elems : State → List ℕ → State
with_elems st elems = record { head = st.head; elems = elems; shared = st.shared }

abbrev pub with_shared : State → List ℕ → State
with_shared st shared = record { head = st.head; elems = st.elems; shared = shared }

abbrev pub with_pools : Head → (elems shared : Pool) → Head
with_pools h elems shared = record { elems = elems; shared = shared; generation = h.generation; undo = blank }

abbrev pub with_generation : Head → ℕ → Head
with_generation h g = record { elems = h.elems; shared = h.shared; generation = g; undo = blank }

-- Ticket 7: the head and the state that remember `m`, and the state that has nothing to undo
abbrev pub remembering : Head → Memory → Head
remembering h m = record { elems = h.elems; shared = h.shared; generation = h.generation; undo = m }

abbrev pub with_undo : State → Memory → State
with_undo st m = record { head = remembering st.head m; elems = st.elems; shared = st.shared }

abbrev pub forgetting : State → State
forgetting st = with_undo st blank

-- Tables 1 and 2: what both tables have alike. The field `used` is 0 when a slot is free, and the field `link` then holds the next free slot.
pub record Side : Type 0 where
  pub pool : Pool
  pub table : List ℕ
  pub width : ℕ
  pub used : ℕ
  pub link : ℕ

abbrev pub elem_side : State → Side
elem_side st = record { pool = st.head.elems; table = st.elems; width = frame_width; used = frame_at.generation; link = frame_at.next }

abbrev pub shared_side : State → Side
shared_side st = record { pool = st.head.shared; table = st.shared; width = header_width; used = header_at.count; link = header_at.next_free }

abbrev pub field_of : Side → (field slot : ℕ) → ℕ
field_of t = cell t.width t.table

-- a free slot, and a live one: 1 to the extent, and so by its field `used`
unfoldable pub is_free : Side → (slot : ℕ) → Bool
is_free t s = (1 ≤? s) && (s ≤? t.pool.extent) && (field_of t t.used s == 0)

unfoldable pub is_live : Side → (slot : ℕ) → Bool
is_live t s = (1 ≤? s) && (s ≤? t.pool.extent) && not (field_of t t.used s == 0)

-- Ticket 5: why a key that is not live is dead, tested in this order
unfoldable pub cause : State → Key → Cause
cause st k =
    if (k.slot == 0) || (st.head.elems.extent <? k.slot) then NoSlot else
    if is_free (elem_side st) k.slot then FreeSlot else
    OtherGeneration

-- Tables 4: a key is looked up, and is live if it is found
unfoldable pub found : State → Key → Result ℕ Cause
found st k =
    if is_live (elem_side st) k.slot && (generation_of st.elems k.slot == k.generation)
    then Ok k.slot
    else Err (cause st k)

abbrev pub LiveKey : State → Key → Type 0
LiveKey st k = found st k ≡ Ok k.slot

-- the key of the frame in a slot
abbrev pub key_at : State → (slot : ℕ) → Key
key_at st s = record { slot = s; generation = generation_of st.elems s }

-- the number of frames in the class of the frame in a slot
abbrev pub size_at : State → (slot : ℕ) → ℕ
size_at st s = count_of st.shared (class_of st.elems s)

-- Ticket 1: the run of the frame in a slot is sealed
abbrev pub is_sealed : State → (slot : ℕ) → Bool
is_sealed st s = mark_of st.shared (class_of st.elems s) == 1
