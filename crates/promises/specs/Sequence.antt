-- Demand 3 for what a host calls: any sequence of C entries over one lent head and its two tables.
use Rattle.std.specs.Prelude.{ℕ, ◌≢◌, false, List, []}
use Rattle.rules.specs.declared.Key.{Key}
use Rattle.rules.specs.Tables.{State, state_of}
use Rattle.rules.specs.Refusals.{Said}
use Rattle.rules.specs.Calls.{Call, len_surject, in_same_surject, get_element, get_shared, get_size, get_total, lookup, set_element, set_shared, check, new_run, insert, union, remove, remove_shared, list, drain, seal, drain_all, clear, undo, exchange, compress, compress_with, write_file}
use Rattle.rules.specs.Bytes.{Bytes}
use Rattle.rules.specs.ReadFile.{runs_of}
use Rattle.rules.specs.History.{History, noted, noted_fresh, nothing, begun_with, read_into, noted_read, moved_into, noted_to, noted_from}
use Rattle.rules.specs.Demand.{Agrees, Union}
use Rattle.numbers.specs.Numbers.{head_of, values, values_over, removal_numbers}
use Rattle.promises.specs.Host.{Left, left, AtHost, AtFresh, AtRead}
use Rattle.promises.specs.InPlace.{left_at, AtHead}
use Rattle.promises.specs.Two.{left_two, AtHostCopy, AtHostMove}

-- the numbers that the entry of a call writes to `out`
abbrev pub numbers_of : Call → Said → List ℕ
numbers_of (remove k) = removal_numbers
numbers_of (remove_shared k) = values_over
numbers_of clear = values_over
numbers_of (compress reset) = values_over
numbers_of (compress_with reset) = values_over
numbers_of (new_run payload value size) = values
numbers_of (insert k payload size) = values
numbers_of (union j k) = values
numbers_of undo = values
numbers_of (drain k) = values
numbers_of (seal k) = values
numbers_of drain_all = values
numbers_of (list k) = values
numbers_of (len_surject k) = values
numbers_of (in_same_surject j k) = values
numbers_of (get_element k) = values
numbers_of (get_shared k) = values
numbers_of (get_size k) = values
numbers_of (get_total k) = values
numbers_of (lookup k) = values
numbers_of (set_element k payload) = values
numbers_of (set_shared k value) = values
numbers_of (exchange keys news) = values
numbers_of check = values
numbers_of write_file = values

-- what a host is told: an entry's result, and the numbers in `out`
abbrev pub heard : (number : ℕ) → (out : List ℕ) → Said
heard number out = record { number = number; values = out; over = false }

-- the state that a lent head and tables are
abbrev pub lent_state : (head elems shared : List ℕ) → State
lent_state head elems shared = state_of (head_of head) elems shared

-- Start from tables that fresh or the reader accepts, whatever they held, and hand head and tables on unaltered from entry to entry, refused ones included.
-- The history is noted from the calls and what the host is told, and from nothing else. A head lent in place is the one that its thirteen numbers are.
pub data AfterEntries : (head elems shared : List ℕ) → History → Type 0 where
  begun : (elem_capacity shared_capacity : ℕ) (head elems shared head' elems' shared' : List ℕ)
      → AtFresh elem_capacity shared_capacity head elems shared (left 0 head' elems' shared' [] [])
      → AfterEntries head' elems' shared' nothing
  freshened : {head elems shared : List ℕ} {h : History} → AfterEntries head elems shared h
      → (elem_capacity shared_capacity r : ℕ) (head' elems' shared' : List ℕ)
      → AtFresh elem_capacity shared_capacity head elems shared (left r head' elems' shared' [] [])
      → AfterEntries head' elems' shared' (noted_fresh h (heard r []))
  called : {head elems shared : List ℕ} {h : History} → AfterEntries head elems shared h
      → (c : Call) (lent out : List ℕ) (r : ℕ) (head' elems' shared' lent' out' : List ℕ)
      → AtHost c (numbers_of c) head elems shared lent out (left r head' elems' shared' lent' out')
      → AfterEntries head' elems' shared' (noted h c (heard r out'))
  called_in_place : {head elems shared : List ℕ} {h : History} → AfterEntries head elems shared h
      → (c : Call) (out : List ℕ) (r : ℕ) (head' elems' shared' out' : List ℕ)
      → AtHead c (numbers_of c) (head_of head) elems shared out (left_at r (head_of head') elems' shared' out')
      → AfterEntries head' elems' shared' (noted h c (heard r out'))
  -- Ticket 11: a file, which is a list of bytes, is read into such a head and tables, or to begin with into any that fit
  begun_read : (file : List ℕ) → Bytes file → (head elems shared head' elems' shared' : List ℕ)
      → AtRead file head elems shared (left 0 head' elems' shared' [] [])
      → AfterEntries head' elems' shared' (read_into nothing (runs_of file))
  read_in : {head elems shared : List ℕ} {h : History} → AfterEntries head elems shared h
      → (file : List ℕ) → Bytes file → (r : ℕ) (head' elems' shared' : List ℕ)
      → AtRead file head elems shared (left r head' elems' shared' [] [])
      → AfterEntries head' elems' shared' (noted_read h (runs_of file) (heard r []))
  -- Ticket 10: a copy that answers 0 from such a head and tables, to a head and tables that may hold anything
  copied : {head elems shared : List ℕ} {h : History} → AfterEntries head elems shared h
      → (to_head to_elems to_shared head' elems' shared' : List ℕ)
      → AtHostCopy to_head to_elems to_shared head elems shared (left_two 0 head' elems' shared' head elems shared [])
      → AfterEntries head' elems' shared' (begun_with h)
  -- Ticket 12: a move from such a head and tables: to any, when it answers 0; to such, whatever it answers; and what it is for the source
  begun_moved : {head elems shared : List ℕ} {h : History} → AfterEntries head elems shared h
      → (g : ℕ) (to_head to_elems to_shared out head' elems' shared' from_head from_elems from_shared out' : List ℕ)
      → AtHostMove g to_head to_elems to_shared head elems shared out (left_two 0 head' elems' shared' from_head from_elems from_shared out')
      → AfterEntries head' elems' shared' (moved_into nothing h g)
  moved_to : {head elems shared to_head to_elems to_shared : List ℕ} {h t : History} → AfterEntries head elems shared h → AfterEntries to_head to_elems to_shared t
      → (g r : ℕ) (out head' elems' shared' from_head from_elems from_shared out' : List ℕ)
      → AtHostMove g to_head to_elems to_shared head elems shared out (left_two r head' elems' shared' from_head from_elems from_shared out')
      → AfterEntries head' elems' shared' (noted_to t h g (heard r out'))
  moved_from : {head elems shared : List ℕ} {h : History} → AfterEntries head elems shared h
      → (g r : ℕ) (to_head to_elems to_shared out head' elems' shared' from_head from_elems from_shared out' : List ℕ)
      → AtHostMove g to_head to_elems to_shared head elems shared out (left_two r head' elems' shared' from_head from_elems from_shared out')
      → AfterEntries from_head from_elems from_shared (noted_from h (heard r out'))

pub record Demand3AtHost : Type 0 where
  -- no entry but fresh answers 1 or 2: what follows is of the calls, and not of refusals
  pub passes : (head elems shared : List ℕ) (h : History) → AfterEntries head elems shared h
      → (c : Call) (numbers : Said → List ℕ) (lent out : List ℕ) (after : Left)
      → AtHost c numbers head elems shared lent out after
      → (after.number ≢ 1) × (after.number ≢ 2)
  pub passes_in_place : (head elems shared : List ℕ) (h : History) → AfterEntries head elems shared h
      → (c : Call) (numbers : Said → List ℕ) (out : List ℕ) (after : Left)
      → AtHead c numbers (head_of head) elems shared out after
      → (after.number ≢ 1) × (after.number ≢ 2)
  -- rings, headers, walks and counts: the head and the tables as they lie agree with the history
  pub rings : (head elems shared : List ℕ) (h : History) → AfterEntries head elems shared h → Agrees (lent_state head elems shared) h
  -- a union that answers 0 rewrites exactly the smaller run, and `out` says how many class entries
  pub unions : (head elems shared : List ℕ) (h : History) → AfterEntries head elems shared h
      → (j k : Key) (lent out head' elems' shared' lent' out' : List ℕ)
      → AtHost (union j k) (numbers_of (union j k)) head elems shared lent out (left 0 head' elems' shared' lent' out')
      → Union (lent_state head elems shared) h j k (record { said = heard 0 out'; state = lent_state head' elems' shared'; lent = lent' })
