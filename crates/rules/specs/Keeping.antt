-- Ticket 7: what a call makes of what the head remembers. A read, a list, a lookup, the check and the writer leave it; union remembers itself; undo takes the union back; any other accepted call drops it.
use Rattle.std.specs.Prelude.{ℕ, ◌≤◌, ◌≡◌, ◌≢◌, List}
use Rattle.rules.specs.Tables.{blank, State, with_undo, class_of, mark_of, size_at}
use Rattle.rules.specs.Sound.{Frame}
use Rattle.rules.specs.Refusals.{Ruling, refuse, accept}
use Rattle.rules.specs.Runs.{joined, remembered}
use Rattle.rules.specs.Undo.{taken_back}
use Rattle.rules.specs.Calls.{Call, len_surject, in_same_surject, get_element, get_shared, get_size, get_total, lookup, set_element, set_shared, check, new_run, insert, union, remove, remove_shared, list, drain, seal, drain_all, clear, undo, exchange, compress, compress_with, write_file, ruling, Ready}

pub data Effect : Type 0 where
  reads joins undoes drops : Effect

-- which calls are which
abbrev pub effect : Call → Effect
effect (len_surject k) = reads
effect (in_same_surject j k) = reads
effect (get_element k) = reads
effect (get_shared k) = reads
effect (get_size k) = reads
effect (get_total k) = reads
effect (lookup k) = reads
effect (list k) = reads
effect check = reads
effect write_file = reads
effect (union j k) = joins
effect undo = undoes
effect (set_element k payload) = drops
effect (set_shared k value) = drops
effect (exchange keys values) = drops
effect (new_run payload value size) = drops
effect (insert k payload size) = drops
effect (remove k) = drops
effect (remove_shared k) = drops
effect (drain k) = drops
effect drain_all = drops
effect (seal k) = drops
effect clear = drops
effect (compress reset) = drops
effect (compress_with reset) = drops

-- the state after an accepted union: two live slots of two runs that are not sealed, the second run no larger, and the memory of the two
pub record Joins (st st' : State) : Type 0 where
  pub x : ℕ
  pub y : ℕ
  pub frame-x : Frame st x
  pub frame-y : Frame st y
  pub apart : class_of st.elems x ≢ class_of st.elems y
  pub small : size_at st y ≤ size_at st x
  pub unsealed-x : mark_of st.shared (class_of st.elems x) ≡ 0
  pub unsealed-y : mark_of st.shared (class_of st.elems y) ≡ 0
  pub now : st' ≡ with_undo (joined st x y) (remembered st x y)

-- what each effect is
abbrev pub Then : Effect → State → State → Type 0
Then reads st st' = st' ≡ st
Then joins st st' = Joins st st'
Then undoes st st' = st' ≡ taken_back st
Then drops st st' = st'.head.undo ≡ blank

abbrev pub Accepted : (State → Type 0) → Ruling → Type 0
Accepted P (refuse r) = Unit {0}
Accepted P (accept values over st places) = P st

-- THE CLAIM, of every rule
abbrev pub Keeping : Type 0
Keeping = (st : State) → Ready st → (lent : List ℕ) (c : Call) → Accepted (Then (effect c) st) (ruling st lent c)
