-- Every call, at the inner door and at the host's.
use Rattle.std.specs.Prelude.{ℕ, ◌≡◌, Bool, true, false, List, []}
use Rattle.rules.specs.declared.Key.{Key}
use Rattle.rules.specs.Tables.{State, sized}
use Rattle.rules.specs.Sound.{Sound}
use Rattle.rules.specs.Refusals.{Ruling, Outcome, outcome, shaped, door}
use Rattle.rules.specs.Reads
use Rattle.rules.specs.Slots
use Rattle.rules.specs.Runs
use Rattle.rules.specs.Undo
use Rattle.rules.specs.Undo.{Whole}
use Rattle.rules.specs.Drains
use Rattle.rules.specs.Seals
use Rattle.rules.specs.Exchange
use Rattle.rules.specs.Compress
use Rattle.rules.specs.WriteFile

-- Rules 1 and 4 to 14, and Tickets 1, 3, 5, 6, 7 and 11
pub data Call : Type 0 where
  len_surject get_element get_shared get_size get_total lookup remove remove_shared list drain seal : Key → Call
  in_same_surject union : (j k : Key) → Call
  set_element : Key → (payload : ℕ) → Call
  insert : Key → (payload size : ℕ) → Call
  set_shared : Key → (value : ℕ) → Call
  exchange : List Key → (values : List ℕ) → Call
  new_run : (payload value size : ℕ) → Call
  compress compress_with : (reset : Bool) → Call
  check drain_all clear undo write_file : Call

abbrev pub ruling : State → (lent : List ℕ) → Call → Ruling
ruling st lent (len_surject k) = Reads.len_surject st k
ruling st lent (in_same_surject j k) = Reads.in_same_surject st j k
ruling st lent (get_element k) = Reads.get_element st k
ruling st lent (get_shared k) = Reads.get_shared st k
ruling st lent (get_size k) = Reads.get_size st k
ruling st lent (get_total k) = Reads.get_total st k
ruling st lent (lookup k) = Reads.lookup st k
ruling st lent (set_element k payload) = Reads.set_element st k payload
ruling st lent (set_shared k value) = Reads.set_shared st k value
ruling st lent check = Reads.check st
ruling st lent (new_run payload value size) = Runs.new_run st payload value (sized size)
ruling st lent (insert k payload size) = Runs.insert st k payload (sized size)
ruling st lent (union j k) = Runs.union st j k
ruling st lent (remove k) = Runs.remove st k
ruling st lent (remove_shared k) = Drains.remove_shared st k
ruling st lent (list k) = Drains.list st lent k
ruling st lent (drain k) = Drains.drain st lent k
ruling st lent (seal k) = Seals.seal st lent k
ruling st lent drain_all = Drains.drain_all st lent
ruling st lent clear = Drains.clear st
ruling st lent undo = Undo.undo st
ruling st lent (exchange keys values) = Exchange.exchange st keys values
ruling st lent (compress reset) = Compress.compress st lent reset
ruling st lent (compress_with reset) = Compress.compress_with st lent reset
ruling st lent write_file = WriteFile.write_file 1 st lent

-- Tables, last: the inner door, which rests on soundness; and what that is
pub record Ready (st : State) : Type 0 where
  pub shape : shaped st ≡ true
  pub sound : Sound st

abbrev pub step : State → (lent : List ℕ) → Call → Outcome
step st lent c = outcome st lent (ruling st lent c)

-- Rules 2, fresh, which has no door but its own: it takes any tables that fit
abbrev pub fresh_step : State → (elems shared : ℕ) → Outcome
fresh_step st elems shared = outcome st [] (Slots.fresh st elems shared)

-- the truth value says whether P holds
abbrev pub Is : Type 0 → Bool → Type 0
Is P true = P
Is P false = P → ⊥

-- Tables, last: the host's door. What is promised of the outcome of each call; soundness is asked where shape fits (Refusals 2)
pub record AtDoor (st : State) (lent : List ℕ) (c : Call) (o : Outcome) : Type 0 where
  pub sound : Bool
  pub decided : shaped st ≡ true → Is (Whole st) sound
  pub same : o ≡ outcome st lent (door st sound (ruling st lent c))
