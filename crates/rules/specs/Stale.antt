-- Ticket 8: a removed frame's key stays dead, over any sequence of calls from fresh tables.
use Rattle.std.specs.Prelude.{ℕ, ◌≤◌, ◌≡◌, ◌≢◌, true, false, List, get_or}
use Rattle.rules.specs.declared.Key.{Key}
use Rattle.rules.specs.Tables.{cell, State, LiveKey}
use Rattle.rules.specs.Refusals.{Outcome}
use Rattle.rules.specs.Slots.{overflows}
use Rattle.rules.specs.Runs.{key_values}
use Rattle.rules.specs.Drains.{record_width, all_drained}
use Rattle.rules.specs.Calls.{Call, new_run, insert, remove, remove_shared, drain, drain_all, clear, compress, compress_with, lookup, AtDoor}
use Rattle.rules.specs.Renaming.{Compresses}
use Rattle.rules.specs.TwoTables.{TwoOutcome}
use Rattle.rules.specs.Copy.{AtCopy}
use Rattle.rules.specs.Bytes.{Bytes}
use Rattle.rules.specs.ReadFile.{read_step}
use Rattle.rules.specs.Demand.{Sequence, and_then, from_read, and_read, copied_to, header_of, from_move, moved_to, moved_from}
use Rattle.rules.specs.Move.{AtMove}

-- Rules 10 and 11: the overflow mark of the `i`th record that a drain wrote (docs/LAYOUT.md); it wrote as many as it answered
abbrev pub over_mark : Outcome → (i : ℕ) → ℕ
over_mark o i = cell record_width o.lent 5 i

abbrev pub Written : Outcome → (i : ℕ) → Type 0
Written o i = (1 ≤ i) × (i ≤ get_or o.said.values 0 0)

-- what ends the premise, in a call from the state `st` with the outcome `o`; and so does any fresh call, any accepted read (Ticket 11) and any accepted move to these tables (Ticket 12)
pub data Ends (st : State) (o : Outcome) : Call → Type 0 where
  -- an answer said overflow; a drain says it on the record concerned
  answer : {c : Call} → o.said.over ≡ true → Ends st o c
  on_record : (k : Key) (i : ℕ) → Written o i → over_mark o i ≡ 1 → Ends st o (drain k)
  on_record_of_all : (i : ℕ) → Written o i → over_mark o i ≡ 1 → Ends st o drain_all
  -- a compression was asked to reset
  reset : Ends st o (compress true)
  reset_with : Ends st o (compress_with true)
  -- drain-all passed the last generation in its closing clear
  closing : o.said.number ≡ 0 → overflows (all_drained st.head.shared.live st) ≡ true → Ends st o drain_all

-- a call more, refused or not, that does not end the premise
pub data Quietly (s : Sequence) : Sequence → Type 0 where
  call : (lent : List ℕ) (c : Call) (o : Outcome) (d : AtDoor s.state lent c o) → (Ends s.state o c → ⊥) → Quietly s (and_then s lent c o d)
  -- Ticket 11: a read that is refused
  unread : (file : List ℕ) (b : Bytes file) → (read_step s.state file).said.number ≢ 0 → Quietly s (and_read s file b)
  -- Ticket 10: for a copied key the premise reaches back into the source, and goes on with the target's calls from the copy on; for what the target held before, no sequence goes on
  copied : (target : State) (o : TwoOutcome) (d : AtCopy target s.state o) (e : o.said.number ≡ 0) → Quietly s (copied_to s target o d e)
  -- Ticket 12: a move to these tables that is refused; and one from them, which is a clear and must not say overflow
  unmoved : (from : Sequence) (g : ℕ) (o : TwoOutcome) (d : AtMove s.state from.state g o) → o.said.number ≢ 0 → Quietly s (moved_to from s g o d)
  left : (target : State) (g : ℕ) (o : TwoOutcome) (d : AtMove target s.state g o) → o.said.over ≡ false → Quietly s (moved_from s target g o d)

-- Ticket 11: an accepted read, the first call of all or a later one, is a fresh call that puts its frames in
pub data ReadIn : Sequence → Type 0 where
  first : (st : State) (file : List ℕ) (b : Bytes file) (e : (read_step st file).said.number ≡ 0) → ReadIn (from_read st file b e)
  next : (s : Sequence) (file : List ℕ) (b : Bytes file) → (read_step s.state file).said.number ≡ 0 → ReadIn (and_read s file b)

-- the accepted call in which a frame got the key `k`: it answered it; a compression gives every frame a new one, answered or not
pub data Gives (o : Outcome) (k : Key) : Call → Type 0 where
  begun : (payload value size : ℕ) → o.said.values ≡ key_values k → Gives o k (new_run payload value size)
  put : (j : Key) (payload size : ℕ) → o.said.values ≡ key_values k → Gives o k (insert j payload size)
  renewed : {c : Call} → Compresses c → LiveKey o.state k → Gives o k c

-- Ticket 12: for the target an accepted move, the first call of all or a later one, is a fresh call that puts its frames in
pub data MovedIn : Sequence → Type 0 where
  onto : (s : Sequence) (target : State) (g : ℕ) (o : TwoOutcome) (d : AtMove target s.state g o) (e : o.said.number ≡ 0) → MovedIn (from_move s target g o d e)
  into : (s t : Sequence) (g : ℕ) (o : TwoOutcome) (d : AtMove t.state s.state g o) → o.said.number ≡ 0 → MovedIn (moved_to s t g o d)

-- a sequence in which a frame got the key `k`, and since then the premise held
pub data Since (k : Key) : Sequence → Type 0 where
  given : (s : Sequence) (lent : List ℕ) (c : Call) (o : Outcome) (d : AtDoor s.state lent c o) → o.said.number ≡ 0 → Gives o k c → Since k (and_then s lent c o d)
  filed : {s : Sequence} → ReadIn s → LiveKey s.state k → Since k s
  landed : {s : Sequence} → MovedIn s → LiveKey s.state k → Since k s
  since : {s s' : Sequence} → Since k s → Quietly s s' → Since k s'

-- the same sequence, or with more calls, the premise holding
pub data Later (s : Sequence) : Sequence → Type 0 where
  now : Later s s
  later : {s' s'' : Sequence} → Later s s' → Quietly s' s'' → Later s s''

-- a call by which the frame of the live key `k` is removed, drained, cleared or compressed away
pub data Takes (st : State) (k : Key) : Call → Type 0 where
  removed : Takes st k (remove k)
  removed_shared : (j : Key) → header_of st j ≡ header_of st k → Takes st k (remove_shared j)
  drained : (j : Key) → header_of st j ≡ header_of st k → Takes st k (drain j)
  drained_all : Takes st k drain_all
  cleared : Takes st k clear
  compressed : {c : Call} → Compresses c → Takes st k c

-- with this call more, which is accepted, the premise holding
pub data TakenOut (k : Key) (s : Sequence) : Sequence → Type 0 where
  taken : LiveKey s.state k → (lent : List ℕ) (c : Call) (o : Outcome) (d : AtDoor s.state lent c o) → o.said.number ≡ 0 → (Ends s.state o c → ⊥) → Takes s.state k c → TakenOut k s (and_then s lent c o d)
  -- Ticket 12: or with a move from these tables
  moved_away : LiveKey s.state k → (target : State) (g : ℕ) (o : TwoOutcome) (d : AtMove target s.state g o) → o.said.number ≡ 0 → o.said.over ≡ false → TakenOut k s (moved_from s target g o d)

-- THE CLAIM
pub record StaysDead : Type 0 where
  -- once the key has been removed, drained, cleared or compressed away, no later lookup calls it live
  pub gone : (k : Key) (s s' s'' : Sequence) → Since k s → TakenOut k s s' → Later s' s'' → LiveKey s''.state k → ⊥
  -- nor does the call that looks it up: it refuses 3
  pub told : (k : Key) (s s' s'' : Sequence) → Since k s → TakenOut k s s' → Later s' s'' → (lent : List ℕ) (o : Outcome) → AtDoor s''.state lent (lookup k) o → o.said.number ≡ 3
  -- and however it came that one lookup does not call it live, no later one does
  pub dead : (k : Key) (s s' : Sequence) → Since k s → (LiveKey s.state k → ⊥) → Later s s' → LiveKey s'.state k → ⊥
