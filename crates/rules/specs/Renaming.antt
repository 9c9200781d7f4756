-- Ticket 3: what both compressions keep, said once: runs, rings, counts and payloads are the same up to a renaming, and marks, sizes and totals travel along.
use Rattle.std.specs.Prelude.{ℕ, ◌≡◌, Bool, List, map}
use Rattle.rules.specs.Tables.{payload_of, class_of, previous_of, next_of, bytes_of, count_of, value_of, mark_of, total_of, State, elem_side, shared_side}
use Rattle.rules.specs.Sound.{Frame, Header}
use Rattle.rules.specs.Drains.{ring}
use Rattle.rules.specs.Compress.{canonical_frames, canonical_classes, live_slots, place_of}
use Rattle.rules.specs.Calls.{Call, compress, compress_with, Ready, step}

-- `new` names the frames of `st` anew in `st'`, and `new_class` its headers
pub record SameRuns (st st' : State) (new new_class : ℕ → ℕ) : Type 0 where
  -- every frame has a slot of its own there, and nothing else stands there
  pub frame : (s : ℕ) → Frame st s → Frame st' (new s)
  pub own : (s t : ℕ) → Frame st s → Frame st t → new s ≡ new t → s ≡ t
  pub each : (t : ℕ) → Frame st' t → (s : ℕ) × Frame st s × (new s ≡ t)
  -- so has every header
  pub header : (c : ℕ) → Header st c → Header st' (new_class c)
  pub own_header : (c d : ℕ) → Header st c → Header st d → new_class c ≡ new_class d → c ≡ d
  pub each_header : (d : ℕ) → Header st' d → (c : ℕ) × Header st c × (new_class c ≡ d)
  -- its run's header, and its ring from it on, in the same order; both links
  pub class : (s : ℕ) → Frame st s → class_of st'.elems (new s) ≡ new_class (class_of st.elems s)
  pub rings : (s : ℕ) → Frame st s → ring st' (new s) ≡ map new (ring st s)
  pub next : (s : ℕ) → Frame st s → next_of st'.elems (new s) ≡ new (next_of st.elems s)
  pub previous : (s : ℕ) → Frame st s → previous_of st'.elems (new s) ≡ new (previous_of st.elems s)
  -- and what frame and header hold
  pub payload : (s : ℕ) → Frame st s → payload_of st'.elems (new s) ≡ payload_of st.elems s
  pub size : (s : ℕ) → Frame st s → bytes_of st'.elems (new s) ≡ bytes_of st.elems s
  pub count : (c : ℕ) → Header st c → count_of st'.shared (new_class c) ≡ count_of st.shared c
  pub value : (c : ℕ) → Header st c → value_of st'.shared (new_class c) ≡ value_of st.shared c
  pub mark : (c : ℕ) → Header st c → mark_of st'.shared (new_class c) ≡ mark_of st.shared c
  pub total : (c : ℕ) → Header st c → total_of st'.shared (new_class c) ≡ total_of st.shared c

-- the calls that rename every frame; and the orders by which they do
pub data Compresses : Call → Type 0 where
  canonical : (reset : Bool) → Compresses (compress reset)
  kept : (reset : Bool) → Compresses (compress_with reset)

abbrev pub frames_by : State → {c : Call} → Compresses c → List ℕ
frames_by st (canonical reset) = canonical_frames st
frames_by st (kept reset) = live_slots (elem_side st)

abbrev pub classes_by : State → {c : Call} → Compresses c → List ℕ
classes_by st (canonical reset) = canonical_classes st
classes_by st (kept reset) = live_slots (shared_side st)

-- THE CLAIM, of every accepted compression of either kind
abbrev pub Renaming : Type 0
Renaming = (st : State) → Ready st → (lent : List ℕ) (c : Call) (r : Compresses c) → (step st lent c).said.number ≡ 0 → SameRuns st (step st lent c).state (place_of (frames_by st r)) (place_of (classes_by st r))
