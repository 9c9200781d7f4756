-- Ticket 1: what the finalizer has from the seal stays true. From the seal on, over any further calls, no frame comes into that run.
use Rattle.std.specs.Prelude.{ℕ, zero, suc, ◌≤◌, ◌≡◌, ◌≢◌, List, [], ◌∷◌, map, length, get_or, drop, if◌then◌else◌, ◌==◌}
use Rattle.rules.specs.declared.Key.{Key}
use Rattle.rules.specs.Tables.{State, LiveKey, mark_of}
use Rattle.rules.specs.Refusals.{Outcome}
use Rattle.rules.specs.Seals.{seal_width}
use Rattle.rules.specs.Calls.{Call, seal, fresh_step, AtDoor}
use Rattle.rules.specs.Bytes.{Bytes}
use Rattle.rules.specs.ReadFile.{read_step, runs_of}
use Rattle.rules.specs.Renaming.{Compresses, canonical, kept}
use Rattle.rules.specs.History.{History, answered_key, run_of, by_run, by_slot, still_in, noted, noted_fresh, noted_read}
use Rattle.rules.specs.Demand.{After, In, header_of}

-- the keys in the first places that a seal wrote
unfoldable pub keys_written : (places : ℕ) → (lent : List ℕ) → List Key
keys_written zero lent = []
keys_written (suc n) lent = answered_key lent ∷ keys_written n (drop seal_width lent)

-- how a compression renames frames in the history
abbrev pub new_key : History → {c : Call} → Compresses c → Key → Key
new_key h (canonical reset) = by_run h reset
new_key h (kept reset) = by_slot h reset

-- Any further calls from the state `st` and history `h` on. Beside them, what has become of the frames `ks`: those that are still there, under the keys that they have now.
pub data Since (st : State) (h : History) (ks : List Key) : State → History → List Key → Type 0 where
  begin : Since st h ks st h ks
  fresh : {st' : State} {h' : History} {ks' : List Key} → Since st h ks st' h' ks' → (elems shared : ℕ)
      → Since st h ks (fresh_step st' elems shared).state (noted_fresh h' (fresh_step st' elems shared).said) (still_in (noted_fresh h' (fresh_step st' elems shared).said).runs ks')
  -- Ticket 11: an accepted read puts other frames in
  read : {st' : State} {h' : History} {ks' : List Key} → Since st h ks st' h' ks' → (file : List ℕ) → Bytes file
      → Since st h ks (read_step st' file).state (noted_read h' (runs_of file) (read_step st' file).said) (if (read_step st' file).said.number == 0 then [] else ks')
  -- any call but an accepted compression
  call : {st' : State} {h' : History} {ks' : List Key} → Since st h ks st' h' ks' → (lent : List ℕ) (c : Call) (o : Outcome) → AtDoor st' lent c o
      → (Compresses c → o.said.number ≢ 0) → Since st h ks o.state (noted h' c o.said) (still_in (noted h' c o.said).runs ks')
  -- an accepted compression, which renames every frame
  compression : {st' : State} {h' : History} {ks' : List Key} → Since st h ks st' h' ks' → (lent : List ℕ) (c : Call) (r : Compresses c) (o : Outcome) → AtDoor st' lent c o → o.said.number ≡ 0
      → Since st h ks o.state (noted h' c o.said) (map (new_key h' r) ks')

-- what holds of an accepted seal at the key `k`
pub record Sealed (st : State) (h : History) (k : Key) (o : Outcome) : Type 0 where
  -- the count that was answered is how many frames were written, and these are the whole run in ring order from the key
  pub counted : get_or o.said.values 1 0 ≡ length (run_of k h.runs)
  pub written : keys_written (get_or o.said.values 1 0) o.lent ≡ run_of k h.runs
  -- from then on, whatever is called: none has come into the run of any of these frames, whose header is still marked
  pub only : {st' : State} {h' : History} {ks : List Key} → Since o.state (noted h (seal k) o.said) (run_of k h.runs) st' h' ks
      → (j : Key) → In j ks → (i : Key) → In i (run_of j h'.runs) → In i ks
  pub marked : {st' : State} {h' : History} {ks : List Key} → Since o.state (noted h (seal k) o.said) (run_of k h.runs) st' h' ks
      → (j : Key) → In j ks → LiveKey st' j × (mark_of st'.shared (header_of st' j) ≡ 1)
  -- nor are there more of them than the count says
  pub fewer : {st' : State} {h' : History} {ks : List Key} → Since o.state (noted h (seal k) o.said) (run_of k h.runs) st' h' ks → length ks ≤ get_or o.said.values 1 0

-- THE CLAIM, of every accepted seal after any calls from fresh tables
abbrev pub Sealing : Type 0
Sealing = (st : State) (h : History) → After st h → (lent : List ℕ) (k : Key) (o : Outcome) → AtDoor st lent (seal k) o → o.said.number ≡ 0 → Sealed st h k o
