-- Ticket 9: a ceiling on union work, over sequences of new runs, inserts and unions from fresh tables; and the call that answers it.
use Rattle.std.specs.Prelude.{ℕ, zero, suc, ◌+◌, ◌*◌, ◌^◌, ◌≤◌, ◌<◌, ◌≡◌, ◌≢◌, false, ◌&&◌, List, [], ◌∷◌, get_or, if◌then◌else◌}
use Rattle.rules.specs.declared.Key.{Key}
use Rattle.rules.specs.declared.Refusal.TheVariants.{OutOfRange}
use Rattle.rules.specs.Notation.{◌≤?◌}
use Rattle.rules.specs.Tables.{most_slots, State}
use Rattle.rules.specs.Refusals.{Said, Outcome, said_refused, said_accepted}
use Rattle.rules.specs.Calls.{Call, new_run, insert, union, fresh_step, AtDoor}
use Rattle.rules.specs.History.{History, accepted}
use Rattle.rules.specs.Demand.{Sequence, from_fresh, and_then}

-- the place of the highest one bit of `n`, places counted from 0: it is one higher where `n` reaches the next power of two
unfoldable pub highest_bit : (n : ℕ) → ℕ
highest_bit zero = 0
highest_bit (suc n) = let place = highest_bit n in if 2 ^ suc place ≤? suc n then suc place else place

-- as powers of two: bit `place` of `n` is a one, and none above it
pub record HighestBit (n place : ℕ) : Type 0 where
  pub reached : 2 ^ place ≤ n
  pub below : n < 2 ^ suc place

-- the figure for `n` frames
abbrev pub ceiling : (n : ℕ) → ℕ
ceiling n = n * highest_bit n

-- the calls of such a sequence
pub data Building : Call → Type 0 where
  begins : (payload value size : ℕ) → Building (new_run payload value size)
  inserts : (k : Key) (payload size : ℕ) → Building (insert k payload size)
  joins : (j k : Key) → Building (union j k)

-- calls that may stand between them: by the history no run changes, and no frame goes out, as by reads, sets and seals
pub record Aside (c : Call) : Type 0 where
  pub runs : (h : History) (values : List ℕ) → (accepted h c values).runs ≡ h.runs
  pub taken : (h : History) (values : List ℕ) → (accepted h c values).taken ≡ h.taken

-- the class entries rewritten, as a union answered; a new run and an insert answer no fourth value
abbrev pub rewritten : Said → ℕ
rewritten said = get_or said.values 3 0

-- a sequence of such calls from fresh tables, and all rewrites together; calls of any kind that are refused may be among them
pub data Built : Sequence → (rewrites : ℕ) → Type 0 where
  begin : (st : State) (elems shared : ℕ) (e : (fresh_step st elems shared).said.number ≡ 0) → Built (from_fresh st elems shared e) 0
  call : {s : Sequence} {n : ℕ} → Built s n → (lent : List ℕ) (c : Call) (o : Outcome) (d : AtDoor s.state lent c o) → o.said.number ≡ 0 → Building c → Built (and_then s lent c o d) (n + rewritten o.said)
  aside : {s : Sequence} {n : ℕ} → Built s n → (lent : List ℕ) (c : Call) (o : Outcome) (d : AtDoor s.state lent c o) → Aside c → Built (and_then s lent c o d) n
  refused : {s : Sequence} {n : ℕ} → Built s n → (lent : List ℕ) (c : Call) (o : Outcome) (d : AtDoor s.state lent c o) → o.said.number ≢ 0 → Built (and_then s lent c o d) n

-- THE CLAIM
pub record Ceiling : Type 0 where
  pub ties : (n : ℕ) → 1 ≤ n → HighestBit n (highest_bit n)
  -- at most the figure for the frames put in
  pub holds : (s : Sequence) (rewrites : ℕ) → Built s rewrites → 1 ≤ s.history.put → rewrites ≤ ceiling s.history.put

-- the call: 13 for numbers that are not 1 to 65,536
unfoldable pub union_ceiling : (n : ℕ) → Said
union_ceiling n = if (1 ≤? n) && (n ≤? most_slots) then said_accepted (ceiling n ∷ []) false else said_refused OutOfRange
