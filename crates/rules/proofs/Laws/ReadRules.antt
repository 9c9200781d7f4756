-- What the reader's rule decides (Ticket 11), case by case; and what an accepted read is.
use Rattle.std.specs.Prelude.{if◌then◌else◌}
use mathlib.Core.Path.{◌≡◌, refl, ap}
use mathlib.Core.Bool.{Bool, true, false}
use mathlib.Core.List.{List, []}
use Prim.Native.Nat.{ℕ, suc, ◌≤◌, ◌<◌}
use native.Mathlib.Omega.{arith}
use lib.ListN.{length}
use Rattle.rules.specs.declared.Refusal.TheVariants.{Shape, NoElement, NoShared, NoFile, Version}
use Rattle.rules.specs.Notation.{◌<?◌}
use Rattle.rules.specs.Tables.{State}
use Rattle.rules.specs.Refusals.{Ruling, refuse, answer, outcome, shaped}
use Rattle.rules.specs.Calls.{Is}
use Rattle.rules.specs.Bytes.{value, Bytes}
use Rattle.rules.specs.RunFile.{StoredRun, file, Parsed, departs, holds, parse, frame_count, Fits}
use Rattle.rules.specs.ReadFile.{read_tables, into_room, is_in, read_file, runs_of}
use Rattle.rules.proofs.Laws.Tests.{le_is}
use Rattle.rules.proofs.Laws.RoundTrip.{file-parse}

-- up to the version, and up to the runs
pub record Known (known : List ℕ) (st : State) (b : List ℕ) : Type 0 where
  pub shape : shaped st ≡ true
  pub long : 8 ≤ length b
  pub version : is_in (value 4 b) known ≡ true

pub record Holds (known : List ℕ) (st : State) (b : List ℕ) (rs : List StoredRun) : Type 0 where
  pub first : Known known st b
  pub runs : parse (value 4 b) b ≡ holds rs

pub data Ruled (known : List ℕ) (st : State) (b : List ℕ) : Ruling → Type 0 where
  misshapen : shaped st ≡ false → Ruled known st b (refuse Shape)
  short : shaped st ≡ true → length b < 8 → Ruled known st b (refuse NoFile)
  unknown : shaped st ≡ true → 8 ≤ length b → is_in (value 4 b) known ≡ false → Ruled known st b (refuse Version)
  departed : Known known st b → parse (value 4 b) b ≡ departs → Ruled known st b (refuse NoFile)
  crowded : (rs : List StoredRun) → Holds known st b rs → st.head.shared.capacity < length rs → Ruled known st b (refuse NoShared)
  full : (rs : List StoredRun) → Holds known st b rs → length rs ≤ st.head.shared.capacity → st.head.elems.capacity < frame_count rs → Ruled known st b (refuse NoElement)
  taken : (rs : List StoredRun) → Holds known st b rs → length rs ≤ st.head.shared.capacity → frame_count rs ≤ st.head.elems.capacity
      → Ruled known st b (answer [] (read_tables st.head.elems.capacity st.head.shared.capacity rs))

module _ (known : List ℕ) (st : State) (b : List ℕ) where
  abbrev elems : ℕ
  elems = st.head.elems.capacity

  abbrev shared : ℕ
  shared = st.head.shared.capacity

  by-room : (rs : List StoredRun) → Holds known st b rs → (p q : Bool) → Is (suc st.head.shared.capacity ≤ length rs) p → Is (suc st.head.elems.capacity ≤ frame_count rs) q
      → Ruled known st b (if p then refuse NoShared else if q then refuse NoElement else answer [] (read_tables st.head.elems.capacity st.head.shared.capacity rs))
  by-room rs H true q s e = crowded rs H s
  by-room rs H false true s e = full rs H (omega (arith, s)) e
  by-room rs H false false s e = taken rs H (omega (arith, s)) (omega (arith, e))

  by_runs : Known known st b → (p : Parsed) → parse (value 4 b) b ≡ p → Ruled known st b (into_room st.head.elems.capacity st.head.shared.capacity p)
  unfolding into_room
  by_runs K departs e = departed K e
  by_runs K (holds rs) e = by-room rs (record { first = K; runs = e }) (shared <? length rs) (elems <? frame_count rs) (le_is (suc shared) (length rs)) (le_is (suc elems) (frame_count rs))

  -- THE CASES
  pub ruled : Ruled known st b (read_file known st b)
  unfolding read_file
  ruled = go (shaped st) refl (length b <? 8) (le_is (suc (length b)) 8) (is_in (value 4 b) known) refl
    where
      go : (s : Bool) → shaped st ≡ s → (l : Bool) → Is (suc (length b) ≤ 8) l → (i : Bool) → is_in (value 4 b) known ≡ i
          → Ruled known st b (if s then (if l then refuse NoFile else if i then into_room st.head.elems.capacity st.head.shared.capacity (parse (value 4 b) b) else refuse Version) else refuse Shape)
      go false e l h i f = misshapen e
      go true e true h i f = short e h
      go true e false h false f = unknown e (omega (arith, h)) f
      go true e false h true f = by_runs (record { shape = e; long = omega (arith, h); version = f }) (parse (value 4 b) b) refl

-- AN ACCEPTED READ: the file's bytes are those of its runs, and there is room for them
pub record Read (known : List ℕ) (st : State) (b : List ℕ) (rs : List StoredRun) : Type 0 where
  pub holds : Holds known st b rs
  pub fits : Fits (value 4 b) rs
  pub same : b ≡ file (value 4 b) rs
  pub shared : length rs ≤ st.head.shared.capacity
  pub elems : frame_count rs ≤ st.head.elems.capacity
  pub now : outcome st [] (read_file known st b) ≡ outcome st [] (answer [] (read_tables st.head.elems.capacity st.head.shared.capacity rs))

pub accepted-read : (known : List ℕ) (st : State) (b : List ℕ) → Bytes b → (outcome st [] (read_file known st b)).said.number ≡ 0 → (rs : List StoredRun) × Read known st b rs
accepted-read known st b k e = go (read_file known st b) refl (ruled known st b) e
  where
    go : (q : Ruling) → read_file known st b ≡ q → Ruled known st b q → (outcome st [] q).said.number ≡ 0 → (rs : List StoredRun) × Read known st b rs
    go q f (misshapen h) e = absurd (omega (arith, e))
    go q f (short h l) e = absurd (omega (arith, e))
    go q f (unknown h l i) e = absurd (omega (arith, e))
    go q f (departed K d) e = absurd (omega (arith, e))
    go q f (crowded rs H l) e = absurd (omega (arith, e))
    go q f (full rs H l m) e = absurd (omega (arith, e))
    go q f (taken rs H l m) e =
        let w = file-parse (value 4 b) b rs k (omega (arith, H.first.long)) refl H.runs in
        (rs, record { holds = H; fits = w.fits; same = w.same; shared = l; elems = m; now = ap (outcome st []) f })

-- the runs that a file holds, as the history has them
pub runs_of_lem : (known : List ℕ) (st : State) (b : List ℕ) (rs : List StoredRun) → Holds known st b rs → runs_of b ≡ rs
runs_of_lem known st b rs H = rw H.runs
