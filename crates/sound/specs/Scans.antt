-- What the scan rests on, finds at each slot, and has found in the end.
use Rattle.std.specs.Prelude.{◌≡◌, ◌≢◌, true, false, List, [], ◌∷◌, ◌++◌, map, ℕ, suc, ◌*◌, ◌-◌, ◌≤◌, ◌<◌, length}
use Rattle.marks.specs.Marks.{marked, Added}
use Rattle.rules.specs.Notation.{sum}
use Rattle.rules.specs.Tables.{most_slots, frame_width, header_width, generation_of, class_of, next_of, bytes_of, count_of, total_of, State}
use Rattle.rules.specs.Sound.{Sound}
use Rattle.rules.specs.Refusals.{shaped}
use Rattle.rules.proofs.Laws.Lists.{All, In, NoDup, Walk}
use Rattle.rules.proofs.Laws.Rounds.{Within, Fit, Round}
use Rattle.turns.specs.Turns.{FreeOk}
use Rattle.sound.specs.declared.Turn.{Turn}
use Rattle.sound.specs.declared.Turn.TheVariants.{Free, Seen, First, Wrong}

-- what the scan rests on: shape, and extents within capacity
pub record Fitting (st : State) : Type 0 where
  pub shape : shaped st ≡ true
  pub elems : st.head.elems.extent * frame_width ≤ length st.elems
  pub shared : st.head.shared.extent * header_width ≤ length st.shared
  pub few : st.head.elems.extent ≤ most_slots

-- a frame, and its class slot
pub record FrameAt (st : State) (x : ℕ) : Type 0 where
  pub live : generation_of st.elems x ≢ 0
  pub class : Within st.head.shared.extent (class_of st.elems x)

-- the first frame of its class that is met, and the ring round from it
pub record FirstAt (st : State) (seen : List ℕ) (x k : ℕ) (after : List ℕ) : Type 0 where
  pub frame : FrameAt st x
  pub unseen : marked seen (class_of st.elems x - 1) ≡ false
  pub count : k ≡ count_of st.shared (class_of st.elems x)
  pub round : Round st.elems st.head.elems.extent (class_of st.elems x) x k (total_of st.shared (class_of st.elems x)) x
  pub added : Added seen (class_of st.elems x - 1) after

-- what one turn of the scan finds at a slot, and the marks then
abbrev pub Turned : State → (seen : List ℕ) → (slot : ℕ) → Turn → (after : List ℕ) → Type 0
Turned st seen x Free after = (generation_of st.elems x ≡ 0) × FreeOk st.elems x × (after ≡ seen)
Turned st seen x Seen after = FrameAt st x × (marked seen (class_of st.elems x - 1) ≡ true) × (after ≡ seen)
Turned st seen x (First k) after = FirstAt st seen x k after
Turned st seen x Wrong after = Sound st → ⊥

-- a ring that was walked
pub record Run : Type 0 where
  pub class : ℕ
  pub start : ℕ
  pub rest : List ℕ

abbrev pub frames : Run → List ℕ
frames r = r.start ∷ r.rest

abbrev pub classes : List Run → List ℕ
classes [] = []
classes (r ∷ rs) = r.class ∷ classes rs

abbrev pub slots : List Run → List ℕ
slots [] = []
slots (r ∷ rs) = frames r ++ slots rs

pub record RunOk (st : State) (r : Run) : Type 0 where
  pub header : Within st.head.shared.extent r.class
  pub sized : suc (length r.rest) ≡ count_of st.shared r.class
  pub round : Walk (next_of st.elems) (next_of st.elems r.start) r.start r.rest
  pub once : NoDup (frames r)
  pub bytes : sum (map (bytes_of st.elems) (frames r)) ≡ total_of st.shared r.class
  pub fits : All (Fit st.elems st.head.elems.extent r.class) (frames r)

-- The slots up to `i` were passed: `met` frames stand in the `rings` rings that were walked.
pub record Scan (st : State) (i met rings : ℕ) (seen : List ℕ) : Type 0 where
  pub runs : List Run
  pub good : All (RunOk st) runs
  pub fresh : NoDup (classes runs)
  pub marks : (c : ℕ) → marked seen c ≡ true → In (suc c) (classes runs)
  pub noted : (c : ℕ) → In (suc c) (classes runs) → marked seen c ≡ true
  pub passed : (x : ℕ) → 0 < x → x ≤ i → generation_of st.elems x ≢ 0 → In (class_of st.elems x) (classes runs)
  pub free : (x : ℕ) → 0 < x → x ≤ i → generation_of st.elems x ≡ 0 → FreeOk st.elems x
  pub total : length (slots runs) ≡ met
  pub count : length (classes runs) ≡ rings
  pub few : rings ≤ i

-- all slots were passed, and the numbers are the head's
pub record Scanned (st : State) : Type 0 where
  pub seen : List ℕ
  pub scan : Scan st st.head.elems.extent st.head.elems.live st.head.shared.live seen

-- marks for all classes, none of them set
pub record Blank (m : ℕ) (seen : List ℕ) : Type 0 where
  pub room : m ≤ length seen * 64
  pub none : (c : ℕ) → marked seen c ≡ false
