-- Ticket 7: undo the last union.
use Rattle.std.specs.Prelude.{ℕ, ◌-◌, ◌≡◌, ◌⊎◌, [], if◌then◌else◌, ◌==◌}
use Rattle.rules.specs.declared.Refusal.TheVariants.{Nothing}
use Rattle.rules.specs.Tables.{header_width, row, class_of, count_of, total_of, State, with_pools, blank, shared_side, key_at}
use Rattle.rules.specs.Sound.{bytes_along, Sound}
use Rattle.rules.specs.Refusals.{Ruling, refuse, answer, outcome}
use Rattle.rules.specs.Slots.{slot_of, taken}
use Rattle.rules.specs.Runs.{header, counted, rewritten, exchanged, union}

-- the union that the head remembers is taken back: the next links are exchanged again; the freed shared slot is taken again, with its header;
-- the class entries along the ring that comes off become that slot; and its frames and bytes leave the kept count and total
unfoldable pub taken_back : State → State
taken_back st =
    let m = st.head.undo in
    let c = class_of st.elems m.kept in
    let d = slot_of st.head.shared in
    let e = exchanged st.elems m.kept m.gone in
    let z = bytes_along e m.moved m.gone in
    record {
      head = with_pools st.head st.head.elems (taken (shared_side st));
      elems = rewritten m.moved e m.gone d;
      shared = counted (row header_width st.shared d (header m.moved m.value 0 z)) c (count_of st.shared c - m.moved) (total_of st.shared c - z);
    }

-- the union of the frames in the two slots
abbrev pub union_again : State → (x y : ℕ) → State
union_again st x y = (outcome st [] (union st (key_at st x) (key_at st y))).state

-- what the head remembers describes a union whose taking back gives a sound state, from which that union gives the present one
pub record Describes (st : State) : Type 0 where
  pub sound : Sound (taken_back st)
  pub again : union_again (taken_back st) st.head.undo.kept st.head.undo.gone ≡ st

-- and it is part of soundness: zeros when there is nothing, or else so
abbrev pub Remembers : State → Type 0
Remembers st = (st.head.undo ≡ blank) ⊎ Describes st

abbrev pub Whole : State → Type 0
Whole st = Sound st × Remembers st

-- 10: there is nothing, as no slot was kept
unfoldable pub undo : State → Ruling
undo st = if st.head.undo.kept == 0 then refuse Nothing else answer [] (taken_back st)
