-- What taking a union back asks of the slots that the head remembers.
use Rattle.std.specs.Prelude.{◌≤◌, ◌<◌}
use Rattle.rules.specs.Tables.{total_bound, header_width, class_of, total_of, State, size_at}
use Rattle.rules.specs.Sound.{bytes_along}
use Rattle.rules.specs.Slots.{slot_of}
use Rattle.rules.specs.Runs.{exchanged}
use Rattle.slots.specs.Asked.{Within, Takes, Next, Along}

pub record Undoable (st : State) : Type 0 where
  pub kept : Next st.elems st.head.undo.kept
  pub gone : Next st.elems st.head.undo.gone
  pub class : Within header_width st.shared (class_of st.elems st.head.undo.kept)
  pub fewer : st.head.undo.moved ≤ size_at st st.head.undo.kept
  pub root : Within header_width st.shared (slot_of st.head.shared)
  pub takes : Takes st.head.shared header_width st.shared
  pub along : Along (exchanged st.elems st.head.undo.kept st.head.undo.gone) st.head.undo.moved st.head.undo.gone
  pub light : bytes_along (exchanged st.elems st.head.undo.kept st.head.undo.gone) st.head.undo.moved st.head.undo.gone ≤ total_of st.shared (class_of st.elems st.head.undo.kept)
  pub total : total_of st.shared (class_of st.elems st.head.undo.kept) < total_bound
