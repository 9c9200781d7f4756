-- What taking a slot rests on.
use Rattle.std.specs.Prelude.{◌≡◌, false}
use Rattle.rules.specs.declared.Pool.{Pool}
use Rattle.rules.specs.Tables.{State}
use Rattle.rules.specs.Slots.{is_full}
use Rattle.rules.proofs.Laws.Safe.{Safe}

-- a pool that is not full
abbrev pub HasRoom : Pool → Type 0
HasRoom p = is_full p ≡ false

-- a frame and a header can be taken
pub record RoomFor (st : State) : Type 0 where
  pub safe : Safe st
  pub elems : HasRoom st.head.elems
  pub shared : HasRoom st.head.shared
