-- What the exchange's steps rest on.
use Rattle.std.specs.Prelude.{ℕ, List}
use Rattle.rules.specs.Tables.{frame_width, header_width, class_of}
use Rattle.slots.specs.Asked.{Within}

-- four shared slots stand in the table
pub record FourHeaders (s : List ℕ) (a b c d : ℕ) : Type 0 where
  pub first : Within header_width s a
  pub second : Within header_width s b
  pub third : Within header_width s c
  pub fourth : Within header_width s d

-- a frame and its class's header stand in the tables; so do those of four
pub record Classed (e s : List ℕ) (x : ℕ) : Type 0 where
  pub frame : Within frame_width e x
  pub header : Within header_width s (class_of e x)

pub record FourClassed (e s : List ℕ) (w x y z : ℕ) : Type 0 where
  pub first : Classed e s w
  pub second : Classed e s x
  pub third : Classed e s y
  pub fourth : Classed e s z
