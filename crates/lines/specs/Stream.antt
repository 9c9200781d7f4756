-- The whole input as it comes, block by block: what has been read and printed so far, in Script's terms.
use Rattle.std.specs.Prelude.{ℕ, ◌≤◌, ◌≡◌, List, [], ◌∷◌, ◌++◌, length, take}
use Rattle.rules.specs.Tables.{State}
use Rattle.rules.specs.Slots.{empty}
use Rattle.rules.specs.Script.{capacity, newline, pieces, line_reply, replies}
use Rattle.words.specs.Words.{onto}

-- of a line that has `bytes`, as many as there is room for are held
pub record Holds (line : List ℕ) (held : ℕ) (bytes : List ℕ) : Type 0 where
  pub within : held ≤ length line
  pub same : take held line ≡ take (length line) bytes

-- a part more of it comes after those
pub record Keeps (line : List ℕ) (held : ℕ) (part after : List ℕ) (r : ℕ) : Type 0 where
  pub long : length after ≡ length line
  pub within : r ≤ length line
  pub holds : (bytes : List ℕ) → Holds line held bytes → Holds after r (bytes ++ part)

-- the state after some lines
unfoldable pub reached : State → (lines : List (List ℕ)) → State
reached st [] = st
reached st (l ∷ ls) = reached (line_reply st l).state ls

abbrev pub fresh_state : State
fresh_state = empty capacity capacity 1

-- Of an input, `left` is still to be read. Its lines so far were obeyed, from fresh tables on; what they print is what has gone out, and what stands at the start of `out` after it; and the line begun is held.
pub record Follows (input left : List ℕ) (st : State) (out : List ℕ) (fill : ℕ) (line : List ℕ) (held : ℕ) (gone : List ℕ) : Type 0 where
  pub lines : List (List ℕ)
  pub begun : List ℕ
  pub whole : pieces newline input ≡ lines ++ onto begun (pieces newline left)
  pub state : st ≡ reached fresh_state lines
  pub printed : gone ++ take fill out ≡ replies fresh_state lines
  pub holds : Holds line held begun
