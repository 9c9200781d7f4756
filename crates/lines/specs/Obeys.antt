-- What obeying a line leaves, in the terms of Script's reply.
use Rattle.std.specs.Prelude.{ℕ, ◌+◌, ◌*◌, ◌≤◌, ◌<◌, ◌≡◌, List, [], ◌∷◌, ◌++◌}
use Rattle.rules.specs.Tables.{State}
use Rattle.rules.specs.Drains.{key_width}
use Rattle.rules.specs.Calls.{Ready}
use Rattle.rules.specs.Script.{capacity, newline, Reply}
use Rattle.told.specs.Put.{Put}

-- the most bytes of a reply with its newline: `ring`, and two numbers for each frame, each of 20 digits at most
abbrev pub reply_most : ℕ
reply_most = 29 + capacity * key_width * 21

-- the state is the reply's and is ready for the next line; the reply is printed, and there is room for a newline
pub record Obeys (reply : Reply) (st : State) (before : List ℕ) (at : ℕ) (after : List ℕ) (next : ℕ) : Type 0 where
  pub same : st ≡ reply.state
  pub ready : Ready st
  pub put : Put before at reply.printed after next
  pub within : next < at + reply_most

abbrev pub with_newline : Reply → List ℕ
with_newline reply = reply.printed ++ newline ∷ []

-- the same of a line of bytes, with its newline
pub record ObeysLine (reply : Reply) (st : State) (before : List ℕ) (at : ℕ) (after : List ℕ) (next : ℕ) : Type 0 where
  pub same : st ≡ reply.state
  pub ready : Ready st
  pub put : Put before at (with_newline reply) after next
  pub within : next ≤ at + reply_most
