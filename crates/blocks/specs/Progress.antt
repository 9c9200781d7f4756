-- Between lines: what the program's parts promise one another, in the terms of Script.
use Rattle.std.specs.Prelude.{ℕ, ◌+◌, ◌*◌, ◌≤◌, ◌<◌, ◌≡◌, List, [], ◌++◌, length, take}
use Rattle.rules.specs.Tables.{State, state_of}
use Rattle.rules.specs.Drains.{key_width}
use Rattle.rules.specs.Calls.{Ready}
use Rattle.rules.specs.Script.{capacity, line_most, line_reply, output}
use Rattle.lines.specs.Obeys.{reply_most, ObeysLine}
use Rattle.lines.specs.Stream.{Follows, fresh_state}
use Rattle.stdio.specs.declared.Sent.{Sent}
use Rattle.stdio.specs.Handed.{Handed}
use Rattle.blocks.specs.declared.Program.{Program}

abbrev pub state : Program → State
state p = state_of p.head p.elems.now p.shared.now

-- the state is ready for a line, and the buffers are as long as a line and its reply need
pub record Working (p : Program) : Type 0 where
  pub ready : Ready (state p)
  pub keys : length p.keys.now ≡ capacity * key_width
  pub reply : reply_most ≤ length p.out.now
  pub line : line_most < length p.line.now
  pub fill : p.fill ≤ length p.out.now
  pub held : p.held ≤ length p.line.now

-- what the writer was handed, and what stands in `out` after it, are together what they were: `gone`, and the first `fill` bytes of `out`
pub record Stays (out : List ℕ) (fill : ℕ) (gone : List ℕ) (at : ℕ) (sent : Sent) : Type 0 where
  pub handed : List ℕ
  pub counted : Handed sent handed
  pub same : handed ++ take at out ≡ gone ++ take fill out

-- the place of the next reply: what stood before it was handed to the writer, or is still there
pub record Room (out : List ℕ) (fill : ℕ) (before : Sent) (at : ℕ) (sent : Sent) : Type 0 where
  pub room : at + reply_most ≤ length out
  pub stays : (gone : List ℕ) → Handed before gone → Stays out fill gone at sent

-- what is lent for a run: zero tables, and buffers as long as a line and its reply need
pub record Lent (elems shared keys out line : List ℕ) : Type 0 where
  pub zero : state_of fresh_state.head elems shared ≡ fresh_state
  pub width : length keys ≡ capacity * key_width
  pub reply : reply_most ≤ length out
  pub most : line_most < length line

-- what is lent keeps its lengths
pub record SameLengths (p r : Program) : Type 0 where
  pub elems : length r.elems.now ≡ length p.elems.now
  pub shared : length r.shared.now ≡ length p.shared.now
  pub keys : length r.keys.now ≡ length p.keys.now
  pub out : length r.out.now ≡ length p.out.now
  pub line : length r.line.now ≡ length p.line.now

-- a line was obeyed: its reply comes after all that was printed before it
pub record Answered (p r : Program) : Type 0 where
  pub at : ℕ
  pub stays : (gone : List ℕ) → Handed p.sent gone → Stays p.out.now p.fill gone at r.sent
  pub obeys : ObeysLine (line_reply (state p) (take p.held p.line.now)) (state r) p.out.now at r.out.now r.fill
  pub within : r.fill ≤ length p.out.now
  pub none : r.held ≡ 0
  pub kept : r.line.now ≡ p.line.now
  pub long : SameLengths p r

-- Of an input, `left` is still to be read: what was read of it was obeyed and printed as Script says, and what has gone out was handed to the writer
pub record Doing (input left : List ℕ) (p : Program) : Type 0 where
  pub gone : List ℕ
  pub handed : Handed p.sent gone
  pub follows : Follows input left (state p) p.out.now p.fill p.line.now p.held gone

-- Of any input that a block goes on: what was read, printed and handed over after the block is still what Script says
pub record Fed (block : List ℕ) (p r : Program) : Type 0 where
  pub working : Working r
  pub long : SameLengths p r
  pub does : (past : List ℕ) → Doing past [] p → Doing (past ++ block) [] r

-- of some input, all was read, and what was printed and handed over is what Script says
pub record Reading (p : Program) : Type 0 where
  pub working : Working p
  pub input : List ℕ
  pub doing : Doing input [] p

-- the whole run: of some input, all that Script prints was handed to the writer
pub record Ran (sent : Sent) : Type 0 where
  pub input : List ℕ
  pub handed : Handed sent (output input)
