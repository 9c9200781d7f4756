-- What the first pass answers, from what the rules read.
use Rattle.std.specs.Prelude.{ℕ, ◌+◌, ◌&&◌, length, if◌then◌else◌, ◌==◌, Option, None, Some}
use Rattle.rules.specs.Bytes.{Got, unread, got}
use Rattle.rules.specs.RunFile.{StoredRun, Entry, body_length, frame_count, Parsed, departs, holds}
use Rattle.file_checks.specs.declared.Body.{Body}
use Rattle.file_checks.specs.declared.Held.{Held}

-- the body of a run that was read from a place on
abbrev pub read_at : (version at : ℕ) → StoredRun → Body
read_at v at r = record { end = at + body_length v r; frames = length r.frames }

abbrev pub said_body : (version at : ℕ) → Got StoredRun → Option Body
said_body v at unread = None
said_body v at (got r rest) = Some (read_at v at r)

abbrev pub said_run : (version at : ℕ) → Entry → Got StoredRun → Option Body
said_run v at e unread = None
said_run v at e (got r rest) = if (e.offset == at) && (e.long == body_length v r) then Some (read_at v at r) else None

abbrev pub said_parsed : Parsed → Option Held
said_parsed departs = None
said_parsed (holds rs) = Some (record { runs = length rs; frames = frame_count rs })
