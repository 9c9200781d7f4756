-- Ticket 11: the run file, over its versions: runs as data, the bytes of a file from its runs, and the runs that a file holds.
use Rattle.std.specs.Prelude.{ℕ, ◌+◌, ◌*◌, ◌≤◌, ◌<◌, ◌&&◌, List, [], ◌∷◌, ◌++◌, map, length, drop, if◌then◌else◌, ◌==◌}
use Rattle.rules.specs.Notation.{◌≤?◌, sum, flat, All}
use Rattle.rules.specs.Bytes.{Got, unread, got, Reader, ◌>>=◌, return, reject, times, little, limit, number}

-- a frame and a run as a file has them, the frames in ring order
pub record StoredFrame : Type 0 where
  pub payload : ℕ
  pub size : ℕ

pub record StoredRun : Type 0 where
  pub value : ℕ
  pub frames : List StoredFrame

abbrev pub total : List StoredFrame → ℕ
total fs = sum (map (λ f. f.size) fs)

-- the bytes of a frame, of a run's body, and of all bodies back to back
unfoldable pub frame_bytes : (version : ℕ) → StoredFrame → List ℕ
frame_bytes v f = little 8 f.payload ++ little 4 f.size

unfoldable pub body_bytes : (version : ℕ) → StoredRun → List ℕ
body_bytes v r = little 8 r.value ++ little 8 (total r.frames) ++ little 4 (length r.frames) ++ flat (map (frame_bytes v) r.frames)

-- how many they are
abbrev pub frame_length : (version : ℕ) → ℕ
frame_length v = 12

abbrev pub body_length : (version : ℕ) → StoredRun → ℕ
body_length v r = 20 + length r.frames * frame_length v

-- the contents: where each body begins, the first at `at`, and its length
pub record Entry : Type 0 where
  pub offset : ℕ
  pub long : ℕ

unfoldable pub entries : (version at : ℕ) → List StoredRun → List Entry
entries v at [] = []
entries v at (r ∷ rs) = record { offset = at; long = body_length v r } ∷ entries v (at + body_length v r) rs

unfoldable pub entry_bytes : Entry → List ℕ
entry_bytes e = little 4 e.offset ++ little 4 e.long

-- where the bodies of so many runs begin
abbrev pub first_body : (runs : ℕ) → ℕ
first_body n = 8 + n * 8

-- the file: its version, how many runs, the contents, the bodies
unfoldable pub after_version : (version : ℕ) → List StoredRun → List ℕ
after_version v rs = little 4 (length rs) ++ flat (map entry_bytes (entries v (first_body (length rs)) rs)) ++ flat (map (body_bytes v) rs)

unfoldable pub file : (version : ℕ) → List StoredRun → List ℕ
file v rs = little 4 v ++ after_version v rs

-- reading: a frame; a body, not empty and its total the sum; an entry of the contents
unfoldable pub stored_frame : (version : ℕ) → Reader StoredFrame
stored_frame v = do
  payload ← number 8
  size ← number 4
  return (record { payload = payload; size = size })

unfoldable pub body : (version : ℕ) → Reader StoredRun
body v = do
  value ← number 8
  said ← number 8
  count ← number 4
  fs ← times count (stored_frame v)
  if (1 ≤? count) && (said == total fs) then return (record { value = value; frames = fs }) else reject

unfoldable pub entry : Reader Entry
entry = do
  offset ← number 4
  long ← number 4
  return (record { offset = offset; long = long })

-- the bodies from `at` on, each where its entry says and as long
unfoldable pub bodies : (version at : ℕ) → List Entry → Reader (List StoredRun)
bodies v at [] = return []
bodies v at (e ∷ es) = do
  r ← body v
  rs ← if (e.offset == at) && (e.long == body_length v r) then bodies v (at + body_length v r) es else reject
  return (r ∷ rs)

unfoldable pub runs : (version : ℕ) → Reader (List StoredRun)
runs v = do
  count ← number 4
  table ← times count entry
  bodies v (first_body count) table

-- and nothing after
pub data Parsed : Type 0 where
  departs : Parsed
  holds : List StoredRun → Parsed

abbrev pub whole : Got (List StoredRun) → Parsed
whole unread = departs
whole (got rs []) = holds rs
whole (got rs (x ∷ rest)) = departs

-- what a file of a version holds; its first four bytes are the version
unfoldable pub parse : (version : ℕ) → List ℕ → Parsed
parse v b = whole (runs v (drop 4 b))

-- how many frames there are
abbrev pub frame_count : List StoredRun → ℕ
frame_count rs = sum (map (λ r. length r.frames) rs)

-- the numbers of a file have the room that it gives them, and no run is empty
pub record FrameFits (version : ℕ) (f : StoredFrame) : Type 0 where
  pub payload : f.payload < limit 8
  pub size : f.size < limit 4

pub record RunFits (version : ℕ) (r : StoredRun) : Type 0 where
  pub value : r.value < limit 8
  pub some : 1 ≤ length r.frames
  pub count : length r.frames < limit 4
  pub frames : All (FrameFits version) r.frames

pub record EntryFits (e : Entry) : Type 0 where
  pub offset : e.offset < limit 4
  pub long : e.long < limit 4

pub record Fits (version : ℕ) (rs : List StoredRun) : Type 0 where
  pub count : length rs < limit 4
  pub runs : All (RunFits version) rs
  pub contents : All EntryFits (entries version (first_body (length rs)) rs)
