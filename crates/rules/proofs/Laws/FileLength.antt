-- How long a run file is: 8 bytes, 28 for each run, and so many for each frame; and of the runs of a sound state, by the head's live numbers.
use mathlib.Core.Path.{◌≡◌, refl, sym, ap, ◌∙◌}
use mathlib.Core.List.{List, [], ◌∷◌, ◌++◌, map}
use Prim.Native.Nat.{ℕ, suc, ◌+◌, ◌*◌}
use native.Mathlib.Omega.{arith}
use lib.ListN.{length, length-append, length-map}
use Rattle.rules.specs.Notation.{flat}
use Rattle.rules.specs.Tables.{class_of, State}
use Rattle.rules.specs.Drains.{ring}
use Rattle.rules.specs.Compress.{lowest_slots, canonical_frames, canonical_classes}
use Rattle.rules.specs.Bytes.{little}
use Rattle.rules.specs.RunFile.{StoredFrame, StoredRun, total, frame_bytes, body_bytes, frame_length, body_length, Entry, entries, entry_bytes, first_body, after_version, file, frame_count}
use Rattle.rules.specs.WriteFile.{frame_in, run_in, runs_in, bytes_in}
use Rattle.rules.proofs.Laws.Numbers.{length-little}
use Rattle.rules.proofs.Laws.Working.{view, Working}
use Rattle.rules.proofs.Laws.Order.{frames_listed, classes_listed}
use Rattle.rules.proofs.Laws.Compress.{listed_live}

-- things of one length
pub length-each : {A : Type 0} (n : ℕ) (write : A → List ℕ) → ((a : A) → length (write a) ≡ n) → (xs : List A) → length (flat (map write xs)) ≡ length xs * n
length-each n write h [] = omega arith
length-each n write h (x ∷ xs) = length-append (write x) (flat (map write xs)) ∙ omega (arith, h x, length-each n write h xs)

pub length-frame : (v : ℕ) (f : StoredFrame) → length (frame_bytes v f) ≡ frame_length v
unfolding frame_bytes
length-frame v f = length-append (little 8 f.payload) (little 4 f.size) ∙ omega (arith, length-little 8 f.payload, length-little 4 f.size)

pub length-body : (v : ℕ) (r : StoredRun) → length (body_bytes v r) ≡ body_length v r
unfolding body_bytes
length-body v r =
    let a : List ℕ = little 8 r.value in
    let b : List ℕ = little 8 (total r.frames) in
    let c : List ℕ = little 4 (length r.frames) in
    let d : List ℕ = flat (map (frame_bytes v) r.frames) in
    omega (arith, length-append (a ++ b ++ c) d, length-append (a ++ b) c, length-append a b, length-little 8 r.value, length-little 8 (total r.frames), length-little 4 (length r.frames), length-each (frame_length v) (frame_bytes v) (length-frame v) r.frames)

pub length-entry : (e : Entry) → length (entry_bytes e) ≡ 8
unfolding entry_bytes
length-entry e = length-append (little 4 e.offset) (little 4 e.long) ∙ omega (arith, length-little 4 e.offset, length-little 4 e.long)

pub length-entries : (v at : ℕ) (rs : List StoredRun) → length (entries v at rs) ≡ length rs
unfolding entries
length-entries v at [] = refl
length-entries v at (r ∷ rs) = ap suc (length-entries v (at + body_length v r) rs)

pub length-bodies : (v : ℕ) (rs : List StoredRun) → length (flat (map (body_bytes v) rs)) ≡ length rs * 20 + frame_count rs * frame_length v
length-bodies v [] = refl
length-bodies v (r ∷ rs) = omega (arith, length-append (body_bytes v r) (flat (map (body_bytes v) rs)), length-body v r, length-bodies v rs)

pub file-length : (v : ℕ) (rs : List StoredRun) → length (file v rs) ≡ 8 + length rs * 28 + frame_count rs * frame_length v
unfolding file after_version
file-length v rs =
    let n : ℕ = first_body (length rs) in
    let a : List ℕ = little 4 (length rs) in
    let b : List ℕ = flat (map entry_bytes (entries v n rs)) in
    let c : List ℕ = flat (map (body_bytes v) rs) in
    omega (arith, length-append (little 4 v) (a ++ b ++ c), length-append (a ++ b) c, length-append a b, length-little 4 v, length-little 4 (length rs), length-each 8 entry_bytes length-entry (entries v n rs), length-entries v n rs, length-bodies v rs)

-- the runs of a state
pub count_runs : (st : State) (xs : List ℕ) → frame_count (map (run_in st) xs) ≡ length (flat (map (ring st) xs))
count_runs st [] = refl
count_runs st (x ∷ xs) = omega (arith, length-append (ring st x) (flat (map (ring st) xs)), length-map (ring st x) (frame_in st), count_runs st xs)

module _ (st : State) (S : Working (view st)) where
  pub runs-live : length (runs_in st) ≡ st.head.shared.live
  unfolding runs_in canonical_classes
  runs-live = length-map (lowest_slots st) (run_in st) ∙ sym (length-map (lowest_slots st) (class_of st.elems)) ∙ listed_live S.shared (canonical_classes st) (classes_listed st S)

  pub frames-live : frame_count (runs_in st) ≡ st.head.elems.live
  unfolding runs_in canonical_frames
  frames-live = count_runs st (lowest_slots st) ∙ listed_live S.elems (canonical_frames st) (frames_listed st S)

  -- the head's live numbers tell the length
  pub bytes-live : (v : ℕ) → length (bytes_in v st) ≡ 8 + st.head.shared.live * 28 + st.head.elems.live * frame_length v
  bytes-live v = file-length v (runs_in st) ∙ rw (runs-live, frames-live)
