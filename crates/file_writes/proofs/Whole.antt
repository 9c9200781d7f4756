-- The whole file, and the call by its two ways.
use Prim.Native.Nat.{ℕ, suc, ◌+◌, ◌*◌, ◌≤◌, ◌<◌}
use mathlib.Core.Path.{◌≡◌, refl, sym, ap, ◌∙◌}
use mathlib.Core.Bool.{false}
use mathlib.Core.List.{List, [], ◌∷◌, ◌++◌, append_assoc}
use native.Mathlib.Omega.{arith}
use borrow.Author.Tests.{le-leb, lt-leb}
use lib.ListN.{length, drop, length-append}
use lib.Seq.{sets}
use Rattle.rules.specs.declared.Refusal.TheVariants.{Short}
use Rattle.rules.specs.Tables.{most_slots, State}
use Rattle.rules.specs.Refusals.{outcome, said_accepted, refuse}
use Rattle.rules.specs.Bytes.{little}
use Rattle.rules.specs.RunFile.{StoredRun, entries, entry_bytes, after_version, file}
use Rattle.rules.specs.WriteFile.{runs_in, bytes_in, write_file}
use Rattle.rules.specs.Calls as calls
use Rattle.rules.specs.Calls.{Ready, step}
use Rattle.rules.proofs.Laws.Numbers.{length-little}
use Rattle.rules.proofs.Laws.FileLength.{length-each, length-entry, length-entries, length-bodies, runs-live, frames-live, bytes-live}
use Rattle.rules.proofs.Laws.Safe.{safe, working}
use Rattle.std.proofs.lemmas.List.Edits.{sets-eq}
use Rattle.file_writes.specs.Writes.{bodies_of, entries_of, FitsAll, Filled}
use Rattle.file_writes.proofs.Frames.{sets_then}

pub fits-still : {st : State} {start : ℕ} {out : List ℕ} → FitsAll st start out → (after : List ℕ) → length after ≡ length out → FitsAll st start after
fits-still f after e = record { contents = f.contents; bodies = omega (arith, f.bodies, e) }

-- the live numbers are small, and tell the room that is needed
module _ (st : State) (R : Ready st) where
  pub runs-small : st.head.shared.live ≤ most_slots
  runs-small = let s = safe st R in omega (arith, s.shared.pool.live, s.shared.pool.within, s.shared.pool.small)

  pub frames_small : st.head.elems.live ≤ most_slots
  frames_small = let s = safe st R in omega (arith, s.elems.pool.live, s.elems.pool.within, s.elems.pool.small)

  pub classes-small : st.head.shared.extent ≤ most_slots
  classes-small = let s = safe st R in omega (arith, s.shared.pool.within, s.shared.pool.small)

  pub all_fit : (out : List ℕ) → 8 + st.head.shared.live * 28 + st.head.elems.live * 12 ≤ length out → FitsAll st (8 + st.head.shared.live * 8) out
  all_fit out h =
      let W = working st R in
      let n : length (runs_in st) ≡ st.head.shared.live = runs-live st W in
      record { contents = omega arith; bodies = omega (arith, length-bodies 1 (runs_in st), n, frames-live st W) }

  module _ (l l₁ l₂ l₃ : List ℕ) (one : l₁ ≡ sets l 0 (little 4 1)) (two : l₂ ≡ sets l₁ 4 (little 4 st.head.shared.live)) (three : Filled st (8 + st.head.shared.live * 8) l₂ l₃) where
    pub file-written : l₃ ≡ sets l 0 (bytes_in 1 st)
    unfolding file after_version
    file-written =
        let rs : List StoredRun = runs_in st in
        let m : ℕ = st.head.shared.live in
        let n : length rs ≡ m = runs-live st (working st R) in
        let a : List ℕ = little 4 1 in
        let b : List ℕ = little 4 m in
        let c : List ℕ = entries_of (8 + m * 8) rs in
        let d : List ℕ = bodies_of rs in
        let ab : length (a ++ b) ≡ 8 = omega (arith, length-append a b, length-little 4 1, length-little 4 m) in
        let abc : length (a ++ b ++ c) ≡ 8 + m * 8 = omega (arith, length-append (a ++ b) c, ab, length-each 8 entry_bytes length-entry (entries 1 (8 + m * 8) rs), length-entries 1 (8 + m * 8) rs, n) in
        let p : l₂ ≡ sets l 0 (a ++ b) = sets_then l l₁ l₂ 0 4 a b (length-little 4 1) one two in
        let q : sets l₂ 8 c ≡ sets l 0 (a ++ b ++ c) = sets_then l l₂ (sets l₂ 8 c) 0 8 (a ++ b) c ab p refl in
        let z : 0 + (8 + m * 8) ≡ 8 + m * 8 = omega arith in
        let r : l₃ ≡ sets l 0 (a ++ b ++ c ++ d) = sets_then l (sets l₂ 8 c) l₃ 0 (8 + m * 8) (a ++ b ++ c) d abc q (three ∙ ap (λ (y : ℕ). sets (sets l₂ 8 c) y d) (sym z)) in
        let flatten : a ++ b ++ c ++ d ≡ a ++ (b ++ c ++ d) = simp append_assoc in
        r ∙ rw n (ap (sets l 0) flatten)

  -- 7, and the call done
  pub write_7 : (lent : List ℕ) → length lent < 8 + st.head.shared.live * 28 + st.head.elems.live * 12 → outcome st lent (refuse Short) ≡ step st lent calls.write_file
  unfolding write_file
  write_7 lent h = let e : length (bytes_in 1 st) ≡ 8 + st.head.shared.live * 28 + st.head.elems.live * 12 = bytes-live st (working st R) 1 in rw (e, le-leb _ _ h)

  pub write_done : (lent out : List ℕ) (long : ℕ) → long ≡ 8 + st.head.shared.live * 28 + st.head.elems.live * 12 → long ≤ length lent → out ≡ sets lent 0 (bytes_in 1 st)
      → record { said = said_accepted (long ∷ []) false; state = st; lent = out } ≡ step st lent calls.write_file
  unfolding write_file
  write_done lent out long el h q =
      let e : length (bytes_in 1 st) ≡ 8 + st.head.shared.live * 28 + st.head.elems.live * 12 = bytes-live st (working st R) 1 in
      let s : length (bytes_in 1 st) < suc (length lent) = omega arith in
      let z : 0 + length (bytes_in 1 st) ≡ length (bytes_in 1 st) = omega arith in
      let w : out ≡ bytes_in 1 st ++ drop (length (bytes_in 1 st)) lent = q ∙ sets-eq (bytes_in 1 st) lent 0 (rw z (omega arith)) ∙ ap (λ (k : ℕ). bytes_in 1 st ++ drop k lent) z in
      rw (lt-leb _ _ s, w, el, ← e)
