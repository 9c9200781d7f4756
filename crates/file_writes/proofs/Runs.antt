-- The runs of a ready state, stored one after another: bodies, contents, and the file.
use Prim.Native.Nat.{ℕ, ◌+◌, ◌*◌, ◌≤◌, ◌<◌}
use mathlib.Core.Path.{◌≡◌, refl, sym, ap, ◌∙◌, subst}
use mathlib.Core.List.{List, [], ◌∷◌, ◌++◌, map}
use native.Mathlib.Omega.{arith}
use lib.ListN.{length, length-append, length-map}
use lib.Seq.{sets}
use Rattle.rules.specs.Notation.{sum, flat}
use Rattle.rules.specs.Tables.{most_slots, frame_width, header_width, payload_of, class_of, next_of, bytes_of, count_of, value_of, total_of, State, size_at}
use Rattle.rules.specs.Drains.{ring}
use Rattle.rules.specs.Bytes.{little}
use Rattle.rules.specs.RunFile.{total, frame_length, frame_bytes, body_bytes, body_length}
use Rattle.rules.specs.WriteFile.{frame_in, run_in}
use Rattle.rules.specs.Calls.{Ready}
use Rattle.rules.proofs.Laws.Numbers.{length-little}
use Rattle.rules.proofs.Laws.Steps.{length-along}
use Rattle.rules.proofs.Laws.Working.{view, total-ring}
use Rattle.rules.proofs.Laws.Soundness.{ring-at}
use Rattle.rules.proofs.Laws.Safe.{safe, working, LiveSlot}
use Rattle.slots.specs.Asked.{Cell, Along}
use Rattle.slots.proofs.Live.{live_in, header_in, all_in}
use Rattle.file_writes.specs.Writes.{frames_along}
use Rattle.file_writes.proofs.Frames.{sets_then}

-- ---- a body

map-same : (st : State) (xs : List ℕ) → flat (map (λ s. frame_bytes 1 (record { payload = payload_of st.elems s; size = bytes_of st.elems s })) xs) ≡ flat (map (frame_bytes 1) (map (frame_in st) xs))
map-same st [] = refl
map-same st (x ∷ xs) = ap (λ (l : List ℕ). frame_bytes 1 (frame_in st x) ++ l) (map-same st xs)

map-map : (e : List ℕ) (st : State) → st.elems ≡ e → (xs : List ℕ) → flat (map (λ s. frame_bytes 1 (record { payload = payload_of e s; size = bytes_of e s })) xs) ≡ flat (map (frame_bytes 1) (map (frame_in st) xs))
map-map e st q xs = subst (λ (e : List ℕ). flat (map (λ s. frame_bytes 1 (record { payload = payload_of e s; size = bytes_of e s })) xs) ≡ flat (map (frame_bytes 1) (map (frame_in st) xs))) q (map-same st xs)

pub run_length : (st : State) (x : ℕ) → length (run_in st x).frames ≡ size_at st x
run_length st x = length-map (ring st x) (frame_in st) ∙ length-along (next_of st.elems) (size_at st x) x

total_of_lem : (st : State) (xs : List ℕ) → total (map (frame_in st) xs) ≡ sum (map (bytes_of st.elems) xs)
total_of_lem st [] = refl
total_of_lem st (x ∷ xs) = ap (λ (n : ℕ). bytes_of st.elems x + n) (total_of_lem st xs)

module _ (st : State) (R : Ready st) (x : ℕ) (live : LiveSlot st x) where
  pub run-total : total_of st.shared (class_of st.elems x) ≡ total (run_in st x).frames
  run-total = total-ring (view st) (working st R) (class_of st.elems x) x (ring-at (view st) (working st R) x (omega (arith, live.used))) ∙ sym (total_of_lem st (ring st x))

  pub body-written : (l l₁ l₂ l₃ l₄ : List ℕ) (class value sum count : ℕ) → class ≡ class_of st.elems x
      → count ≡ count_of st.shared class → value ≡ value_of st.shared class → sum ≡ total_of st.shared class
      → l₁ ≡ sets l 0 (little 8 value) → l₂ ≡ sets l₁ 8 (little 8 sum) → l₃ ≡ sets l₂ 16 (little 4 count) → l₄ ≡ sets l₃ 20 (frames_along st.elems count x)
      → l₄ ≡ sets l 0 (body_bytes 1 (run_in st x))
  unfolding body_bytes
  body-written l l₁ l₂ l₃ l₄ class value sum count ec en ev es one two three four =
      let a = little 8 value in
      let b = little 8 sum in
      let c = little 4 count in
      let d = frames_along st.elems count x in
      let ab : length (a ++ b) ≡ 16 = omega (arith, length-append a b, length-little 8 value, length-little 8 sum) in
      let abc : length (a ++ b ++ c) ≡ 20 = omega (arith, length-append (a ++ b) c, ab, length-little 4 count) in
      let p : l₂ ≡ sets l 0 (a ++ b) = sets_then l l₁ l₂ 0 8 a b (length-little 8 value) one two in
      let q : l₃ ≡ sets l 0 (a ++ b ++ c) = sets_then l l₂ l₃ 0 16 (a ++ b) c ab p three in
      let r : l₄ ≡ sets l 0 (a ++ b ++ c ++ d) = sets_then l l₃ l₄ 0 20 (a ++ b ++ c) d abc q four in
      let n : count ≡ size_at st x = en ∙ ap (count_of st.shared) ec in
      let t : sum ≡ total (run_in st x).frames = es ∙ ap (total_of st.shared) ec ∙ run-total in
      let v : value ≡ (run_in st x).value = ev ∙ ap (value_of st.shared) ec in
      let f : frames_along st.elems (size_at st x) x ≡ flat (map (frame_bytes 1) (run_in st x).frames) = map-map st.elems st refl (ring st x) in
      r ∙ rw (v, t, n, f, run_length st x)

  pub body-room : (class count n : ℕ) → class ≡ class_of st.elems x → count ≡ count_of st.shared class → body_length 1 (run_in st x) ≤ n → 20 + count * frame_length 1 ≤ n
  body-room class count n ec en h =
      let z : count ≡ length (run_in st x).frames = en ∙ ap (count_of st.shared) ec ∙ sym (run_length st x) in
      omega arith

  pub body_end : (class count r : ℕ) → class ≡ class_of st.elems x → count ≡ count_of st.shared class → r ≡ 20 + count * frame_length 1 → r ≡ body_length 1 (run_in st x)
  body_end class count r ec en q =
      let z : count ≡ length (run_in st x).frames = en ∙ ap (count_of st.shared) ec ∙ sym (run_length st x) in
      omega arith

  -- what is read of the run stands in the tables, and its count is small
  pub frame-cell : (f : ℕ) → f < frame_width → Cell frame_width st.elems f x
  frame-cell f h = let w = live_in st x (safe st R) live in record { some = w.some; inside = w.inside; field = h }

  pub header-cell : (f class : ℕ) → f < header_width → class ≡ class_of st.elems x → Cell header_width st.shared f class
  header-cell f class h e = let w = header_in st x (safe st R) live in record { some = omega (arith, w.some, e); inside = omega (arith, w.inside, e); field = h }

  pub count_small : (class count : ℕ) → class ≡ class_of st.elems x → count ≡ count_of st.shared class → count ≤ most_slots
  count_small class count ec en =
      let S = safe st R in
      let z : count ≡ size_at st x = en ∙ ap (count_of st.shared) ec in
      omega (arith, (S.frames x live).count_in, S.elems.pool.live, S.elems.pool.within, S.elems.pool.small)

  pub run-walk : (n : ℕ) → Along st.elems n x
  run-walk n = all_in st n x (safe st R) live
