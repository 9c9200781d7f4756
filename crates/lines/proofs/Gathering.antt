-- A line gathered from a block: its bytes are kept while there is room, up to a newline.
use Prim.Native.Nat.{ℕ, ◌+◌, ◌-◌, ◌≤◌, ◌<◌, min}
use mathlib.Core.Path.{◌≡◌, refl, sym, ap, ◌∙◌}
use mathlib.Core.List.{List, ◌++◌, append-nil}
use native.Mathlib.Decide.{dec_lt, dec_le}
use native.Mathlib.Omega.{arith}
use lib.ListN.{length, take, drop, length-append}
use lib.Seq.{sets-eq, take_all, take_at, take-append-le, take-append-add, length-take-le}
use Rattle.told.specs.Put.{Put}
use Rattle.lines.specs.Stream.{Holds, Keeps}

pub put-take : (before after bytes : List ℕ) (at next : ℕ) → Put before at bytes after next → next ≤ length before → take next after ≡ take at before ++ bytes
put-take before after bytes at next p h =
    let n : at + length bytes ≤ length before = omega (arith, p.past) in
    let e : after ≡ (take at before ++ bytes) ++ drop (at + length bytes) before =
    p.written ∙ sets-eq bytes before at n in
    rw e (take_at (take at before ++ bytes) (drop (at + length bytes) before) next
    (simp length-append (omega (arith, p.past, length-take-le at before (omega arith)))))

-- ---- a part more

module _ (line : List ℕ) (held : ℕ) (bytes : List ℕ) (h : Holds line held bytes) where
  -- while there is room, all bytes are held
  pub all_held : held < length line → (take held line ≡ bytes) × (held ≡ length bytes)
  all_held l = go (dec_lt (length line) (length bytes))
    where
      n : length (take held line) ≡ held
      n = length-take-le held line h.within

      go : Dec (length line < length bytes) → (take held line ≡ bytes) × (held ≡ length bytes)
      go (yes m) = absurd (omega (arith, ap length h.same, n, length-take-le (length line) bytes (omega arith)))
      go (no m) = let e : take held line ≡ bytes = h.same ∙ take_all (length line) bytes (omega arith) in (e, sym n ∙ ap length e)

  -- and else as many as there is room for
  none_lost : length line ≤ held → length line ≤ length bytes
  none_lost l = go (dec_lt (length bytes) (length line))
    where
      n : length (take held line) ≡ held
      n = length-take-le held line h.within

      go : Dec (length bytes < length line) → length line ≤ length bytes
      go (yes m) = omega (arith, n, ap length (h.same ∙ take_all (length line) bytes (omega arith)))
      go (no m) = omega arith

module _ (line part : List ℕ) (held kept : ℕ) (within : held ≤ length line) (some_kept : kept ≡ min (length part) (length line - held)) where
  -- what is held of a line and a part more of it
  kept_of : (bytes : List ℕ) → Holds line held bytes → take held line ++ take kept part ≡ take (length line) (bytes ++ part)
  kept_of bytes h = go (dec_lt held (length line))
    where
      part_kept : Dec (length part ≤ length line - held) → take kept part ≡ take (length line - held) part
      part_kept (yes m) = take_all kept part (omega arith) ∙ sym (take_all (length line - held) part m)
      part_kept (no m) = let e : kept ≡ length line - held = omega arith in rw e refl

      go : Dec (held < length line) → take held line ++ take kept part ≡ take (length line) (bytes ++ part)
      go (yes l) =
          let a = all_held line held bytes h l in
          let n : length bytes + (length line - held) ≡ length line = omega arith in
          ap (λ (xs : List ℕ). xs ++ take kept part) a.0 ∙ ap (λ (xs : List ℕ). bytes ++ xs) (part_kept (dec_le (length part) (length line - held)))
          ∙ sym (take-append-add bytes part (length line - held)) ∙ ap (λ (m : ℕ). take m (bytes ++ part)) n
      go (no l) =
          let none : kept ≡ 0 = omega arith in
          rw (none, append-nil) (h.same ∙ sym (take-append-le (length line) bytes part (none_lost line held bytes h (omega arith))))

  pub held_part : (after : List ℕ) (r : ℕ) → length after ≡ length line → Put line held (take kept part) after r → Keeps line held part after r
  held_part after r e p =
      let n : length (take kept part) ≡ kept = length-take-le kept part (omega arith) in
      let room : r ≤ length line = omega (arith, p.past) in
      record {
        long = e;
        within = room;
        holds = λ bytes h. record { within = omega arith; same = put-take line after (take kept part) held r p room ∙ rw e (kept_of bytes h) };
      }
