-- The tables whole, with zeros past what was stored; and the call: refused with nothing changed, or accepted with both tables built.
use Rattle.std.specs.Prelude.{None, Some, Ok, Err}
use mathlib.Core.Path.{◌≡◌, refl, sym, ap, ◌∙◌, subst}
use mathlib.Core.Bool.{true, false}
use mathlib.Core.List.{List, [], map}
use Prim.Native.Nat.{ℕ, suc, ◌+◌, ◌*◌, ◌≤◌, ◌<◌}
use native.Mathlib.Omega.{arith}
use native.Mathlib.Decide.{dec_lt}
use native.Mathlib.Nat.{mul-le-mul_right}
use borrow.Author.Tests.{le-leb, lt-leb, eq-eqb, ne_eqb}
use lib.ListN.{length, get_or, drop, get_or-append}
use lib.Seq.{sets, sets-eq, length-sets, ext_get_or}
use Rattle.rules.specs.declared.Pool.{Pool}
use Rattle.rules.specs.declared.Refusal.TheVariants.{Shape, NoElement, NoShared, NoFile, Version}
use Rattle.rules.specs.Notation.{flat}
use Rattle.rules.specs.Tables.{most_slots, frame_width, header_width, blank, State, state_of}
use Rattle.rules.specs.Refusals.{refuse, answer, outcome, shaped}
use Rattle.rules.specs.Answers.{no_values, after}
use Rattle.rules.specs.Compress.{padded, packed_in}
use Rattle.rules.specs.Bytes.{value}
use Rattle.rules.specs.RunFile.{StoredRun, frame_count, Parsed, departs, holds, parse}
use Rattle.rules.specs.ReadFile.{read_header, read_runs, read_tables, into_room, read_file, old_reader, read_step, held_in}
use Rattle.rules.proofs.Laws.Places.{padded-long, padded-past, rows_long}
use Rattle.rules.proofs.Laws.ReadCells.{runs-long}
use Rattle.rules.proofs.Laws.Soundness.{Shaped, shaped_of}
use Rattle.copies.specs.Parts.{Zeroed}
use Rattle.file_checks.specs.declared.Held.{Held}
use Rattle.file_checks.specs.Said.{said_parsed}
use Rattle.file_reads.specs.Fills.{held, Fillable, Buildable}
use Rattle.file_reads.proofs.Standing.{parse_stands}

-- `n` rows stored at the start of a table of `m`, and zeros past them
pub zeros-past : (w n m : ℕ) (t rows t' : List ℕ) → length rows ≡ n * w → n ≤ m → length t ≡ m * w → Zeroed (sets t 0 rows) (n * w) (m * w) t' → t' ≡ padded (m * w) rows
unfolding padded
zeros-past w n m t rows t' l h k Z = ext_get_or 0 t' (padded (m * w) rows) (long ∙ sym (padded-long w n rows l m h)) at
  where
    long : length t' ≡ m * w
    long = Z.long ∙ length-sets t 0 rows ∙ k

    at : (i : ℕ) → i < length t' → get_or t' i 0 ≡ get_or (padded (m * w) rows) i 0
    at i b = go (dec_lt i (n * w))
      where
        go : Dec (i < n * w) → get_or t' i 0 ≡ get_or (padded (m * w) rows) i 0
        go (yes y) =
            Z.below i y ∙ ap (λ (x : List ℕ). get_or x i 0) (sets-eq rows t 0 (omega (arith, l, k, mul-le-mul_right w h))) ∙ get_or-append rows (drop (0 + length rows) t) 0 i (omega (arith, l))
            ∙ sym (get_or-append rows _ 0 i (omega (arith, l)))
        go (no y) = Z.within i (omega arith) (omega (arith, long)) ∙ sym (padded-past w n rows l (m * w) i (omega arith))

-- ---- both tables
module _ (st : State) (b : List ℕ) (runs frames : ℕ) (B : Buildable st b runs frames) where
  abbrev rs : List StoredRun
  rs = held b

  H : Shaped st
  H = shaped_of st B.shape

  pub record Room : Type 0 where
    pub elems : frames * frame_width ≤ st.head.elems.capacity * frame_width
    pub shared : runs * header_width ≤ st.head.shared.capacity * header_width
    pub elems-long : length st.elems ≡ st.head.elems.capacity * frame_width
    pub shared_long : length st.shared ≡ st.head.shared.capacity * header_width
    pub elems-most : st.head.elems.capacity ≤ most_slots
    pub shared-most : st.head.shared.capacity ≤ most_slots

  pub room : Room
  room =
      record { elems = mul-le-mul_right frame_width B.elems; shared = mul-le-mul_right header_width B.shared; elems-long = H.elems.long; shared_long = H.shared.long; elems-most = H.elems.small; shared-most = H.shared.small }

  pub fillable : Fillable b st.elems st.shared
  fillable =
      record {
        standing = B.standing;
        contents = B.contents;
        elems = omega (arith, B.frames_are, room.elems, room.elems-long);
        shared = omega (arith, B.runs_are, room.shared, room.shared_long);
        frames = omega (arith, B.frames_are, B.elems, room.elems-most);
        runs = omega (arith, B.runs_are, B.shared, room.shared-most);
      }

  pub elems_reach : (e : List ℕ) → e ≡ sets st.elems 0 (read_runs 1 0 (held b)) → st.head.elems.capacity * frame_width ≤ length e
  elems_reach e q = omega (arith, room.elems-long, ap length q, length-sets st.elems 0 (read_runs 1 0 rs))

  pub shared_reach : (s : List ℕ) → s ≡ sets st.shared 0 (flat (map read_header (held b))) → st.head.shared.capacity * header_width ≤ length s
  shared_reach s q = omega (arith, room.shared_long, ap length q, length-sets st.shared 0 (flat (map read_header rs)))

  pub built : (p q : Pool) (e₁ s₁ e s : List ℕ) → p ≡ packed_in st.head.elems.capacity frames → q ≡ packed_in st.head.shared.capacity runs
      → (e₁ ≡ sets st.elems 0 (read_runs 1 0 (held b))) × (s₁ ≡ sets st.shared 0 (flat (map read_header (held b))))
      → Zeroed e₁ (frames * frame_width) (st.head.elems.capacity * frame_width) e → Zeroed s₁ (runs * header_width) (st.head.shared.capacity * header_width) s
      → state_of (record { elems = p; shared = q; generation = 1; undo = blank }) e s ≡ read_tables st.head.elems.capacity st.head.shared.capacity (held b)
  unfolding read_tables
  built p q e₁ s₁ e s ep eq (ee, es) E S =
      let x : e ≡ padded (st.head.elems.capacity * frame_width) (read_runs 1 0 rs) =
      zeros-past frame_width frames st.head.elems.capacity st.elems (read_runs 1 0 rs) e (runs-long 1 0 rs ∙ ap (λ (n : ℕ). n * frame_width) (sym B.frames_are)) B.elems H.elems.long
      (subst (λ (t : List ℕ). Zeroed t (frames * frame_width) (st.head.elems.capacity * frame_width) e) ee E) in
      let y : s ≡ padded (st.head.shared.capacity * header_width) (flat (map read_header rs)) =
      zeros-past header_width runs st.head.shared.capacity st.shared (flat (map read_header rs)) s (rows_long (record { value = 0; frames = [] }) header_width read_header (λ r. refl) rs ∙ ap (λ (n : ℕ). n * header_width) (sym B.runs_are)) B.shared H.shared.long
      (subst (λ (t : List ℕ). Zeroed t (runs * header_width) (st.head.shared.capacity * header_width) s) es S) in
      let u : p ≡ packed_in st.head.elems.capacity (frame_count rs) = ep ∙ ap (packed_in st.head.elems.capacity) B.frames_are in
      let v : q ≡ packed_in st.head.shared.capacity (length rs) = eq ∙ ap (packed_in st.head.shared.capacity) B.runs_are in
      λ j. state_of (record { elems = u j; shared = v j; generation = 1; undo = blank }) (x j) (y j)

-- ---- the call, by its ways
-- what the first pass told
pub told : (b : List ℕ) (h : Held) → Some h ≡ said_parsed (parse 1 b) → (parse 1 b ≡ holds (held b)) × (h.runs ≡ length (held b)) × (h.frames ≡ frame_count (held b))
told b h e = go (parse 1 b) e
  where
    go : (p : Parsed) → Some h ≡ said_parsed p → (p ≡ holds (held_in p)) × (h.runs ≡ length (held_in p)) × (h.frames ≡ frame_count (held_in p))
    go departs e = cc
    go (holds rs) e = (refl, cc, cc)

pub untold : (b : List ℕ) → None ≡ said_parsed (parse 1 b) → parse 1 b ≡ departs
untold b e = go (parse 1 b) e
  where
    go : (p : Parsed) → None ≡ said_parsed p → p ≡ departs
    go departs e = refl
    go (holds rs) e = cc

module _ (st : State) (b : List ℕ) where
  pub read_1 : shaped st ≡ false → after no_values st.head (Err Shape) st.elems st.shared [] ≡ read_step st b
  unfolding read_file
  read_1 s = rw s

  module _ (s : shaped st ≡ true) where
    pub read_short : length b < 8 → after no_values st.head (Err NoFile) st.elems st.shared [] ≡ read_step st b
    unfolding read_file
    read_short l = rw (s, le-leb (suc (length b)) 8 l)

    module _ (l : 8 ≤ length b) where
      pub read_11 : (value 4 b ≡ 1 → ⊥) → after no_values st.head (Err Version) st.elems st.shared [] ≡ read_step st b
      unfolding read_file
      read_11 f = rw (s, lt-leb (suc (length b)) 8 (omega arith), ne_eqb (value 4 b) 1 f)

      module _ (v : value 4 b ≡ 1) where
        known : read_file old_reader st b ≡ into_room st.head.elems.capacity st.head.shared.capacity (parse 1 b)
        unfolding read_file
        known = rw (s, lt-leb (suc (length b)) 8 (omega arith), eq-eqb (value 4 b) 1 v, v)

        pub read_9 : None ≡ said_parsed (parse 1 b) → after no_values st.head (Err NoFile) st.elems st.shared [] ≡ read_step st b
        unfolding into_room
        read_9 e = rw (known, untold b e)

        module _ (c : Held) (t : Some c ≡ said_parsed (parse 1 b)) where
          T : (parse 1 b ≡ holds (held b)) × (c.runs ≡ length (held b)) × (c.frames ≡ frame_count (held b))
          T = told b c t

          pub read_6 : st.head.shared.capacity < c.runs → after no_values st.head (Err NoShared) st.elems st.shared [] ≡ read_step st b
          unfolding into_room
          read_6 h =
              let e : into_room st.head.elems.capacity st.head.shared.capacity (holds (held b)) ≡ refuse NoShared = rw (le-leb (suc st.head.shared.capacity) (length (held b)) (omega (arith, h, T.1))) in
              sym (ap (outcome st []) (known ∙ ap (into_room st.head.elems.capacity st.head.shared.capacity) T.0 ∙ e))

          module _ (h : c.runs ≤ st.head.shared.capacity) where
            pub read_5 : st.head.elems.capacity < c.frames → after no_values st.head (Err NoElement) st.elems st.shared [] ≡ read_step st b
            unfolding into_room
            read_5 k =
                let e : into_room st.head.elems.capacity st.head.shared.capacity (holds (held b)) ≡ refuse NoElement =
                rw (lt-leb (suc st.head.shared.capacity) (length (held b)) (omega (arith, h, T.1)), le-leb (suc st.head.elems.capacity) (frame_count (held b)) (omega (arith, k, T.2))) in
                sym (ap (outcome st []) (known ∙ ap (into_room st.head.elems.capacity st.head.shared.capacity) T.0 ∙ e))

            module _ (k : c.frames ≤ st.head.elems.capacity) where
              pub buildable : Buildable st b c.runs c.frames
              buildable =
                  let p = parse_stands b (held b) l T.0 in
                  record { shape = s; standing = p.0; contents = p.1; runs_are = T.1; frames_are = T.2; shared = h; elems = k }

              pub read_done : (now : State) → now ≡ read_tables st.head.elems.capacity st.head.shared.capacity (held b)
                  → after no_values st.head (Ok (record { head = now.head; answer = tt; over = false })) now.elems now.shared [] ≡ read_step st b
              unfolding into_room
              read_done now q =
                  let e : into_room st.head.elems.capacity st.head.shared.capacity (holds (held b)) ≡ answer [] (read_tables st.head.elems.capacity st.head.shared.capacity (held b)) =
                  rw (lt-leb (suc st.head.shared.capacity) (length (held b)) (omega (arith, h, T.1)), lt-leb (suc st.head.elems.capacity) (frame_count (held b)) (omega (arith, k, T.2))) in
                  ap (λ (x : State). outcome st [] (answer [] x)) q ∙ sym (ap (outcome st []) (known ∙ ap (into_room st.head.elems.capacity st.head.shared.capacity) T.0 ∙ e))
