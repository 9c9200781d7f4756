-- Ticket 11, proved: what is claimed of the run file.
use Rattle.std.specs.Prelude.{if◌then◌else◌, ◌==◌}
use mathlib.Core.Path.{◌≡◌, refl, sym, ap, ◌∙◌, subst}
use mathlib.Core.Logic.{◌≢◌, ◌⊎◌, inl, inr}
use mathlib.Core.Bool.{Bool, true, false, true≢false}
use mathlib.Core.List.{List, [], ◌∷◌, ◌++◌}
use Prim.Native.Nat.{ℕ, suc, ◌≤◌, ◌<◌}
use native.Mathlib.Omega.{arith}
use lib.ListN.{length, take, drop}
use lib.Seq.{length-take-le}
use Rattle.rules.specs.declared.Refusal.{Refusal}
use Rattle.rules.specs.declared.Refusal.TheVariants.{Shape, Unsound, Short, NoElement, NoShared, NoFile, Version}
use Rattle.rules.specs.Notation.{◌<?◌}
use Rattle.rules.specs.Tables.{header_at, mark_of, State, elem_side}
use Rattle.rules.specs.Undo.{Whole}
use Rattle.rules.specs.Refusals.{number_of, values_of, Ruling, refuse, accept, answer, Outcome, outcome, shaped, door}
use Rattle.rules.specs.Compress.{canonical_frames, canonical_classes, renumbered_in}
use Rattle.rules.specs.Calls.{write_file, ruling, Ready, Is, AtDoor}
use Rattle.rules.specs.Exact.{Some}
use Rattle.rules.specs.TwoTables.{give◌when◌else◌, accepted}
use Rattle.rules.specs.Bytes.{value, limit, Bytes}
use Rattle.rules.specs.RunFile.{StoredRun, file, departs, holds, parse, frame_count, Fits}
use Rattle.rules.specs.WriteFile
use Rattle.rules.specs.WriteFile.{runs_in, bytes_in}
use Rattle.rules.specs.ReadFile.{read_tables, is_in, read_file}
use Rattle.rules.specs.Filing.{Stores, ReadGives, ReadInto, Reads, file_length, WriteGives, Writes, Words, compressed_into, Unsealed, Filing}
use Rattle.rules.proofs.Laws.Tests.{eq_is, le_is}
use Rattle.rules.proofs.Laws.Sides.{live_of}
use Rattle.rules.proofs.Laws.Working.{view}
use Rattle.rules.proofs.Laws.Safe.{working}
use Rattle.rules.proofs.Laws.Numbers.{value-little, value-take}
use Rattle.rules.proofs.Laws.Copying.{capacities}
use Rattle.rules.proofs.Laws.FileLength.{file-length, runs-live, frames-live, bytes-live}
use Rattle.rules.proofs.Laws.FileFits.{file-most, runs_have_room}
use Rattle.rules.proofs.Laws.RoundTrip.{bytes-file, parse-file, file-parse, cut}
use Rattle.rules.proofs.Laws.ReadCells.{header-cell}
use Rattle.rules.proofs.Laws.ReadSound.{Readable, readable, gen_at, by-frame, by-header, read_works, read-ready}
use Rattle.rules.proofs.Laws.ReadRuns.{read-holds}
use Rattle.rules.proofs.Laws.ReadRules.{Known, Holds, Ruled, misshapen, short, unknown, departed, crowded, full, taken, ruled}
use Rattle.rules.proofs.Laws.ReadBack.{back_head, back_elems, back-header, back_whole}

-- ---- which versions are known
in_is : (n : ℕ) (ms : List ℕ) → Is (Some (λ m. n ≡ m) ms) (is_in n ms)
in_is n [] = λ h. h
in_is n (m ∷ ms) = go (n == m) (eq_is n m) (is_in n ms) (in_is n ms)
  where
    go : (a : Bool) → Is (n ≡ m) a → (b : Bool) → Is (Some (λ m. n ≡ m) ms) b → Is (Some (λ m. n ≡ m) (m ∷ ms)) (if a then true else b)
    go true e b q = inl e
    go false e true q = inr q
    go false e false q = either
      where
        either : (n ≡ m) ⊎ Some (λ m. n ≡ m) ms → ⊥
        either (inl p) = e p
        either (inr p) = q p

in_some : (n : ℕ) (ms : List ℕ) → is_in n ms ≡ true → Some (λ m. n ≡ m) ms
in_some n ms e = subst (λ (b : Bool). Is (Some (λ m. n ≡ m) ms) b) e (in_is n ms)

in_none : (n : ℕ) (ms : List ℕ) → is_in n ms ≡ false → Some (λ m. n ≡ m) ms → ⊥
in_none n ms e = subst (λ (b : Bool). Is (Some (λ m. n ≡ m) ms) b) e (in_is n ms)

-- ---- a file and its runs
stores_parse : (b : List ℕ) (rs : List StoredRun) → Stores b rs → parse (value 4 b) b ≡ holds rs
stores_parse b rs s = ap (parse (value 4 b)) s.1 ∙ parse-file (value 4 b) rs s.0

held : (rs qs : List StoredRun) → holds rs ≡ holds qs → rs ≡ qs
held rs qs e = cc

holds_stores : (known : List ℕ) (st : State) (b : List ℕ) (rs : List StoredRun) → Bytes b → Holds known st b rs → Stores b rs
holds_stores known st b rs k H = let w = file-parse (value 4 b) b rs k (omega (arith, H.first.long)) refl H.runs in (w.fits, w.same)

stores_once : (b : List ℕ) (rs qs : List StoredRun) → Stores b rs → Stores b qs → rs ≡ qs
stores_once b rs qs s t = held rs qs (sym (stores_parse b rs s) ∙ stores_parse b qs t)

never : (rs : List StoredRun) → departs ≡ holds rs → ⊥
never rs e = let z : ◌≡◌ {A = ℕ} 0 1 = cc in omega arith

-- ---- what an accepted read leaves
module _ (a b : ℕ) (rs : List StoredRun) (R : Readable a b rs) where
  marks-none : (c : ℕ) → mark_of (read_tables a b rs).shared c ≡ 0
  marks-none = by-header a b rs R (λ c. mark_of (read_tables a b rs).shared c ≡ 0) (λ k h. header-cell a b rs k header_at.mark (omega arith) h) (λ d z. z header_at.mark (omega arith))

  stays-canonical : renumbered_in a b (read_tables a b rs) (canonical_frames (read_tables a b rs)) (canonical_classes (read_tables a b rs)) 1 ≡ read_tables a b rs
  stays-canonical =
      let st = read_tables a b rs in
      let W = read_works a b rs R in
      let same : read_tables a b (runs_in st) ≡ st = ap (read_tables a b) (read-holds a b rs R) in
      let back : read_tables a b (runs_in st) ≡ renumbered_in a b st (canonical_frames st) (canonical_classes st) 1 = λ i. record { head = back_head st W a b i; elems = back_elems st W a b i; shared = back_whole st W a b marks-none i } in
      sym back ∙ same

read-into : (st : State) (rs : List StoredRun) → shaped st ≡ true → Readable st.head.elems.capacity st.head.shared.capacity rs → ReadInto st rs (read_tables st.head.elems.capacity st.head.shared.capacity rs)
unfolding read_tables
read-into st rs e R =
    let a : ℕ = st.head.elems.capacity in
    let b : ℕ = st.head.shared.capacity in
    let now = read_tables a b rs in
    record {
      ready = read-ready a b rs R (capacities st e);
      runs = read-holds a b rs R;
      canonical = stays-canonical a b rs R;
      unsealed = marks-none a b rs R;
      generation = refl;
      generations = λ s f. by-frame a b rs R (λ s. (view now).gen s ≡ 1) (gen_at a b rs R) s (live_of (elem_side now) s f).used;
      elems = refl;
      shared = refl;
      undo = refl;
    }

-- THE READER
module _ (known : List ℕ) (st : State) (b : List ℕ) (k : Bytes b) where
  abbrev elems : ℕ
  elems = st.head.elems.capacity

  abbrev shared : ℕ
  shared = st.head.shared.capacity

  shape-not : shaped st ≡ true → shaped st ≡ false → ⊥
  shape-not e f = true≢false (sym e ∙ f)

  -- past the version; past the runs
  abbrev Room : ℕ → Type 0
  Room =
      give 6 when ((rs : List StoredRun) × Stores b rs × (st.head.shared.capacity < length rs)) else
      give 5 when ((rs : List StoredRun) × Stores b rs × (st.head.elems.capacity < frame_count rs)) else
      accepted

  known_gives : (n : ℕ) → Known known st b → (give 9 when ((rs : List StoredRun) → Stores b rs → ⊥) else Room) n → ReadGives known st b n
  known_gives n K g = inr (shape-not K.shape, inr ((λ l. omega (arith, l, K.long)), inr ((λ f. f (in_some (value 4 b) known K.version)), g)))

  holds-gives : (n : ℕ) (rs : List StoredRun) → Holds known st b rs → Room n → ReadGives known st b n
  holds-gives n rs H g = known_gives n H.first (inr ((λ f. f rs (holds_stores known st b rs k H)), g))

  not_crowded : (rs : List StoredRun) → Holds known st b rs → length rs ≤ st.head.shared.capacity → (qs : List StoredRun) × Stores b qs × (st.head.shared.capacity < length qs) → ⊥
  not_crowded rs H l q = omega (arith, l, q.2, ap length (stores_once b q.0 rs q.1 (holds_stores known st b rs k H)))

  not_full : (rs : List StoredRun) → Holds known st b rs → frame_count rs ≤ st.head.elems.capacity → (qs : List StoredRun) × Stores b qs × (st.head.elems.capacity < frame_count qs) → ⊥
  not_full rs H l q = omega (arith, l, q.2, ap frame_count (stores_once b q.0 rs q.1 (holds_stores known st b rs k H)))

  -- a refusal, with its number
  no_read : (r : Refusal) (n : ℕ) → number_of r ≡ n → values_of r [] ≡ [] → ReadGives known st b n → n ≢ 0 → Reads known st b (outcome st [] (refuse r))
  no_read r n e v g z = record {
    gives = rw e g;
    values = v;
    over = refl;
    refused = λ _. refl;
    reads = λ q. absurd (z (sym e ∙ q));
    again = λ q. absurd (z (sym e ∙ q));
  }

  ruled_reads : (q : Ruling) → Ruled known st b q → Reads known st b (outcome st [] q)
  ruled_reads q (misshapen e) = no_read Shape 1 refl refl (inl (e, refl)) (λ z. omega (arith, z))
  ruled_reads q (short e l) = no_read NoFile 9 refl refl (inr (shape-not e, inl (l, refl))) (λ z. omega (arith, z))
  ruled_reads q (unknown e l i) = no_read Version 11 refl refl (inr (shape-not e, inr ((λ m. omega (arith, m, l)), inl (in_none (value 4 b) known i, refl)))) (λ z. omega (arith, z))
  ruled_reads q (departed K e) = no_read NoFile 9 refl refl (known_gives 9 K (inl ((λ rs s. never rs (sym e ∙ stores_parse b rs s)), refl))) (λ z. omega (arith, z))
  ruled_reads q (crowded rs H l) = no_read NoShared 6 refl refl (holds-gives 6 rs H (inl ((rs, holds_stores known st b rs k H, l), refl))) (λ z. omega (arith, z))
  ruled_reads q (full rs H l m) = no_read NoElement 5 refl refl (holds-gives 5 rs H (inr (not_crowded rs H l, inl ((rs, holds_stores known st b rs k H, m), refl)))) (λ z. omega (arith, z))
  ruled_reads q (taken rs H l m) =
      let s = holds_stores known st b rs k H in
      let R = readable (value 4 b) elems shared rs s.0.runs m l in
      record {
        gives = holds-gives 0 rs H (inr (not_crowded rs H l, inr (not_full rs H m, refl)));
        values = refl;
        over = refl;
        refused = λ n. absurd (n refl);
        reads = λ _. (rs, s, read-into st rs H.first.shape R);
        again = λ _. ap (file (value 4 b)) (read-holds elems shared rs R) ∙ sym s.1;
      }

  reader : Reads known st b (outcome st [] (read_file known st b))
  reader = ruled_reads (read_file known st b) (ruled known st b)

-- THE WRITER
module _ (st : State) (lent : List ℕ) where
  refused-writes : (r : Refusal) (n : ℕ) → number_of r ≡ n → WriteGives 1 st lent n → n ≢ 0 → Writes 1 st lent (outcome st lent (refuse r))
  refused-writes r n e g z = record {
    gives = rw e g;
    unchanged = refl;
    refused = λ _. refl;
    written = λ q. absurd (z (sym e ∙ q));
    answered = λ q. absurd (z (sym e ∙ q));
  }

  ready-writes : (e : shaped st ≡ true) → Whole st → Writes 1 st lent (outcome st lent (WriteFile.write_file 1 st lent))
  unfolding WriteFile.write_file
  ready-writes e w = go (length lent <? length (bytes_in 1 st)) (le_is (suc (length lent)) (length (bytes_in 1 st)))
    where
      long : length (bytes_in 1 st) ≡ file_length 1 st
      long = bytes-live st (working st (record { shape = e; sound = w.0 })) 1

      passed : (n : ℕ) → (give 7 when length lent < file_length 1 st else accepted) n → WriteGives 1 st lent n
      passed n g = inr ((λ f. true≢false (sym e ∙ f)), inr ((λ f. f w), g))

      go : (t : Bool) → Is (suc (length lent) ≤ length (bytes_in 1 st)) t → Writes 1 st lent (outcome st lent (if t then refuse Short else accept (length (bytes_in 1 st) ∷ []) false st (bytes_in 1 st)))
      go true l = refused-writes Short 7 refl (passed 7 (inl (rw long at l, refl))) (λ z. omega (arith, z))
      go false l = record {
        gives = passed 0 (inr ((λ m. l (rw long m)), refl));
        unchanged = refl;
        refused = λ n. absurd (n refl);
        written = λ _. ap (λ (n : ℕ). bytes_in 1 st ++ drop n lent) long;
        answered = λ _. ap (λ (n : ℕ). n ∷ []) long;
      }

  writer : (o : Outcome) → AtDoor st lent write_file o → Writes 1 st lent o
  unfolding door
  writer o d = subst (Writes 1 st lent) (sym d.same) (by_shape (shaped st) refl d.sound d.decided)
    where
      by_shape : (s : Bool) → shaped st ≡ s → (t : Bool) → (shaped st ≡ true → Is (Whole st) t)
          → Writes 1 st lent (outcome st lent (if s then (if t then ruling st lent write_file else refuse Unsound) else refuse Shape))
      by_shape false e t f = refused-writes Shape 1 refl (inl (e, refl)) (λ z. omega (arith, z))
      by_shape true e false f = refused-writes Unsound 2 refl (inr ((λ q. true≢false (sym e ∙ q)), inl (f e, refl))) (λ z. omega (arith, z))
      by_shape true e true f = ready-writes e (f e)

-- ---- a file that was written
module _ (v : ℕ) (rs : List StoredRun) where
  file_eight : 8 ≤ length (file v rs)
  file_eight = omega (arith, file-length v rs)

  file_version : v < limit 4 → value 4 (file v rs) ≡ v
  unfolding file
  file_version h = value-little 4 v _ h

module _ (known : List ℕ) (v : ℕ) (i : Some (λ w. v ≡ w) known) (h : v < limit 4) (rs : List StoredRun) (g : Fits v rs) (st : State) (e : shaped st ≡ true) where
  -- READING WHAT WAS WRITTEN
  read-file : length rs ≤ st.head.shared.capacity → frame_count rs ≤ st.head.elems.capacity
      → read_file known st (file v rs) ≡ answer [] (read_tables st.head.elems.capacity st.head.shared.capacity rs)
  read-file l m = go (read_file known st (file v rs)) (ruled known st (file v rs))
    where
      w : value 4 (file v rs) ≡ v
      w = file_version v rs h

      p : parse (value 4 (file v rs)) (file v rs) ≡ holds rs
      p = ap (λ (n : ℕ). parse n (file v rs)) w ∙ parse-file v rs g

      same : (qs : List StoredRun) → Holds known st (file v rs) qs → qs ≡ rs
      same qs H = held qs rs (sym H.runs ∙ p)

      go : (q : Ruling) → Ruled known st (file v rs) q → q ≡ answer [] (read_tables st.head.elems.capacity st.head.shared.capacity rs)
      go q (misshapen f) = absurd (true≢false (sym e ∙ f))
      go q (short f k) = absurd (omega (arith, k, file_eight v rs))
      go q (unknown f k n) = absurd (in_none (value 4 (file v rs)) known n (subst (λ (u : ℕ). Some (λ w. u ≡ w) known) (sym w) i))
      go q (departed K d) = absurd (never rs (sym d ∙ p))
      go q (crowded qs H k) = absurd (omega (arith, k, l, ap length (same qs H)))
      go q (full qs H k n) = absurd (omega (arith, n, m, ap frame_count (same qs H)))
      go q (taken qs H k n) = ap (λ (x : List StoredRun). answer [] (read_tables st.head.elems.capacity st.head.shared.capacity x)) (same qs H)

  -- A CUT FILE
  cut_nine : (k : ℕ) → k < length (file v rs) → (outcome st [] (read_file known st (take k (file v rs)))).said.number ≡ 9
  cut_nine k l = go (read_file known st (take k f)) (ruled known st (take k f))
    where
      f : List ℕ
      f = file v rs

      long : length (take k f) ≡ k
      long = length-take-le k f (omega arith)

      version : 8 ≤ length (take k f) → value 4 (take k f) ≡ v
      version n = value-take k 4 f (omega (arith, n, long)) ∙ file_version v rs h

      gone : (qs : List StoredRun) → Holds known st (take k f) qs → ⊥
      gone qs H =
          let n = H.first.long in
          never qs (sym (cut v rs k g (omega (arith, n, long)) l) ∙ ap (λ (u : ℕ). parse u (take k f)) (sym (version n)) ∙ H.runs)

      go : (q : Ruling) → Ruled known st (take k f) q → (outcome st [] q).said.number ≡ 9
      go q (misshapen x) = absurd (true≢false (sym e ∙ x))
      go q (short x n) = refl
      go q (unknown x n u) = absurd (in_none (value 4 (take k f)) known u (subst (λ (u : ℕ). Some (λ w. u ≡ w) known) (sym (version n)) i))
      go q (departed K d) = refl
      go q (crowded qs H n) = absurd (gone qs H)
      go q (full qs H n m) = absurd (gone qs H)
      go q (taken qs H n m) = absurd (gone qs H)

-- into tables with room for it
read_back : (known : List ℕ) (v : ℕ) → Some (λ w. v ≡ w) known → v < limit 4 → (st : State) → Ready st → Words st → (target : State) → shaped target ≡ true
    → st.head.shared.live ≤ target.head.shared.capacity → st.head.elems.live ≤ target.head.elems.capacity
    → ((outcome target [] (read_file known target (bytes_in v st))).said.number ≡ 0) × Unsealed (compressed_into target st) (outcome target [] (read_file known target (bytes_in v st))).state
read_back known v i h st R N target e l m =
    let a : ℕ = target.head.elems.capacity in
    let b : ℕ = target.head.shared.capacity in
    let W = working st R in
    let g = runs_have_room st R v N in
    let s : length (runs_in st) ≤ b = omega (arith, runs-live st W, l) in
    let f : frame_count (runs_in st) ≤ a = omega (arith, frames-live st W, m) in
    rw (read-file known v i h (runs_in st) g target e s f) (
      refl,
      record {
        head = back_head st W a b;
        elems = back_elems st W a b;
        shared = λ c f w n. ap (λ (col : ℕ → ℕ). col c) (back-header st W a b f w n);
        marks = marks-none a b (runs_in st) (readable v a b (runs_in st) g.runs f s);
      },
    )

-- THE CLAIM
pub filing : Filing
filing = record {
  reader = reader;
  writer = writer;
  bytes = λ v st R N. (bytes-file v (runs_in st), runs_have_room st R v N);
  longest = λ v st R. file-most st R v;
  back = read_back;
  cut = λ known v i h rs g k l target e. cut_nine known v i h rs g target e k l;
  apart = λ known st st' b c k l w e f q. sym ((reader known st b k).again e) ∙ ap (file (value 4 b)) q ∙ ap (λ (u : ℕ). bytes_in u (outcome st' [] (read_file known st' c)).state) w ∙ (reader known st' c l).again f;
  once = stores_once;
}
