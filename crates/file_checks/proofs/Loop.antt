-- The loop over the runs: what was read, and what is left to read.
use Rattle.std.specs.Prelude.{if◌then◌else◌, ◌==◌, None, Some}
use Prim.Native.Nat.{ℕ, ◌+◌, ◌*◌, ◌-◌, ◌≤◌, ◌<◌}
use mathlib.Core.Path.{◌≡◌, refl, sym, ap, ◌∙◌, subst}
use mathlib.Core.Bool.{Bool, true, false, ◌&&◌}
use mathlib.Core.List.{List, [], ◌∷◌, ◌++◌, append_assoc, append-nil}
use native.Mathlib.Omega.{arith}
use native.Mathlib.Nat.{mul-le-mul_left, sub-zero}
use lib.ListN.{length, drop, length-append, length-drop}
use lib.Seq.{drop-drop, drop-length}
use Rattle.rules.specs.Bytes.{Got, unread, got, onward, return, reject, value}
use Rattle.rules.specs.RunFile.{StoredRun, Entry, frame_length, body_length, frame_count, body, entry, bodies, runs, whole, parse}
use Rattle.rules.proofs.Laws.Numbers.{number-some}
use Rattle.rules.proofs.Laws.Fixed.{each, each_step, entry_here, entry_sized, times-some, times_none, body_leaves}
use Rattle.file_checks.specs.declared.Body.{Body}
use Rattle.file_checks.specs.Said.{read_at, said_run, said_parsed}

abbrev pub prepend : List StoredRun → Got (List StoredRun) → Got (List StoredRun)
prepend done g = onward g (λ rs. return (done ++ rs))

prepend-none : (g : Got (List StoredRun)) → prepend [] g ≡ g
prepend-none unread = refl
prepend-none (got rs rest) = refl

prepend_more : (done : List StoredRun) (r : StoredRun) (g : Got (List StoredRun)) → prepend done (onward g (λ rs. return (r ∷ rs))) ≡ prepend (done ++ r ∷ []) g
prepend_more done r unread = refl
prepend_more done r (got rs rest) = rw (append_assoc done (r ∷ []) rs)

-- after so many runs: the place after them, and their frames
pub record Passed (b : List ℕ) (v count i at frames : ℕ) : Type 0 where
  pub done : List StoredRun
  pub rest : parse v b ≡ whole (prepend done (bodies v at (each 8 entry_here (count - i) (drop (8 + i * 8) b)) (drop at b)))
  pub runs : length done ≡ i
  pub so_far : i ≤ count
  pub counted : frames ≡ frame_count done
  pub room : 8 + count * 8 ≤ length b
  pub within : at ≤ length b
  pub few : frames * 12 ≤ at

module _ (b : List ℕ) (v count : ℕ) (long : 8 ≤ length b) (c : count ≡ value 4 (drop 4 b)) where
  pub too_many : length b - 8 < count * 8 → None ≡ said_parsed (parse v b)
  unfolding parse runs
  too_many h =
      rw (number-some 4 (drop 4 b) (omega (arith, length-drop 4 b)), drop-drop 4 4 b, ← c, times_none entry 8 entry_here entry_sized count (drop 8 b) (omega (arith, length-drop 8 b)))

  pub passed_first : count * 8 ≤ length b - 8 → Passed b v count 0 (8 + count * 8) 0
  unfolding parse runs
  passed_first h =
      record {
        done = [];
        rest = rw (
          prepend-none (bodies v (8 + count * 8) (each 8 entry_here (count - 0) (drop 8 b)) (drop (8 + count * 8) b)),
          sub-zero count,
          number-some 4 (drop 4 b) (omega (arith, length-drop 4 b)),
          drop-drop 4 4 b,
          ← c,
          times-some entry 8 entry_here entry_sized count (drop 8 b) (omega (arith, length-drop 8 b)),
          drop-drop (count * 8) 8 b,
        );
        runs = refl;
        so_far = omega arith;
        counted = refl;
        room = omega arith;
        within = omega arith;
        few = omega arith;
      }

-- a body that departs
bodies-unread : (v at : ℕ) (e : Entry) (es : List Entry) (m : List ℕ) → said_run v at e (body v m) ≡ None → bodies v at (e ∷ es) m ≡ unread
unfolding bodies
bodies-unread v at e es m q = go (body v m) q
  where
    inner : (t : Bool) (r : StoredRun) (rest : List ℕ) → (if t then Some (read_at v at r) else None) ≡ None
        → onward ((if t then bodies v (at + body_length v r) es else reject) rest) (λ rs. return (r ∷ rs)) ≡ unread
    inner true r rest q = cc
    inner false r rest q = refl

    go : (g : Got StoredRun) → said_run v at e g ≡ None
        → onward g (λ r. λ rest. onward ((if (e.offset == at) && (e.long == body_length v r) then bodies v (at + body_length v r) es else reject) rest) (λ rs. return (r ∷ rs))) ≡ unread
    go unread q = refl
    go (got r rest) q = inner ((e.offset == at) && (e.long == body_length v r)) r rest q

-- a body that was read
record Taken (v at : ℕ) (e : Entry) (es : List Entry) (m : List ℕ) (x : Body) : Type 0 where
  run : StoredRun
  is : bodies v at (e ∷ es) m ≡ onward (bodies v x.end es (drop (body_length v run) m)) (λ rs. return (run ∷ rs))
  long : x.end ≡ at + body_length v run
  many : x.frames ≡ length run.frames
  within : body_length v run ≤ length m

bodies-taken : (v at : ℕ) (e : Entry) (es : List Entry) (m : List ℕ) (x : Body) → said_run v at e (body v m) ≡ Some x → Taken v at e es m x
unfolding bodies
bodies-taken v at e es m x q = go (body v m) refl q
  where
    inner : (t : Bool) (r : StoredRun) (rest : List ℕ) → (if t then Some (read_at v at r) else None) ≡ Some x
        → (x.end ≡ at + body_length v r) × (x.frames ≡ length r.frames) × (onward ((if t then bodies v (at + body_length v r) es else reject) rest) (λ rs. return (r ∷ rs)) ≡ onward (bodies v x.end es rest) (λ rs. return (r ∷ rs)))
    inner true r rest q =
        let p : at + body_length v r ≡ x.end = cc in
        let n : length r.frames ≡ x.frames = cc in
        (sym p, sym n, rw p)
    inner false r rest q = cc

    go : (g : Got StoredRun) → body v m ≡ g → said_run v at e g ≡ Some x → Taken v at e es m x
    go unread w q = cc
    go (got r rest) w q =
        let l = body_leaves v m r rest w in
        let t = inner ((e.offset == at) && (e.long == body_length v r)) r rest q in
        record {
          run = r;
          is = rw w (t.2 ∙ ap (λ (k : List ℕ). onward (bodies v x.end es k) (λ rs. return (r ∷ rs))) l.rest-is);
          long = t.0;
          many = t.1;
          within = l.within;
        }

frame_count-snoc : (rs : List StoredRun) (r : StoredRun) → frame_count (rs ++ r ∷ []) ≡ frame_count rs + length r.frames
frame_count-snoc [] r = omega arith
frame_count-snoc (q ∷ rs) r = omega (arith, frame_count-snoc rs r)

twelve : (v : ℕ) → 12 ≤ frame_length v
twelve v = omega arith

module _ {b : List ℕ} {v count i at frames : ℕ} (p : Passed b v count i at frames) where
  module _ (h : i < count) where
    tail : List Entry
    tail = each 8 entry_here (count - (i + 1)) (drop (8 + (i + 1) * 8) b)

    unrolled : parse v b ≡ whole (prepend p.done (bodies v at ((entry_here (drop (8 + i * 8) b)) ∷ tail) (drop at b)))
    unfolding tail
    unrolled =
        let n : count - i - 1 ≡ count - (i + 1) = omega arith in
        let d : 8 + i * 8 + 8 ≡ 8 + (i + 1) * 8 = omega arith in
        p.rest ∙ rw (each_step 8 entry_here (count - i) (drop (8 + i * 8) b) (omega arith), n, drop-drop 8 (8 + i * 8) b, d)

    pub passed_departs : None ≡ said_run v at (entry_here (drop (8 + i * 8) b)) (body v (drop at b)) → None ≡ said_parsed (parse v b)
    passed_departs q = rw (unrolled, bodies-unread v at (entry_here (drop (8 + i * 8) b)) tail (drop at b) (sym q))

    pub passed_next : (x : Body) → Some x ≡ said_run v at (entry_here (drop (8 + i * 8) b)) (body v (drop at b)) → Passed b v count (i + 1) x.end (frames + x.frames)
    unfolding tail
    passed_next x q =
        let t = bodies-taken v at (entry_here (drop (8 + i * 8) b)) tail (drop at b) x (sym q) in
        let r : StoredRun = t.run in
        let d : drop (body_length v r) (drop at b) ≡ drop x.end b = drop-drop (body_length v r) at b ∙ ap (λ (k : ℕ). drop k b) (sym t.long) in
        let l : length (drop at b) ≡ length b - at = length-drop at b in
        record {
          done = p.done ++ r ∷ [];
          rest = unrolled ∙ rw (t.is, d) (ap whole (prepend_more p.done r (bodies v x.end tail (drop x.end b))));
          runs = omega (arith, p.runs, length-append p.done (r ∷ []));
          so_far = omega arith;
          counted = omega (arith, p.counted, t.many, frame_count-snoc p.done r);
          room = p.room;
          within = omega (arith, t.long, t.within, p.within);
          few = omega (arith, p.few, t.long, t.many, mul-le-mul_left (length r.frames) (twelve v));
        }

  passed_last : count ≤ i → parse v b ≡ whole (got p.done (drop at b))
  unfolding bodies each
  passed_last h =
      let z : count - i ≡ 0 = omega arith in
      let e : parse v b ≡ whole (got (p.done ++ []) (drop at b)) = subst (λ (k : ℕ). parse v b ≡ whole (prepend p.done (bodies v at (each 8 entry_here k (drop (8 + i * 8) b)) (drop at b)))) z p.rest in
      e ∙ rw (append-nil p.done)

  pub passed_whole : count ≤ i → at ≡ length b → Some (record { runs = count; frames = frames }) ≡ said_parsed (parse v b)
  passed_whole h e =
      let d : drop at b ≡ [] = ap (λ (k : ℕ). drop k b) e ∙ drop-length b in
      let n : count ≡ length p.done = omega (arith, h, p.runs, p.so_far) in
      rw (passed_last h, d, n, p.counted)

  pub passed_more : count ≤ i → (at ≡ length b → ⊥) → None ≡ said_parsed (parse v b)
  passed_more h f = rw (passed_last h) (go (drop at b) refl)
    where
      go : (m : List ℕ) → drop at b ≡ m → None ≡ said_parsed (whole (got p.done m))
      go [] q = absurd (f (omega (arith, p.within, ap length q, length-drop at b)))
      go (x ∷ m) q = refl
