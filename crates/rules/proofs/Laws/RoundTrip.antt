-- The whole file: what is written reads back, what is read writes back, and a cut file departs from the layout.
use Rattle.std.specs.Prelude.{if◌then◌else◌, ◌==◌}
use Prim.Native.Nat.{ℕ, zero, suc, ◌+◌, ◌*◌, ◌-◌, ◌/◌, ◌≤◌, ◌<◌}
use mathlib.Core.Path.{◌≡◌, refl, sym, ap, ◌∙◌, subst}
use mathlib.Core.Bool.{Bool, true, false, ◌&&◌}
use mathlib.Core.List.{List, [], ◌∷◌, ◌++◌, append_assoc, append-nil}
use native.Mathlib.Omega.{arith}
use borrow.Author.Tests.{le-leb, leb-true, eq-eqb, eqb-true}
use lib.ListN.{length, take, drop, length-append, length-drop, take-append-drop}
use lib.Seq.{drop_at, take-nil}
use Rattle.rules.specs.Notation.{◌≤?◌, All}
use Rattle.rules.specs.Bytes.{Got, unread, got, Reader, onward, return, reject, little, value, limit, Bytes}
use Rattle.rules.specs.RunFile.{StoredFrame, StoredRun, Entry, total, frame_bytes, body_bytes, body_length, entries, entry_bytes, first_body, after_version, file, stored_frame, body, entry, bodies, runs, departs, holds, whole, parse, FrameFits, RunFits, EntryFits, Fits}
use Rattle.rules.proofs.Laws.Numbers.{Is, number-back, length-little, little-value, bytes_drop}
use Rattle.rules.proofs.Laws.FileLength.{length-entries}
use Rattle.rules.proofs.Laws.Codec.{Codec, numbers, via, ended, joined, many, frames_read, entries_read, three}

four : (a b c d rest : List ℕ) → (a ++ b ++ c ++ d) ++ rest ≡ a ++ (b ++ (c ++ (d ++ rest)))
four a b c d rest = simp append_assoc

-- a total has its room
total-most : (v : ℕ) (ss : List StoredFrame) → All (FrameFits v) ss → total ss ≤ length ss * 4294967295
total-most v [] g = omega arith
total-most v (s ∷ ss) g = omega (arith, g.0.size, total-most v ss g.1)

-- a test that passed
pub guarded : {A : Type 0} (t : Bool) (x : A) (m : List ℕ) (y : A) (rest : List ℕ) → (if t then return x else reject) m ≡ got y rest → (t ≡ true) × (got x m ≡ got y rest)
guarded true x m y rest e = (refl, e)
guarded false x m y rest e = absurd (let z : ◌≡◌ {A = ℕ} 0 1 = cc in omega arith)

pub both : (p q : Bool) → p && q ≡ true → (p ≡ true) × (q ≡ true)
both true q e = (refl, e)
both false q e = absurd (let z : ◌≡◌ {A = ℕ} 0 1 = cc in omega arith)

body_back : (v : ℕ) (r : StoredRun) (rest : List ℕ) → RunFits v r → body v (body_bytes v r ++ rest) ≡ got r rest
unfolding body body_bytes
body_back v r rest g =
    let ss = r.frames in
    let n = length ss in
    let a = little 8 r.value in
    let b = little 8 (total ss) in
    let c = little 4 n in
    let d = joined (frame_bytes v) ss in
    rw (
      four a b c d rest,
      number-back 8 r.value (b ++ (c ++ (d ++ rest))) g.value,
      number-back 8 (total ss) (c ++ (d ++ rest)) (omega (arith, total-most v ss g.frames, g.count)),
      number-back 4 n (d ++ rest) g.count,
      (many (stored_frame v) (frame_bytes v) (FrameFits v) (frames_read v) n).back ss rest (g.frames, refl),
      le-leb 1 n g.some,
      eq-eqb (total ss) (total ss) refl,
    )

body-forth : (v : ℕ) (b : List ℕ) (r : StoredRun) (rest : List ℕ) → Bytes b → body v b ≡ got r rest → Is (body_bytes v) (RunFits v) b r rest
unfolding body body_bytes
body-forth v b r rest k e =
    via (numbers 8) b _ r rest k e λ w m₁ g₁ e₁ k₁ n₁.
    via (numbers 8) m₁ _ r rest k₁ n₁ λ said m₂ g₂ e₂ k₂ n₂.
    via (numbers 4) m₂ _ r rest k₂ n₂ λ count m₃ g₃ e₃ k₃ n₃.
    via (many (stored_frame v) (frame_bytes v) (FrameFits v) (frames_read v) count) m₃ _ r rest k₃ n₃ λ ss m₄ g₄ e₄ k₄ n₄.
    let t = guarded ((1 ≤? count) && (said == total ss)) (record { value = w; frames = ss }) m₄ r rest n₄ in
    let u = both (1 ≤? count) (said == total ss) t.0 in
    let z : length ss ≡ count = g₄.1 in
    let y : said ≡ total ss = eqb-true said (total ss) u.1 in
    ended (body_bytes v) (RunFits v) b (record { value = w; frames = ss }) m₄ r rest
    (record {
      good = record { value = g₁; some = omega (arith, leb-true 1 count u.0); count = omega (arith, g₃); frames = g₄.0 };
      same = rw (four (little 8 w) (little 8 (total ss)) (little 4 (length ss)) (joined (frame_bytes v) ss) m₄, e₁, e₂, e₃, e₄, y, z);
      left = k₄;
    }) t.1

pub body_codec : (v : ℕ) → Codec (body v) (body_bytes v) (RunFits v)
body_codec v = record { back = body_back v; forth = body-forth v }

-- the bodies, with their entries
bodies-back : (v at : ℕ) (rs : List StoredRun) (rest : List ℕ) → All (RunFits v) rs → bodies v at (entries v at rs) (joined (body_bytes v) rs ++ rest) ≡ got rs rest
unfolding bodies entries
bodies-back v at [] rest g = refl
bodies-back v at (r ∷ rs) rest g =
    rw (
      append_assoc (body_bytes v r) (joined (body_bytes v) rs) rest,
      body_back v r (joined (body_bytes v) rs ++ rest) g.0,
      eq-eqb at at refl,
      eq-eqb (body_length v r) (body_length v r) refl,
      bodies-back v (at + body_length v r) rs rest g.1,
    )

record Are (v at : ℕ) (es : List Entry) (b : List ℕ) (rs : List StoredRun) (rest : List ℕ) : Type 0 where
  contents : es ≡ entries v at rs
  good : All (RunFits v) rs
  same : b ≡ joined (body_bytes v) rs ++ rest
  left : Bytes rest

tested : {A B : Type 0} (t : Bool) (g : Reader A) (m : List ℕ) (next : A → Reader B) (x : B) (rest : List ℕ)
    → onward ((if t then g else reject) m) next ≡ got x rest → (t ≡ true) × (onward (g m) next ≡ got x rest)
tested true g m next x rest e = (refl, e)
tested false g m next x rest e = absurd (let z : ◌≡◌ {A = ℕ} 0 1 = cc in omega arith)

bodies_more : (v at : ℕ) (x : Entry) (es : List Entry) (b : List ℕ) (rs : List StoredRun) (rest : List ℕ) (r : StoredRun) (m : List ℕ)
    → RunFits v r → b ≡ body_bytes v r ++ m → x ≡ record { offset = at; long = body_length v r }
    → onward (bodies v (at + body_length v r) es m) (λ ys. return (r ∷ ys)) ≡ got rs rest
    → ((ys : List StoredRun) (m₂ : List ℕ) → bodies v (at + body_length v r) es m ≡ got ys m₂ → Are v (at + body_length v r) es m ys m₂)
    → Are v at (x ∷ es) b rs rest
unfolding entries
bodies_more v at x es b rs rest r m g q w e f = go (bodies v (at + body_length v r) es m) refl e
  where
    go : (t : Got (List StoredRun)) → bodies v (at + body_length v r) es m ≡ t → onward t (λ ys. return (r ∷ ys)) ≡ got rs rest → Are v at (x ∷ es) b rs rest
    go unread u e = absurd (let z : ◌≡◌ {A = ℕ} 0 1 = cc in omega arith)
    go (got ys m₂) u e =
        let j = f ys m₂ u in
        let p : r ∷ ys ≡ rs = cc in
        let o : m₂ ≡ rest = cc in
        subst (λ (l : List StoredRun). Are v at (x ∷ es) b l rest) p (subst (λ (l : List ℕ). Are v at (x ∷ es) b (r ∷ ys) l) o
        (record {
          contents = rw (w, j.contents);
          good = (g, j.good);
          same = rw (q, j.same) (sym (append_assoc (body_bytes v r) (joined (body_bytes v) ys) m₂));
          left = j.left;
        }))

bodies-forth : (v at : ℕ) (es : List Entry) (b : List ℕ) (rs : List StoredRun) (rest : List ℕ) → Bytes b → bodies v at es b ≡ got rs rest → Are v at es b rs rest
unfolding bodies entries
bodies-forth v at [] b rs rest k e =
    subst (λ (l : List StoredRun). Are v at [] b l rest) (cc) (subst (λ (l : List ℕ). Are v at [] b [] l) (cc) (record { contents = refl; good = tt; same = refl; left = k }))
bodies-forth v at (x ∷ es) b rs rest k e =
    via (body_codec v) b _ rs rest k e λ r m g q k₁ e₁.
    let t = tested ((x.offset == at) && (x.long == body_length v r)) (bodies v (at + body_length v r) es) m (λ ys. return (r ∷ ys)) rs rest e₁ in
    let u = both (x.offset == at) (x.long == body_length v r) t.0 in
    let o : x.offset ≡ at = eqb-true x.offset at u.0 in
    let l : x.long ≡ body_length v r = eqb-true x.long (body_length v r) u.1 in
    bodies_more v at x es b rs rest r m g q (λ i. record { offset = o i; long = l i }) t.1 (λ ys m₂ y. bodies-forth v (at + body_length v r) es m ys m₂ k₁ y)

runs-back : (v : ℕ) (rs : List StoredRun) (rest : List ℕ) → Fits v rs → runs v (after_version v rs ++ rest) ≡ got rs rest
unfolding runs after_version
runs-back v rs rest g =
    let n = length rs in
    let es = entries v (first_body n) rs in
    let a = little 4 n in
    let b = joined entry_bytes es in
    let c = joined (body_bytes v) rs in
    rw (
      three a b c rest,
      number-back 4 n (b ++ (c ++ rest)) g.count,
      (many entry entry_bytes EntryFits entries_read n).back es (c ++ rest) (g.contents, length-entries v (first_body n) rs),
      bodies-back v (first_body n) rs rest g.runs,
    )

runs-forth : (v : ℕ) (b : List ℕ) (rs : List StoredRun) (rest : List ℕ) → Bytes b → runs v b ≡ got rs rest → Is (after_version v) (Fits v) b rs rest
unfolding runs after_version
runs-forth v b rs rest k e =
    via (numbers 4) b _ rs rest k e λ n m₁ g₁ e₁ k₁ n₁.
    via (many entry entry_bytes EntryFits entries_read n) m₁ _ rs rest k₁ n₁ λ es m₂ g₂ e₂ k₂ n₂.
    let a = bodies-forth v (first_body n) es m₂ rs rest k₂ n₂ in
    let z : n ≡ length rs = sym g₂.1 ∙ ap length a.contents ∙ length-entries v (first_body n) rs in
    let y : es ≡ entries v (first_body (length rs)) rs = a.contents ∙ ap (λ (l : ℕ). entries v (first_body l) rs) z in
    record {
      good = record { count = subst (λ (l : ℕ). l < limit 4) z g₁; runs = a.good; contents = subst (All EntryFits) y g₂.0 };
      same = rw (three (little 4 (length rs)) (joined entry_bytes (entries v (first_body (length rs)) rs)) (joined (body_bytes v) rs) rest, e₁, e₂, a.same, z, y);
      left = a.left;
    }

-- THE RUNS OF A FILE: the reader and the writer undo each other, in every version
pub runs_codec : (v : ℕ) → Codec (runs v) (after_version v) (Fits v)
runs_codec v = record { back = runs-back v; forth = runs-forth v }

-- ---- the file

bytes-little : (w n : ℕ) → Bytes (little w n)
unfolding little
bytes-little zero n = tt
bytes-little (suc w) n = (omega arith, bytes-little w (n / 256))

bytes_append : (a b : List ℕ) → Bytes a → Bytes b → Bytes (a ++ b)
bytes_append [] b k l = l
bytes_append (x ∷ a) b k l = (k.0, bytes_append a b k.1 l)

bytes-joined : {A : Type 0} (w : A → List ℕ) → ((a : A) → Bytes (w a)) → (xs : List A) → Bytes (joined w xs)
bytes-joined w f [] = tt
bytes-joined w f (x ∷ xs) = bytes_append (w x) (joined w xs) (f x) (bytes-joined w f xs)

bytes-frame : (v : ℕ) (f : StoredFrame) → Bytes (frame_bytes v f)
unfolding frame_bytes
bytes-frame v f = bytes_append (little 8 f.payload) (little 4 f.size) (bytes-little 8 f.payload) (bytes-little 4 f.size)

bytes-body : (v : ℕ) (r : StoredRun) → Bytes (body_bytes v r)
unfolding body_bytes
bytes-body v r =
    let p = little 8 r.value in
    let z = little 8 (total r.frames) in
    let n = little 4 (length r.frames) in
    bytes_append (p ++ z ++ n) (joined (frame_bytes v) r.frames) (bytes_append (p ++ z) n (bytes_append p z (bytes-little 8 r.value) (bytes-little 8 (total r.frames))) (bytes-little 4 (length r.frames)))
    (bytes-joined (frame_bytes v) (bytes-frame v) r.frames)

bytes-entry : (e : Entry) → Bytes (entry_bytes e)
unfolding entry_bytes
bytes-entry e = bytes_append (little 4 e.offset) (little 4 e.long) (bytes-little 4 e.offset) (bytes-little 4 e.long)

bytes_after : (v : ℕ) (rs : List StoredRun) → Bytes (after_version v rs)
unfolding after_version
bytes_after v rs =
    let n = little 4 (length rs) in
    let es = entries v (first_body (length rs)) rs in
    bytes_append (n ++ joined entry_bytes es) (joined (body_bytes v) rs) (bytes_append n (joined entry_bytes es) (bytes-little 4 (length rs)) (bytes-joined entry_bytes bytes-entry es))
    (bytes-joined (body_bytes v) (bytes-body v) rs)

pub bytes-file : (v : ℕ) (rs : List StoredRun) → Bytes (file v rs)
unfolding file
bytes-file v rs = bytes_append (little 4 v) (after_version v rs) (bytes-little 4 v) (bytes_after v rs)

bytes_take : (n : ℕ) (b : List ℕ) → Bytes b → Bytes (take n b)
bytes_take zero b k = tt
bytes_take (suc n) [] k = tt
bytes_take (suc n) (x ∷ b) k = (k.0, bytes_take n b k.1)

-- what was written reads back
pub parse-file : (v : ℕ) (rs : List StoredRun) → Fits v rs → parse v (file v rs) ≡ holds rs
unfolding parse file
parse-file v rs g =
    rw (drop_at (little 4 v) (after_version v rs) 4 (length-little 4 v), ← append-nil (after_version v rs), runs-back v rs [] g)

-- what was read writes back
pub record Whole (v : ℕ) (b : List ℕ) (rs : List StoredRun) : Type 0 where
  pub fits : Fits v rs
  pub same : b ≡ file v rs

pub file-parse : (v : ℕ) (b : List ℕ) (rs : List StoredRun) → Bytes b → 4 ≤ length b → value 4 b ≡ v → parse v b ≡ holds rs → Whole v b rs
unfolding parse file
file-parse v b rs k h w e = go (runs v (drop 4 b)) refl e
  where
    go : (g : Got (List StoredRun)) → runs v (drop 4 b) ≡ g → whole g ≡ holds rs → Whole v b rs
    go unread q e = absurd (let z : ◌≡◌ {A = ℕ} 0 1 = cc in omega arith)
    go (got xs (y ∷ rest)) q e = absurd (let z : ◌≡◌ {A = ℕ} 0 1 = cc in omega arith)
    go (got xs []) q e =
        let p : xs ≡ rs = cc in
        let i = runs-forth v (drop 4 b) xs [] (bytes_drop 4 b k) q in
        subst (λ (l : List StoredRun). Whole v b l) p
        (record { fits = i.good; same = sym (little-value 4 b k h) ∙ rw (i.same, w, append-nil (after_version v xs)) })

-- A CUT FILE DEPARTS FROM THE LAYOUT
cut-after : (v : ℕ) (rs : List StoredRun) (k : ℕ) → Fits v rs → k < length (after_version v rs) → whole (runs v (take k (after_version v rs))) ≡ departs
cut-after v rs k g h = go (runs v c) refl
  where
    f : List ℕ
    f = after_version v rs

    c : List ℕ
    c = take k f

    go : (t : Got (List StoredRun)) → runs v c ≡ t → whole t ≡ departs
    go unread q = refl
    go (got xs (y ∷ rest)) q = refl
    go (got xs []) q =
        let i = runs-forth v c xs [] (bytes_take k f (bytes_after v rs)) q in
        let p : c ≡ after_version v xs = i.same ∙ append-nil (after_version v xs) in
        let w : f ≡ after_version v xs ++ drop k f = sym (take-append-drop k f) ∙ ap (λ (l : List ℕ). l ++ drop k f) p in
        let one : runs v f ≡ got xs (drop k f) = ap (runs v) w ∙ runs-back v xs (drop k f) i.good in
        let two : runs v f ≡ got rs [] = subst (λ (l : List ℕ). runs v l ≡ got rs []) (append-nil f) (runs-back v rs [] g) in
        let z : drop k f ≡ [] = cc in
        absurd (omega (arith, ap length z, length-drop k f))

drop-take : (m n : ℕ) (l : List ℕ) → m ≤ n → drop m (take n l) ≡ take (n - m) (drop m l)
drop-take zero n l h = let z : n - 0 ≡ n = omega arith in rw z
drop-take (suc m) zero l h = absurd (omega arith)
drop-take (suc m) (suc n) [] h = sym (take-nil (suc n - suc m))
drop-take (suc m) (suc n) (x ∷ l) h = let z : suc n - suc m ≡ n - m = omega arith in rw z (drop-take m n l (omega arith))

pub cut : (v : ℕ) (rs : List StoredRun) (k : ℕ) → Fits v rs → 4 ≤ k → k < length (file v rs) → parse v (take k (file v rs)) ≡ departs
unfolding parse file
cut v rs k g l h =
    let f = after_version v rs in
    rw (drop-take 4 k (little 4 v ++ f) l, drop_at (little 4 v) f 4 (length-little 4 v)) (cut-after v rs (k - 4) g (omega (arith, length-append (little 4 v) f, length-little 4 v)))
