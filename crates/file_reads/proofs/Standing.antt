-- What the first pass read stands in the bytes, run after run.
use Rattle.std.specs.Prelude.{if◌then◌else◌, ◌==◌}
use Prim.Native.Nat.{ℕ, suc, ◌+◌, ◌*◌, ◌≤◌, ◌<◌}
use mathlib.Core.Path.{◌≡◌, refl, sym, ap, ◌∙◌, subst}
use mathlib.Core.Bool.{Bool, true, false, ◌&&◌}
use mathlib.Core.List.{List, [], ◌∷◌}
use native.Mathlib.Omega.{arith}
use native.Mathlib.Decide.{dec_lt}
use borrow.Author.Tests.{eqb-true}
use lib.ListN.{length, drop, length-drop}
use lib.Seq.{drop-drop}
use Rattle.rules.specs.Notation.{◌≤?◌}
use Rattle.rules.specs.Bytes.{Got, unread, got, onward, return, reject, times, value}
use Rattle.rules.specs.RunFile.{StoredFrame, StoredRun, Entry, total, frame_length, body_length, first_body, body, entry, bodies, runs, Parsed, departs, holds, whole, parse}
use Rattle.rules.proofs.Laws.Numbers.{number-some}
use Rattle.rules.proofs.Laws.RoundTrip.{guarded, both}
use Rattle.rules.proofs.Laws.Fixed.{each, each-length, frame_here, frames_here, count_here, run_here, entry_here, entry_sized, times-some, times_none, body_short, body-cut, body-told, Leaves, body_leaves}
use Rattle.file_reads.specs.Fills.{Stands, Standing}

-- a body that was read says its total
body-sum : (v : ℕ) (b : List ℕ) (r : StoredRun) (rest : List ℕ) → body v b ≡ got r rest → value 8 (drop 8 b) ≡ total r.frames
body-sum v b r rest e = go (dec_lt (length b) 20) (dec_lt (length b) (20 + count_here b * frame_length v))
  where
    never : body v b ≡ unread → ⊥
    never q = cc

    go : Dec (length b < 20) → Dec (length b < 20 + count_here b * frame_length v) → value 8 (drop 8 b) ≡ total r.frames
    go (yes h) d = absurd (never (body_short v b h))
    go (no h) (yes l) = absurd (never (body-cut v b (omega arith) l))
    go (no h) (no l) =
        let k : 20 + count_here b * frame_length v ≤ length b = omega arith in
        let ss : List StoredFrame = frames_here v (count_here b) (drop 20 b) in
        let t = guarded ((1 ≤? count_here b) && (value 8 (drop 8 b) == total ss)) (run_here v b) (drop (20 + count_here b * frame_length v) b) r rest (sym (body-told v b k) ∙ e) in
        let p : run_here v b ≡ r = cc t.1 in
        eqb-true (value 8 (drop 8 b)) (total ss) (both (1 ≤? count_here b) (value 8 (drop 8 b) == total ss) t.0).1 ∙ ap (λ (x : StoredRun). total x.frames) p

stands : (b : List ℕ) (at : ℕ) (r : StoredRun) (rest : List ℕ) → at ≤ length b → body 1 (drop at b) ≡ got r rest → Stands b at r
stands b at r rest h e =
    let m : List ℕ = drop at b in
    let l : Leaves 1 m r rest = body_leaves 1 m r rest e in
    let n : length (frames_here 1 (count_here m) (drop 20 m)) ≡ count_here m = each-length (frame_length 1) (frame_here 1) (count_here m) (drop 20 m) in
    let c : count_here m ≡ length r.frames = sym n ∙ ap (λ (x : StoredRun). length x.frames) l.here in
    record {
      first = ap (λ (x : StoredRun). x.value) l.here;
      summed = ap (value 8) (sym (drop-drop 8 at b)) ∙ body-sum 1 m r rest e;
      count = ap (value 4) (sym (drop-drop 16 at b)) ∙ c;
      frames = ap (frames_here 1 (length r.frames)) (sym (drop-drop 20 at b)) ∙ ap (λ (k : ℕ). frames_here 1 k (drop 20 m)) (sym c) ∙ ap (λ (x : StoredRun). x.frames) l.here;
      within = omega (arith, l.within, length-drop at b);
    }

-- the bodies that were read stand one after another, as many as the contents have entries
pub record Read (b : List ℕ) (at n : ℕ) (rs : List StoredRun) : Type 0 where
  pub standing : Standing b at rs
  pub many : length rs ≡ n

abbrev More : (b : List ℕ) (at : ℕ) (es : List Entry) → Type 0
More b at es = (l : ℕ) (ys : List StoredRun) (m : List ℕ) → at + l ≤ length b → bodies 1 (at + l) es (drop (at + l) b) ≡ got ys m → Read b (at + l) (length es) ys

bodies_stand : (b : List ℕ) (at : ℕ) (es : List Entry) (rs : List StoredRun) (rest : List ℕ) → at ≤ length b → bodies 1 at es (drop at b) ≡ got rs rest → Read b at (length es) rs
unfolding bodies
bodies_stand b at [] rs rest h e = let p : [] ≡ rs = cc in subst (λ (l : List StoredRun). Read b at 0 l) p (record { standing = tt; many = refl })
bodies_stand b at (x ∷ es) rs rest h e = go (body 1 (drop at b)) refl e (λ l ys m k q. bodies_stand b (at + l) es ys m k q)
  where
    last : (r : StoredRun) (m : List ℕ) → body 1 (drop at b) ≡ got r m → (g : Got (List StoredRun)) → bodies 1 (at + body_length 1 r) es m ≡ g → onward g (λ ys. return (r ∷ ys)) ≡ got rs rest → More b at es → Read b at (suc (length es)) rs
    last r m w unread q e f = cc
    last r m w (got ys m₂) q e f =
        let s : Stands b at r = stands b at r m h w in
        let d : m ≡ drop (at + body_length 1 r) b = (body_leaves 1 (drop at b) r m w).rest-is ∙ drop-drop (body_length 1 r) at b in
        let t : Read b (at + body_length 1 r) (length es) ys = f (body_length 1 r) ys m₂ s.within (ap (bodies 1 (at + body_length 1 r) es) (sym d) ∙ q) in
        let p : r ∷ ys ≡ rs = cc in
        subst (λ (l : List StoredRun). Read b at (suc (length es)) l) p (record { standing = (s, t.standing); many = ap suc t.many })

    inner : (t : Bool) (r : StoredRun) (m : List ℕ) → body 1 (drop at b) ≡ got r m → onward ((if t then bodies 1 (at + body_length 1 r) es else reject) m) (λ ys. return (r ∷ ys)) ≡ got rs rest → More b at es → Read b at (suc (length es)) rs
    inner false r m w e f = cc
    inner true r m w e f = last r m w (bodies 1 (at + body_length 1 r) es m) refl e f

    go : (g : Got StoredRun) → body 1 (drop at b) ≡ g → onward g (λ r. λ m. onward ((if (x.offset == at) && (x.long == body_length 1 r) then bodies 1 (at + body_length 1 r) es else reject) m) (λ ys. return (r ∷ ys))) ≡ got rs rest
        → More b at es → Read b at (suc (length es)) rs
    go unread w e f = cc
    go (got r m) w e f = inner ((x.offset == at) && (x.long == body_length 1 r)) r m w e f

-- THE WHOLE FILE: what it holds stands past its contents
pub parse_stands : (b : List ℕ) (rs : List StoredRun) → 8 ≤ length b → parse 1 b ≡ holds rs → Standing b (first_body (length rs)) rs × (first_body (length rs) ≤ length b)
unfolding parse runs
parse_stands b rs h e = go (dec_lt (length b) (8 + n * 8))
  where
    n : ℕ
    n = value 4 (drop 4 b)

    counted : parse 1 b ≡ whole (onward ((times n entry) (drop 8 b)) (λ es. bodies 1 (first_body n) es))
    counted = rw (number-some 4 (drop 4 b) (omega (arith, length-drop 4 b)), drop-drop 4 4 b)

    last : (g : Got (List StoredRun)) → bodies 1 (first_body n) (each 8 entry_here n (drop 8 b)) (drop (first_body n) b) ≡ g → first_body n ≤ length b → whole g ≡ holds rs → Standing b (first_body (length rs)) rs × (first_body (length rs) ≤ length b)
    last unread q l e = cc
    last (got xs (y ∷ rest)) q l e = cc
    last (got xs []) q l e =
        let p : xs ≡ rs = cc in
        let t = bodies_stand b (first_body n) (each 8 entry_here n (drop 8 b)) xs [] l q in
        let z : length xs ≡ n = t.many ∙ each-length 8 entry_here n (drop 8 b) in
        subst (λ (l : List StoredRun). Standing b (first_body (length l)) l × (first_body (length l) ≤ length b)) p (subst (λ (k : ℕ). Standing b (first_body k) xs) (sym z) t.standing, omega (arith, z, l))

    go : Dec (length b < 8 + n * 8) → Standing b (first_body (length rs)) rs × (first_body (length rs) ≤ length b)
    go (yes l) = let z : ◌≡◌ {A = Parsed} departs (holds rs) = sym (counted ∙ rw (times_none entry 8 entry_here entry_sized n (drop 8 b) (omega (arith, length-drop 8 b)))) ∙ e in cc
    go (no l) = last (bodies 1 (first_body n) (each 8 entry_here n (drop 8 b)) (drop (first_body n) b)) refl (omega arith) (sym (counted ∙ rw (times-some entry 8 entry_here entry_sized n (drop 8 b) (omega (arith, length-drop 8 b)), drop-drop (n * 8) 8 b)) ∙ e)
