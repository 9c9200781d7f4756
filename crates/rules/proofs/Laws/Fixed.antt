-- Readers of things that have a fixed number of bytes, read at once: all that is left to test is the length.
use Rattle.std.specs.Prelude.{if◌then◌else◌, ◌==◌}
use Prim.Native.Nat.{ℕ, zero, suc, ◌+◌, ◌*◌, ◌-◌, ◌≤◌, ◌<◌}
use mathlib.Core.Path.{◌≡◌, refl, sym, ap, ◌∙◌, subst}
use mathlib.Core.Bool.{Bool, true, false, ◌&&◌}
use mathlib.Core.List.{List, [], ◌∷◌}
use native.Mathlib.Omega.{arith}
use native.Mathlib.Decide.{dec_lt}
use native.Mathlib.Nat.{suc-mul, add_comm}
use lib.ListN.{length, drop, length-drop}
use lib.Seq.{drop-drop}
use Rattle.rules.specs.Notation.{◌≤?◌}
use Rattle.rules.specs.Bytes.{Got, unread, got, Reader, onward, return, reject, times, value, number}
use Rattle.rules.specs.RunFile.{StoredFrame, StoredRun, Entry, total, frame_length, body_length, stored_frame, body, entry, bodies}
use Rattle.rules.proofs.Laws.Numbers.{number-some, number-none}
use Rattle.rules.proofs.Laws.RoundTrip.{guarded}

-- so many of them, one after another
unfoldable pub each : {A : Type 0} → (w : ℕ) → (List ℕ → A) → ℕ → List ℕ → List A
each w f zero b = []
each w f (suc n) b = f b ∷ each w f n (drop w b)

pub each-length : {A : Type 0} (w : ℕ) (f : List ℕ → A) (n : ℕ) (b : List ℕ) → length (each w f n b) ≡ n
unfolding each
each-length w f zero b = refl
each-length w f (suc n) b = ap suc (each-length w f n (drop w b))

-- the first of them
pub each_step : {A : Type 0} (w : ℕ) (f : List ℕ → A) (n : ℕ) (b : List ℕ) → 1 ≤ n → each w f n b ≡ f b ∷ each w f (n - 1) (drop w b)
unfolding each
each_step w f zero b h = absurd (omega arith)
each_step w f (suc n) b h = let z : suc n - 1 ≡ n = omega arith in rw z

suc-times : (n w : ℕ) → suc n * w ≡ w + n * w
suc-times n w = simp (suc-mul, add_comm)

pub record Sized {A : Type 0} (r : Reader A) (w : ℕ) (f : List ℕ → A) : Type 0 where
  pub some : (b : List ℕ) → w ≤ length b → r b ≡ got (f b) (drop w b)
  pub none : (b : List ℕ) → length b < w → r b ≡ unread

module _ {A : Type 0} (r : Reader A) (w : ℕ) (f : List ℕ → A) (z : Sized r w f) where
  pub times-some : (n : ℕ) (b : List ℕ) → n * w ≤ length b → times n r b ≡ got (each w f n b) (drop (n * w) b)
  unfolding times each
  times-some zero b h = let e : 0 * w ≡ 0 = omega arith in rw e
  times-some (suc n) b h =
      let e : suc n * w ≡ w + n * w = suc-times n w in
      rw (z.some b (omega arith), times-some n (drop w b) (omega (arith, length-drop w b)), drop-drop (n * w) w b, e)

  pub times_none : (n : ℕ) (b : List ℕ) → length b < n * w → times n r b ≡ unread
  unfolding times
  times_none zero b h = let e : 0 * w ≡ 0 = omega arith in absurd (omega arith)
  times_none (suc n) b h = go (dec_lt (length b) w) (times_none n (drop w b))
    where
      go : Dec (length b < w) → (length (drop w b) < n * w → times n r (drop w b) ≡ unread) → times (suc n) r b ≡ unread
      go (yes l) f = rw (z.none b l)
      go (no l) f = let e : suc n * w ≡ w + n * w = suc-times n w in rw (z.some b (omega arith), f (omega (arith, length-drop w b)))

-- a frame
unfoldable pub frame_here : (version : ℕ) → List ℕ → StoredFrame
frame_here v b = record { payload = value 8 b; size = value 4 (drop 8 b) }

-- too few bytes for a number and what follows it
pub number_short : {B : Type 0} (w k : ℕ) (b : List ℕ) (next : ℕ → Reader B) → length b < w + k → ((n : ℕ) (m : List ℕ) → length m < k → next n m ≡ unread) → onward (number w b) next ≡ unread
number_short w k b next h f = go (dec_lt (length b) w)
  where
    go : Dec (length b < w) → onward (number w b) next ≡ unread
    go (yes l) = rw (number-none w b l)
    go (no l) = rw (number-some w b (omega arith)) (f (value w b) (drop w b) (omega (arith, length-drop w b)))

frame-some : (v : ℕ) (b : List ℕ) → frame_length v ≤ length b → stored_frame v b ≡ got (frame_here v b) (drop (frame_length v) b)
unfolding stored_frame frame_here
frame-some v b h = rw (number-some 8 b (omega arith), number-some 4 (drop 8 b) (omega (arith, length-drop 8 b)), drop-drop 4 8 b)

frame-none : (v : ℕ) (b : List ℕ) → length b < frame_length v → stored_frame v b ≡ unread
unfolding stored_frame
frame-none v b h =
    number_short 8 4 b _ h λ p m l.
    rw (number-none 4 m l)

pub frame_sized : (v : ℕ) → Sized (stored_frame v) (frame_length v) (frame_here v)
frame_sized v = record { some = frame-some v; none = frame-none v }

-- an entry of the contents
unfoldable pub entry_here : List ℕ → Entry
entry_here b = record { offset = value 4 b; long = value 4 (drop 4 b) }

entry-some : (b : List ℕ) → 8 ≤ length b → entry b ≡ got (entry_here b) (drop 8 b)
unfolding entry entry_here
entry-some b h = rw (number-some 4 b (omega arith), number-some 4 (drop 4 b) (omega (arith, length-drop 4 b)), drop-drop 4 4 b)

entry-none : (b : List ℕ) → length b < 8 → entry b ≡ unread
unfolding entry
entry-none b h =
    number_short 4 4 b _ h λ p m l.
    rw (number-none 4 m l)

pub entry_sized : Sized entry 8 entry_here
entry_sized = record { some = entry-some; none = entry-none }

-- a body: its frames, if there is room
abbrev pub frames_here : (version n : ℕ) → List ℕ → List StoredFrame
frames_here v n b = each (frame_length v) (frame_here v) n b

pub body_short : (v : ℕ) (b : List ℕ) → length b < 20 → body v b ≡ unread
unfolding body
body_short v b h =
    number_short 8 12 b _ h λ p m l.
    number_short 8 4 m _ l λ z m₂ l₂.
    rw (number-none 4 m₂ l₂)

abbrev pub count_here : List ℕ → ℕ
count_here b = value 4 (drop 16 b)

abbrev pub run_here : (version : ℕ) → List ℕ → StoredRun
run_here v b = record { value = value 8 b; frames = frames_here v (count_here b) (drop 20 b) }

body-long : (v : ℕ) (b : List ℕ) → 20 ≤ length b → body v b ≡ onward (times (count_here b) (stored_frame v) (drop 20 b)) (λ ss. if (1 ≤? count_here b) && (value 8 (drop 8 b) == total ss) then return (record { value = value 8 b; frames = ss }) else reject)
unfolding body
body-long v b h =
    rw (number-some 8 b (omega arith), number-some 8 (drop 8 b) (omega (arith, length-drop 8 b)), drop-drop 8 8 b, number-some 4 (drop 16 b) (omega (arith, length-drop 16 b)), drop-drop 4 16 b)

pub body-cut : (v : ℕ) (b : List ℕ) → 20 ≤ length b → length b < 20 + count_here b * frame_length v → body v b ≡ unread
body-cut v b h l = rw (body-long v b h, times_none (stored_frame v) (frame_length v) (frame_here v) (frame_sized v) (count_here b) (drop 20 b) (omega (arith, length-drop 20 b)))

pub body-told : (v : ℕ) (b : List ℕ) → 20 + count_here b * frame_length v ≤ length b
    → body v b ≡ (if (1 ≤? count_here b) && (value 8 (drop 8 b) == total (frames_here v (count_here b) (drop 20 b))) then return (run_here v b) else reject) (drop (20 + count_here b * frame_length v) b)
body-told v b h =
    let n : ℕ = count_here b in
    let w : ℕ = n * frame_length v in
    rw (body-long v b (omega arith), times-some (stored_frame v) (frame_length v) (frame_here v) (frame_sized v) n (drop 20 b) (omega (arith, length-drop 20 b)), drop-drop w 20 b)

-- what a body is, and what it leaves
pub record Leaves (v : ℕ) (b : List ℕ) (r : StoredRun) (rest : List ℕ) : Type 0 where
  pub here : run_here v b ≡ r
  pub rest-is : rest ≡ drop (body_length v r) b
  pub within : body_length v r ≤ length b

pub body_leaves : (v : ℕ) (b : List ℕ) (r : StoredRun) (rest : List ℕ) → body v b ≡ got r rest → Leaves v b r rest
body_leaves v b r rest e = go (dec_lt (length b) 20) (dec_lt (length b) (20 + count_here b * frame_length v))
  where
    never : body v b ≡ unread → ⊥
    never q = let z : ◌≡◌ {A = ℕ} 0 1 = cc in omega arith

    go : Dec (length b < 20) → Dec (length b < 20 + count_here b * frame_length v) → Leaves v b r rest
    go (yes h) d = absurd (never (body_short v b h))
    go (no h) (yes l) = absurd (never (body-cut v b (omega arith) l))
    go (no h) (no l) =
        let k : 20 + count_here b * frame_length v ≤ length b = omega arith in
        let t = guarded ((1 ≤? count_here b) && (value 8 (drop 8 b) == total (frames_here v (count_here b) (drop 20 b)))) (run_here v b) (drop (20 + count_here b * frame_length v) b) r rest (sym (body-told v b k) ∙ e) in
        let n : length (frames_here v (count_here b) (drop 20 b)) ≡ count_here b = each-length (frame_length v) (frame_here v) (count_here b) (drop 20 b) in
        let p : run_here v b ≡ r = cc t.1 in
        let q : drop (20 + count_here b * frame_length v) b ≡ rest = cc t.1 in
        let z : body_length v (run_here v b) ≡ 20 + count_here b * frame_length v = rw n in
        subst (λ (x : StoredRun). Leaves v b x rest) p (record { here = refl; rest-is = sym q ∙ ap (λ (x : ℕ). drop x b) (sym z); within = rw z k })

-- THE SECOND PASS may take what stands there: the runs that were read are those
unfoldable pub runs_here : (version n : ℕ) → List ℕ → List StoredRun
runs_here v zero b = []
runs_here v (suc n) b = run_here v b ∷ runs_here v n (drop (body_length v (run_here v b)) b)

pub bodies_are : (v at : ℕ) (es : List Entry) (b : List ℕ) (rs : List StoredRun) (rest : List ℕ) → bodies v at es b ≡ got rs rest → runs_here v (length es) b ≡ rs
unfolding bodies runs_here
bodies_are v at [] b rs rest e = cc
bodies_are v at (x ∷ es) b rs rest e = go (body v b) refl e (λ l ys m₂ q. bodies_are v (at + l) es (drop l b) ys m₂ q)
  where
    inner : (t : Bool) (r : StoredRun) (m : List ℕ) → body v b ≡ got r m → onward ((if t then bodies v (at + body_length v r) es else reject) m) (λ ys. return (r ∷ ys)) ≡ got rs rest
        → ((l : ℕ) (ys : List StoredRun) (m₂ : List ℕ) → bodies v (at + l) es (drop l b) ≡ got ys m₂ → runs_here v (length es) (drop l b) ≡ ys)
        → run_here v b ∷ runs_here v (length es) (drop (body_length v (run_here v b)) b) ≡ rs
    inner false r m w e f = absurd (let z : ◌≡◌ {A = ℕ} 0 1 = cc in omega arith)
    inner true r m w e f = last (bodies v (at + body_length v r) es m) refl e
      where
        last : (g : Got (List StoredRun)) → bodies v (at + body_length v r) es m ≡ g → onward g (λ ys. return (r ∷ ys)) ≡ got rs rest → run_here v b ∷ runs_here v (length es) (drop (body_length v (run_here v b)) b) ≡ rs
        last unread q e = absurd (let z : ◌≡◌ {A = ℕ} 0 1 = cc in omega arith)
        last (got ys m₂) q e =
            let i : run_here v b ≡ r = (body_leaves v b r m w).here in
            let d : m ≡ drop (body_length v r) b = (body_leaves v b r m w).rest-is in
            let n : runs_here v (length es) (drop (body_length v r) b) ≡ ys = f (body_length v r) ys m₂ (subst (λ (l : List ℕ). bodies v (at + body_length v r) es l ≡ got ys m₂) d q) in
            let p : r ∷ ys ≡ rs = cc in
            ap (λ (y : StoredRun). y ∷ runs_here v (length es) (drop (body_length v y) b)) i ∙ ap (λ (l : List StoredRun). r ∷ l) n ∙ p

    go : (g : Got StoredRun) → body v b ≡ g → onward g (λ r. λ m. onward ((if (x.offset == at) && (x.long == body_length v r) then bodies v (at + body_length v r) es else reject) m) (λ ys. return (r ∷ ys))) ≡ got rs rest
        → ((l : ℕ) (ys : List StoredRun) (m₂ : List ℕ) → bodies v (at + l) es (drop l b) ≡ got ys m₂ → runs_here v (length es) (drop l b) ≡ ys)
        → run_here v b ∷ runs_here v (length es) (drop (body_length v (run_here v b)) b) ≡ rs
    go unread w e f = absurd (let z : ◌≡◌ {A = ℕ} 0 1 = cc in omega arith)
    go (got r m) w e f = inner ((x.offset == at) && (x.long == body_length v r)) r m w e f
