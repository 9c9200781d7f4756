-- A reader that undoes a writer, and is undone by it: numbers, frames, entries, and so many of one kind.
use Prim.Native.Nat.{ℕ, zero, suc, ◌<◌}
use mathlib.Core.Path.{◌≡◌, refl, sym, ap, subst}
use mathlib.Core.List.{List, [], ◌∷◌, ◌++◌, map, append_assoc}
use native.Mathlib.Omega.{arith}
use lib.ListN.{length}
use Rattle.rules.specs.Notation.{flat, All}
use Rattle.rules.specs.Bytes.{Got, unread, got, Reader, onward, return, times, little, limit, Bytes, number}
use Rattle.rules.specs.RunFile.{StoredFrame, Entry, frame_bytes, entry_bytes, stored_frame, entry, FrameFits, EntryFits}
use Rattle.rules.proofs.Laws.Numbers.{Is, number-back, number-forth}

pub record Codec {A : Type 0} (read : Reader A) (write : A → List ℕ) (Good : A → Type 0) : Type 0 where
  pub back : (a : A) (rest : List ℕ) → Good a → read (write a ++ rest) ≡ got a rest
  pub forth : (b : List ℕ) (a : A) (rest : List ℕ) → Bytes b → read b ≡ got a rest → Is write Good b a rest

pub numbers : (w : ℕ) → Codec (number w) (little w) (λ n. n < limit w)
numbers w = record { back = number-back w; forth = number-forth w }

-- a step that succeeded, and the last one
pub via : {A B : Type 0} {r : Reader A} {w : A → List ℕ} {G : A → Type 0} → Codec r w G → (b : List ℕ) (next : A → Reader B) (x : B) (rest : List ℕ) → Bytes b → onward (r b) next ≡ got x rest
    → {P : Type 0} → ((a : A) (m : List ℕ) → G a → b ≡ w a ++ m → Bytes m → next a m ≡ got x rest → P) → P
via {A = A} {r = r} c b next x rest k e {P = P} then' = go (r b) refl e
  where
    go : (g : Got A) → r b ≡ g → onward g next ≡ got x rest → P
    go unread q e = absurd (let z : ◌≡◌ {A = ℕ} 0 1 = cc in omega arith)
    go (got a m) q e = let i = c.forth b a m k q in then' a m i.good i.same i.left e

pub ended : {A : Type 0} (w : A → List ℕ) (G : A → Type 0) (b : List ℕ) (a : A) (m : List ℕ) (x : A) (rest : List ℕ) → Is w G b a m → got a m ≡ got x rest → Is w G b x rest
ended w G b a m x rest i e = subst (λ y. Is w G b y rest) (cc) (subst (λ l. Is w G b a l) (cc) i)

abbrev pub Many : {A : Type 0} → (A → Type 0) → ℕ → List A → Type 0
Many Good n xs = All Good xs × (length xs ≡ n)

abbrev pub joined : {A : Type 0} → (A → List ℕ) → List A → List ℕ
joined write xs = flat (map write xs)

module _ {A : Type 0} (read : Reader A) (write : A → List ℕ) (Good : A → Type 0) (c : Codec read write Good) where
  times-back : (n : ℕ) (xs : List A) (rest : List ℕ) → Many Good n xs → times n read (joined write xs ++ rest) ≡ got xs rest
  unfolding times
  times-back zero [] rest g = refl
  times-back zero (x ∷ xs) rest g = absurd (omega arith)
  times-back (suc n) [] rest g = absurd (omega arith)
  times-back (suc n) (x ∷ xs) rest g =
      rw (append_assoc (write x) (joined write xs) rest, c.back x (joined write xs ++ rest) g.0.0, times-back n xs rest (g.0.1, omega arith))

  more : (n : ℕ) (b : List ℕ) (xs : List A) (rest : List ℕ) (x : A) (m : List ℕ) → Good x → b ≡ write x ++ m → onward (times n read m) (λ ys. return (x ∷ ys)) ≡ got xs rest
      → ((ys : List A) (m₂ : List ℕ) → times n read m ≡ got ys m₂ → Is (joined write) (Many Good n) m ys m₂) → Is (joined write) (Many Good (suc n)) b xs rest
  more n b xs rest x m g q e f = go (times n read m) refl e
    where
      go : (t : Got (List A)) → times n read m ≡ t → onward t (λ ys. return (x ∷ ys)) ≡ got xs rest → Is (joined write) (Many Good (suc n)) b xs rest
      go unread r e = absurd (let z : ◌≡◌ {A = ℕ} 0 1 = cc in omega arith)
      go (got ys m₂) r e =
          let j = f ys m₂ r in
          ended (joined write) (Many Good (suc n)) b (x ∷ ys) m₂ xs rest
          (record {
            good = ((g, j.good.0), ap suc j.good.1);
            same = rw (q, j.same) (sym (append_assoc (write x) (joined write ys) m₂));
            left = j.left;
          }) e

  times-forth : (n : ℕ) (b : List ℕ) (xs : List A) (rest : List ℕ) → Bytes b → times n read b ≡ got xs rest → Is (joined write) (Many Good n) b xs rest
  unfolding times
  times-forth zero b xs rest k e =
      let p : [] ≡ xs = cc in
      let q : b ≡ rest = cc in
      subst (λ (l : List A). Is (joined write) (Many Good zero) b l rest) p
      (record { good = (tt, refl); same = q; left = subst Bytes q k })
  times-forth (suc n) b xs rest k e =
      via c b _ xs rest k e λ x m g q k₁ e₁.
      more n b xs rest x m g q e₁ (λ ys m₂ r. times-forth n m ys m₂ k₁ r)

  pub many : (n : ℕ) → Codec (times n read) (joined write) (Many Good n)
  many n = record { back = times-back n; forth = times-forth n }

pub three : (a b c rest : List ℕ) → (a ++ b ++ c) ++ rest ≡ a ++ (b ++ (c ++ rest))
three a b c rest = simp append_assoc

-- a frame
frame_back : (v : ℕ) (f : StoredFrame) (rest : List ℕ) → FrameFits v f → stored_frame v (frame_bytes v f ++ rest) ≡ got f rest
unfolding stored_frame frame_bytes
frame_back v f rest g =
    let p = little 8 f.payload in
    let z = little 4 f.size in
    rw (append_assoc p z rest, number-back 8 f.payload (z ++ rest) g.payload, number-back 4 f.size rest g.size)

frame-forth : (v : ℕ) (b : List ℕ) (f : StoredFrame) (rest : List ℕ) → Bytes b → stored_frame v b ≡ got f rest → Is (frame_bytes v) (FrameFits v) b f rest
unfolding stored_frame frame_bytes
frame-forth v b f rest k e =
    via (numbers 8) b _ f rest k e λ p m₁ g₁ e₁ k₁ n₁.
    via (numbers 4) m₁ _ f rest k₁ n₁ λ z m₂ g₂ e₂ k₂ n₂.
    ended (frame_bytes v) (FrameFits v) b (record { payload = p; size = z }) m₂ f rest
    (record {
      good = record { payload = g₁; size = g₂ };
      same = rw (e₁, e₂) (sym (append_assoc (little 8 p) (little 4 z) m₂));
      left = k₂;
    }) n₂

pub frames_read : (v : ℕ) → Codec (stored_frame v) (frame_bytes v) (FrameFits v)
frames_read v = record { back = frame_back v; forth = frame-forth v }

-- an entry of the contents
entry-back : (e : Entry) (rest : List ℕ) → EntryFits e → entry (entry_bytes e ++ rest) ≡ got e rest
unfolding entry entry_bytes
entry-back e rest g =
    let p = little 4 e.offset in
    let z = little 4 e.long in
    rw (append_assoc p z rest, number-back 4 e.offset (z ++ rest) g.offset, number-back 4 e.long rest g.long)

entry-forth : (b : List ℕ) (s : Entry) (rest : List ℕ) → Bytes b → entry b ≡ got s rest → Is entry_bytes EntryFits b s rest
unfolding entry entry_bytes
entry-forth b s rest k e =
    via (numbers 4) b _ s rest k e λ p m₁ g₁ e₁ k₁ n₁.
    via (numbers 4) m₁ _ s rest k₁ n₁ λ z m₂ g₂ e₂ k₂ n₂.
    ended entry_bytes EntryFits b (record { offset = p; long = z }) m₂ s rest
    (record {
      good = record { offset = g₁; long = g₂ };
      same = rw (e₁, e₂) (sym (append_assoc (little 4 p) (little 4 z) m₂));
      left = k₂;
    }) n₂

pub entries_read : Codec entry entry_bytes EntryFits
entries_read = record { back = entry-back; forth = entry-forth }
