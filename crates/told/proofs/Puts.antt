-- One writing after another is one writing.
use Prim.Native.Nat.{ℕ, suc, ◌+◌, ◌*◌, ◌≤◌, ◌<◌}
use mathlib.Core.Path.{◌≡◌, refl, sym, ap, ◌∙◌}
use mathlib.Core.List.{List, [], ◌∷◌, ◌++◌, append_assoc, append-nil}
use native.Mathlib.Nat.{add-zero, add-suc, suc-add}
use native.Mathlib.Numerals.{add-one}
use native.Mathlib.Omega.{arith}
use lib.ListN.{length, set, get_or, take, length-append}
use lib.Seq.{sets, sets-eq, take-length, take-suc}
use borrow.Rule.Slice.PartMut.{put_mid}
use Rattle.std.proofs.lemmas.Slice.{put_mid-paste}
use Rattle.rules.specs.declared.Key.{Key}
use Rattle.rules.specs.Script.{space, bytes, decimal}
use Rattle.told.specs.Put.{Put}
use Rattle.told.specs.Texts.{spaced}

sets_append : (l : List ℕ) (i : ℕ) (xs ys : List ℕ) → sets (sets l i xs) (i + length xs) ys ≡ sets l i (xs ++ ys)
sets_append l i [] ys = rw add-zero
sets_append l i (x ∷ xs) ys = rw (add-suc, ← (suc-add i (length xs))) (sets_append (set l i x) (suc i) xs ys)

pub put_then : {a b d : List ℕ} {at m n : ℕ} {xs ys : List ℕ} → Put a at xs b m → Put b m ys d n → Put a at (xs ++ ys) d n
put_then {a} {b} {d} {at} {m} {n} {xs} {ys} p q =
    record {
      written = q.written ∙ rw (p.written, p.past) (sets_append a at xs ys);
      past = simp length-append (omega (arith, p.past, q.past));
    }

-- a text copied over a part
pub put_copied : (a text part : List ℕ) (at k : ℕ) → at + length text ≤ length a → part ≡ text → k ≡ length text → Put a at text (put_mid at k a part) (at + length text)
put_copied a text part at k h e n =
    record { written = put_mid-paste at k a part text (length text) e (sym n) refl ∙ rw take-length (sym (sets-eq text a at h)); past = refl }

-- a last byte after what was written
pub put_last : (a b : List ℕ) (at m : ℕ) (xs : List ℕ) (v : ℕ) → Put a at xs b m → Put a at (xs ++ v ∷ []) (set b m v) (m + 1)
put_last a b at m xs v p = put_then p (record { written = refl; past = refl })

-- one byte
pub put_one : (a : List ℕ) (at v : ℕ) → Put a at (v ∷ []) (set a at v) (at + 1)
put_one a at v = record { written = refl; past = refl }

-- nothing is written
pub put-none : (a : List ℕ) (at : ℕ) → Put a at [] a at
put-none a at = record { written = refl; past = sym (add-zero at) }

pub put_same : {a b : List ℕ} {at n : ℕ} {xs ys : List ℕ} → xs ≡ ys → Put a at xs b n → Put a at ys b n
put_same e p = rw e at p

-- a key after what was written
pub put_key_then : {a b d : List ℕ} {at m n : ℕ} {xs : List ℕ} (k : Key) → Put a at xs b m → Put b m (decimal k.slot ++ bytes " " ++ decimal k.generation) d n
    → Put a at (xs ++ decimal k.slot ++ bytes " " ++ decimal k.generation) d n
put_key_then {xs = xs} k p q = put_same (regroup xs (decimal k.slot) (bytes " ") (decimal k.generation)) (put_then p q)
  where
    regroup : (a b d e : List ℕ) → a ++ (b ++ d ++ e) ≡ a ++ b ++ d ++ e
    regroup a b d e = simp append_assoc

-- ---- numbers, each after a space

spaced_append : (xs ys : List ℕ) → spaced (xs ++ ys) ≡ spaced xs ++ spaced ys
spaced_append [] ys = refl
spaced_append (x ∷ xs) ys =
    ap (λ (r : List ℕ). space ∷ decimal x ++ r) (spaced_append xs ys) ∙ ap (λ (r : List ℕ). space ∷ r) (sym (append_assoc (decimal x) (spaced xs) (spaced ys)))

pub spaced_more : (xs : List ℕ) (i : ℕ) → i < length xs → spaced (take (i + 1) xs) ≡ spaced (take i xs) ++ space ∷ decimal (get_or xs i 0)
spaced_more xs i h =
    rw (add-one, take-suc xs i 0 h)
    (spaced_append (take i xs) (get_or xs i 0 ∷ []) ∙ ap (λ (r : List ℕ). spaced (take i xs) ++ space ∷ r) (append-nil (decimal (get_or xs i 0))))

-- the first `i` numbers are written, and the next one
pub record Written (out₀ : List ℕ) (at : ℕ) (numbers out : List ℕ) (next i : ℕ) : Type 0 where
  pub put : Put out₀ at (spaced (take i numbers)) out next
  pub room : next ≤ at + i * 21
  pub long : length out ≡ length out₀

pub written_more : {out₀ out out₁ out₂ numbers : List ℕ} {at next mid end i : ℕ} → Written out₀ at numbers out next i → i < length numbers
    → Put out next (space ∷ []) out₁ mid → Put out₁ mid (decimal (get_or numbers i 0)) out₂ end → end ≤ mid + 20 → length out₂ ≡ length out₀
    → Written out₀ at numbers out₂ end (i + 1)
written_more {numbers = numbers} {i = i} w h p q m l =
    record {
      put = put_same (sym (spaced_more numbers i h)) (put_then w.put (put_then p q));
      room = omega (arith, w.room, p.past);
      long = l;
    }
