-- The frames of a ring, stored one after another: what is stored, and what is left to store.
use Prim.Native.Nat.{ℕ, zero, suc, ◌+◌, ◌*◌, ◌-◌, ◌≤◌, ◌<◌}
use mathlib.Core.Path.{◌≡◌, refl, sym, ap, ◌∙◌}
use mathlib.Core.List.{List, ◌∷◌, ◌++◌, map}
use native.Mathlib.Omega.{arith}
use lib.ListN.{length}
use lib.Seq.{sets, length-sets}
use Rattle.rules.specs.Notation.{along, flat}
use Rattle.rules.specs.Tables.{payload_of, next_of, bytes_of}
use Rattle.rules.specs.Bytes.{little}
use Rattle.rules.specs.RunFile.{frame_length, frame_bytes}
use Rattle.rules.proofs.Laws.Numbers.{length-little}
use Rattle.rules.proofs.Laws.FileLength.{length-frame}
use Rattle.slots.specs.Asked.{Along}
use Rattle.littles.proofs.Cells.{sets_append}
use Rattle.file_writes.specs.Writes.{stored_as, frames_along}

-- a store after a store, the place being known
pub sets_then : (l l₁ l₂ : List ℕ) (at k : ℕ) (a b : List ℕ) → length a ≡ k → l₁ ≡ sets l at a → l₂ ≡ sets l₁ (at + k) b → l₂ ≡ sets l at (a ++ b)
sets_then l l₁ l₂ at k a b n p q =
    q ∙ ap (λ (x : List ℕ). sets x (at + k) b) p ∙ ap (λ (x : ℕ). sets (sets l at a) (at + x) b) (sym n) ∙ sets_append l at a b

pub frame_stored : (l l₁ l₂ : List ℕ) (at p s : ℕ) → l₁ ≡ sets l at (little 8 p) → l₂ ≡ sets l₁ (at + 8) (little 4 s) → l₂ ≡ sets l at (stored_as p s)
unfolding frame_bytes
frame_stored l l₁ l₂ at p s one two = sets_then l l₁ l₂ at 8 (little 8 p) (little 4 s) (length-little 8 p) one two

-- after so many frames: the slot that comes, and its place
pub record Storing (e : List ℕ) (n x : ℕ) (out₀ : List ℕ) (place : ℕ) (out : List ℕ) (i slot at : ℕ) : Type 0 where
  pub ahead : Along e (n - i) slot
  pub room : place + n * frame_length 1 ≤ length out
  pub rest : sets out at (frames_along e (n - i) slot) ≡ sets out₀ place (frames_along e n x)
  pub here : at ≡ place + i * frame_length 1

along-step : (f : ℕ → ℕ) (n x : ℕ) → 0 < n → along f n x ≡ x ∷ along f (n - 1) (f x)
along-step f zero x h = absurd (omega arith)
along-step f (suc n) x h = let z : suc n - 1 ≡ n = omega arith in rw z

module _ {e : List ℕ} {n x : ℕ} {out₀ : List ℕ} {place : ℕ} {out : List ℕ} {i slot at : ℕ} (s : Storing e n x out₀ place out i slot at) where
  module _ (h : i < n) where
    pub storing_next : (p z t : ℕ) (out₁ : List ℕ) → p ≡ payload_of e slot → z ≡ bytes_of e slot → t ≡ next_of e slot → out₁ ≡ sets out at (stored_as p z)
        → Storing e n x out₀ place out₁ (i + 1) t (at + frame_length 1)
    storing_next p z t out₁ ep ez et eq =
        let w : ℕ = frame_length 1 in
        let m : n - i - 1 ≡ n - (i + 1) = omega arith in
        let a : along (next_of e) (n - i) slot ≡ slot ∷ along (next_of e) (n - (i + 1)) (next_of e slot) = along-step (next_of e) (n - i) slot (omega arith) ∙ rw m in
        let r : List ℕ = frames_along e (n - (i + 1)) (next_of e slot) in
        let f : List ℕ = stored_as (payload_of e slot) (bytes_of e slot) in
        let u : frames_along e (n - i) slot ≡ f ++ r = ap (λ (y : List ℕ). flat (map (λ s. stored_as (payload_of e s) (bytes_of e s)) y)) a in
        let q : out₁ ≡ sets out at f = eq ∙ ap (λ (y : ℕ). sets out at (stored_as y z)) ep ∙ ap (λ (y : ℕ). sets out at (stored_as (payload_of e slot) y)) ez in
        let g : sets out₁ (at + w) r ≡ sets out at (f ++ r) = sets_then out out₁ (sets out₁ (at + w) r) at w f r (length-frame 1 _) q refl in
        let k : length out₁ ≡ length out = ap length q ∙ length-sets out at f in
        record {
          ahead = rw et (record { each = λ j l. s.ahead.each (suc j) (omega arith) });
          room = omega (arith, s.room, k);
          rest = rw et (g ∙ ap (sets out at) (sym u) ∙ s.rest);
          here = omega (arith, s.here);
        }
