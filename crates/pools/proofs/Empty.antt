-- Zeros, word by word.
use Rattle.std.proofs.Common.{◌≡◌, ℕ, zero, suc, ◌+◌, ◌-◌, ◌≤◌, ◌==◌, List, [], ◌∷◌, get_or, drop, bit_or, refl, sym, ap, ◌∙◌, arith}
use Rattle.std.specs.List.{fold}
use Rattle.std.proofs.lemmas.List.{get_or-drop}
use lib.Bits.{or_add_and, and_le_l, and_le_r}
use Rattle.rules.specs.Calls.{Is}
use Rattle.rules.proofs.Laws.Tests.{eq_is}
use Rattle.pools.specs.Pools.{Zeros}
use Rattle.pools.proofs.Ask.{is_like}

or_none : (a b : ℕ) → bit_or a b ≡ 0 → (a ≡ 0) × (b ≡ 0)
or_none a b e = (omega (arith, or_add_and a b, and_le_r a b), omega (arith, or_add_and a b, and_le_l a b))

-- an OR of words is 0 exactly if each of them is
or_each : (any : ℕ) (words : List ℕ) → fold bit_or any words ≡ 0 → (any ≡ 0) × ((i : ℕ) → get_or words i 0 ≡ 0)
or_each any [] e = (e, λ i. refl)
or_each any (w ∷ words) e =
    let rest = or_each (bit_or any w) words e in
    let both = or_none any w rest.0 in
    (both.0, λ i. at i both.1 rest.1)
  where
    at : (i : ℕ) → w ≡ 0 → ((j : ℕ) → get_or words j 0 ≡ 0) → get_or (w ∷ words) i 0 ≡ 0
    at zero h r = h
    at (suc i) h r = r i

each_or : (words : List ℕ) → ((i : ℕ) → get_or words i 0 ≡ 0) → fold bit_or 0 words ≡ 0
each_or [] z = refl
each_or (w ∷ words) z = let h : w ≡ 0 = z 0 in rw h (each_or words (λ i. z (suc i)))

pub zeros_by_or : (t : List ℕ) (from any : ℕ) → any ≡ fold bit_or 0 (drop from t) → Is (Zeros t from) (any == 0)
zeros_by_or t from any e = is_like (any == 0) (λ z i h. past i h ((or_each 0 (drop from t) (sym e ∙ z)).1 (i - from))) (λ z. e ∙ each_or (drop from t) (λ i. get_or-drop from t i 0 ∙ z (from + i) (omega arith))) (eq_is any 0)
  where
    past : (i : ℕ) → from ≤ i → get_or (drop from t) (i - from) 0 ≡ 0 → get_or t i 0 ≡ 0
    past i h z = let e : from + (i - from) ≡ i = omega arith in ap (λ (j : ℕ). get_or t j 0) (sym e) ∙ sym (get_or-drop from t (i - from) 0) ∙ z
