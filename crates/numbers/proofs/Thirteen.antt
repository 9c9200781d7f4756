-- A head is thirteen numbers, and no second thirteen: what a host lends is determined by the head that it is.
use Prim.Native.Nat.{ℕ, zero, suc, ◌<◌}
use mathlib.Core.Path.{◌≡◌, refl, sym, ap, ◌∙◌}
use mathlib.Core.List.{List, [], ◌∷◌}
use native.Mathlib.Omega.{arith}
use lib.ListN.{length, get_or}
use lib.Seq.{ext_get_or}
use Rattle.rules.specs.declared.Head.{Head}
use Rattle.numbers.specs.Numbers.{head_of}

-- the thirteen numbers that a head is (docs/LAYOUT.md)
abbrev pub thirteen_of : Head → List ℕ
thirteen_of h =
    let e = h.elems in
    let s = h.shared in
    let m = h.undo in
    e.capacity ∷ e.extent ∷ e.root ∷ e.live ∷ s.capacity ∷ s.extent ∷ s.root ∷ s.live ∷ h.generation ∷ m.kept ∷ m.gone ∷ m.moved ∷ m.value ∷ []

pub head_of_thirteen : (h : Head) → head_of (thirteen_of h) ≡ h
unfolding head_of
head_of_thirteen h = refl

each : (n : List ℕ) (i : ℕ) → i < 13 → get_or n i 0 ≡ get_or (thirteen_of (head_of n)) i 0
unfolding head_of
each n zero l = refl
each n (suc zero) l = refl
each n (suc (suc zero)) l = refl
each n (suc (suc (suc zero))) l = refl
each n (suc (suc (suc (suc zero)))) l = refl
each n (suc (suc (suc (suc (suc zero))))) l = refl
each n (suc (suc (suc (suc (suc (suc zero)))))) l = refl
each n (suc (suc (suc (suc (suc (suc (suc zero))))))) l = refl
each n (suc (suc (suc (suc (suc (suc (suc (suc zero)))))))) l = refl
each n (suc (suc (suc (suc (suc (suc (suc (suc (suc zero))))))))) l = refl
each n (suc (suc (suc (suc (suc (suc (suc (suc (suc (suc zero)))))))))) l = refl
each n (suc (suc (suc (suc (suc (suc (suc (suc (suc (suc (suc zero))))))))))) l = refl
each n (suc (suc (suc (suc (suc (suc (suc (suc (suc (suc (suc (suc zero)))))))))))) l = refl
each n (suc (suc (suc (suc (suc (suc (suc (suc (suc (suc (suc (suc (suc i))))))))))))) l = absurd (omega arith)

pub thirteen_of_head : (n : List ℕ) → length n ≡ 13 → n ≡ thirteen_of (head_of n)
thirteen_of_head n e = ext_get_or 0 n (thirteen_of (head_of n)) e (λ i l. each n i (omega arith))

-- no second thirteen numbers are the same head
pub only_thirteen : (m n : List ℕ) → length m ≡ 13 → length n ≡ 13 → head_of m ≡ head_of n → m ≡ n
only_thirteen m n p q e = thirteen_of_head m p ∙ ap thirteen_of e ∙ sym (thirteen_of_head n q)
