-- Ticket 9: the place of the highest one bit, by powers of two; and what the figure does when numbers are added.
use Rattle.std.specs.Prelude.{if◌then◌else◌}
use mathlib.Core.Path.{◌≡◌, refl, ◌∙◌}
use mathlib.Core.Bool.{Bool, true, false}
use Prim.Native.Nat.{ℕ, zero, suc, ◌+◌, ◌*◌, ◌^◌, ◌≤◌, ◌<◌}
use native.Mathlib.Nat.{pow-suc, add-mul, mul-suc, mul-le-mul_left}
use native.Mathlib.Decide.{dec_le}
use native.Mathlib.Omega.{arith}
use lib.Pow.{pow_mono}
use Rattle.rules.specs.Notation.{◌≤?◌}
use Rattle.rules.specs.Tables.{most_slots}
use Rattle.rules.specs.Calls.{Is}
use Rattle.rules.specs.Ceiling.{highest_bit, HighestBit, ceiling}
use Rattle.rules.proofs.Laws.Tests.{le_is}

doubled : (place : ℕ) → 2 ^ suc place ≡ 2 ^ place + 2 ^ place
doubled place = pow-suc 2 place ∙ omega arith

-- from one number to the next
next_tie : (n place : ℕ) (b : Bool) → Is (2 ^ suc place ≤ suc n) b → HighestBit n place → HighestBit (suc n) (if b then suc place else place)
next_tie n place true l t = record { reached = l; below = omega (arith, t.below, doubled (suc place)) }
next_tie n place false l t = record { reached = omega (arith, t.reached); below = omega arith }

pub ties : (n : ℕ) → 1 ≤ n → HighestBit n (highest_bit n)
unfolding highest_bit
ties zero l = absurd (omega arith)
ties (suc zero) l = record { reached = omega arith; below = omega arith }
ties (suc (suc n)) l = next_tie (suc n) (highest_bit (suc n)) (2 ^ suc (highest_bit (suc n)) ≤? suc (suc n)) (le_is (2 ^ suc (highest_bit (suc n))) (suc (suc n))) (ties (suc n) (omega arith))

-- a lower power is at a lower place
lower : (i j n : ℕ) → 2 ^ i ≤ n → n < 2 ^ suc j → i ≤ j
lower i j n h l = go (dec_le i j)
  where
    go : Dec (i ≤ j) → i ≤ j
    go (yes e) = e
    go (no e) = let m : 2 ^ suc j ≤ 2 ^ i = pow_mono (omega arith) in absurd (omega arith)

pub highest_le : (a b : ℕ) → 1 ≤ a → a ≤ b → highest_bit a ≤ highest_bit b
highest_le a b p l = lower (highest_bit a) (highest_bit b) b (omega (arith, (ties a p).reached)) (ties b (omega arith)).below

-- with at least as many added, it is one higher
pub highest_up : (a b : ℕ) → 1 ≤ a → a ≤ b → suc (highest_bit a) ≤ highest_bit (a + b)
highest_up a b p l = lower (suc (highest_bit a)) (highest_bit (a + b)) (a + b) (omega (arith, (ties a p).reached, doubled (highest_bit a))) (ties (a + b) (omega arith)).below

-- the only such place
pub only : (n place : ℕ) → HighestBit n place → place ≡ highest_bit n
only n place t =
    let u = ties n (omega (arith, t.reached, pow_mono {i = 0} {j = place} (omega arith))) in
    omega (arith, lower place (highest_bit n) n t.reached u.below, lower (highest_bit n) place n u.reached t.below)

-- the figure of a sum
pub ceiling-sum : (a b : ℕ) → ceiling a + ceiling b ≤ ceiling (a + b)
ceiling-sum a b = go (dec_le 1 a) (dec_le 1 b)
  where
    go : Dec (1 ≤ a) → Dec (1 ≤ b) → ceiling a + ceiling b ≤ ceiling (a + b)
    go (no p) q = let e : a ≡ 0 = omega arith in let f : a + b ≡ b = omega arith in rw (f, e) (omega arith)
    go (yes p) (no q) = let e : b ≡ 0 = omega arith in let f : a + b ≡ a = omega arith in rw (f, e) (omega arith)
    go (yes p) (yes q) =
        let l = highest_bit (a + b) in
        let x : a * highest_bit a ≤ a * l = mul-le-mul_left a (highest_le a (a + b) p (omega arith)) in
        let y : b * highest_bit b ≤ b * l = mul-le-mul_left b (highest_le b (a + b) q (omega arith)) in
        omega (arith, x, y, add-mul a b l)

-- and with the smaller one rewritten
pub ceiling-join : (a b : ℕ) → 1 ≤ a → a ≤ b → ceiling a + ceiling b + a ≤ ceiling (a + b)
ceiling-join a b p h =
    let l = highest_bit (a + b) in
    let x : a * suc (highest_bit a) ≤ a * l = mul-le-mul_left a (highest_up a b p h) in
    let y : b * highest_bit b ≤ b * l = mul-le-mul_left b (highest_le b (a + b) (omega arith) (omega arith)) in
    omega (arith, x, y, add-mul a b l, mul-suc a (highest_bit a))

-- for the numbers that the call takes, it is no higher than 16
pub highest_most : (n : ℕ) → 1 ≤ n → n ≤ most_slots → highest_bit n ≤ 16
highest_most n p h = lower (highest_bit n) 16 n (ties n p).reached (omega (arith, h, pow_seventeen))
  where
    pow_seventeen : 2 ^ 17 ≡ 131072
    pow_seventeen = refl
