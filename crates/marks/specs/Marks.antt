-- Sets of numbers, 64 to a word.
use Rattle.std.specs.Prelude.{ℕ, ◌/◌, ◌%◌, ◌^◌, ◌≡◌, ◌≢◌, Bool, true, List, get_or, eqb}

unfoldable pub marked : List ℕ → ℕ → Bool
marked words x = eqb (get_or words (x / 64) 0 / 2 ^ (x % 64) % 2) 1

-- x is marked too, and nothing else has changed
pub record Added (words : List ℕ) (x : ℕ) (after : List ℕ) : Type 0 where
  pub here : marked after x ≡ true
  pub others : (y : ℕ) → y ≢ x → marked after y ≡ marked words y
