-- What wiping a table rests on.
use Rattle.std.specs.Prelude.{ℕ, ◌*◌, ◌≤◌, ◌≡◌, List, length, get_or}

-- a table of so many slots, zero past the first `used`
pub record ZeroPast (capacity width used : ℕ) (t : List ℕ) : Type 0 where
  pub long : length t ≡ capacity * width
  pub within : used ≤ capacity
  pub zeros : (i : ℕ) → used * width ≤ i → get_or t i 0 ≡ 0
