-- Ticket 11: numbers as bytes, and reading from the front of a list of bytes: what was read, and the bytes that are left.
use Rattle.std.specs.Prelude.{ℕ, zero, suc, ◌+◌, ◌*◌, ◌/◌, ◌%◌, ◌<◌, List, [], ◌∷◌, length, drop, if◌then◌else◌}
use Rattle.rules.specs.Notation.{◌≤?◌}

infixr 3 ◌>>=◌
pub data Got (A : Type 0) : Type 0 where
  unread : Got A
  got : A → (rest : List ℕ) → Got A

abbrev pub Reader : Type 0 → Type 0
Reader A = List ℕ → Got A

abbrev pub onward : {A B : Type 0} → Got A → (A → Reader B) → Got B
onward unread next = unread
onward (got a rest) next = next a rest

abbrev pub ◌>>=◌ : {A B : Type 0} → Reader A → (A → Reader B) → Reader B
◌>>=◌ r next b = onward (r b) next

abbrev pub return : {A : Type 0} → A → Reader A
return a b = got a b

abbrev pub reject : {A : Type 0} → Reader A
reject b = unread

-- the same thing so many times
unfoldable pub times : {A : Type 0} → ℕ → Reader A → Reader (List A)
times zero r = return []
times (suc n) r = do
  a ← r
  rest ← times n r
  return (a ∷ rest)

-- a number as so many bytes, little-endian; and the number that the first bytes are
unfoldable pub little : (width n : ℕ) → List ℕ
little zero n = []
little (suc w) n = n % 256 ∷ little w (n / 256)

unfoldable pub value : (width : ℕ) → List ℕ → ℕ
value zero b = 0
value (suc w) [] = 0
value (suc w) (x ∷ b) = x + 256 * value w b

-- the numbers below this have so many bytes; a list of bytes
abbrev pub limit : (width : ℕ) → ℕ
limit zero = 1
limit (suc w) = 256 * limit w

abbrev pub Bytes : List ℕ → Type 0
Bytes [] = Unit {0}
Bytes (x ∷ b) = (x < 256) × Bytes b

unfoldable pub number : (width : ℕ) → Reader ℕ
number w b = if w ≤? length b then got (value w b) (drop w b) else unread
