-- What the check of one table decides.
use Rattle.std.specs.Prelude.{◌≡◌, ◌≢◌, Bool, true, false, List, ℕ, ◌+◌, ◌-◌, ◌*◌, ◌≤◌, ◌<◌, length, get_or}
use Rattle.rules.specs.declared.Pool.{Pool}
use Rattle.rules.specs.Tables.{most_slots, cell, count_of, value_of, next_free_of, mark_of, total_of}
use Rattle.rules.proofs.Laws.Chains.{Linked}

-- true with a proof of the one, false with a refutation of the other
abbrev pub Verdict : Type 0 → Type 0 → Bool → Type 0
Verdict Y N true = Y
Verdict Y N false = N → ⊥

-- nothing but zeros from here on
abbrev pub Zeros : List ℕ → ℕ → Type 0
Zeros t from = (i : ℕ) → from ≤ i → get_or t i 0 ≡ 0

-- a table that fits its pool's capacity
pub record Roomy (p : Pool) (width : ℕ) (t : List ℕ) : Type 0 where
  pub most : p.capacity ≤ most_slots
  pub long : length t ≡ p.capacity * width

-- Sound 2, 5 and 6 of one table, with Ticket 4: the chain is as long as the extent leaves after the live slots
pub record PoolOk (p : Pool) (width link : ℕ) (t : List ℕ) : Type 0 where
  pub extent : p.extent ≤ p.capacity
  pub live : p.live ≤ p.extent
  pub zeros : Zeros t (p.extent * width)
  pub chain : Linked (cell width t 0) (cell width t link) p.extent (p.extent - p.live) p.root

-- Sound 6 and Tickets 1 and 6 of a shared slot; and of all
pub record HeaderOk (s : List ℕ) (c : ℕ) : Type 0 where
  pub free : count_of s c ≡ 0 → (value_of s c ≡ 0) × (total_of s c ≡ 0)
  pub live : count_of s c ≢ 0 → next_free_of s c ≡ 0
  pub mark : (mark_of s c ≤ 1) × (mark_of s c ≤ count_of s c)

abbrev pub Headers : List ℕ → ℕ → Type 0
Headers s m = (c : ℕ) → c < m → HeaderOk s (c + 1)
