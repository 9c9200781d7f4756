-- Tables 3: an extent is the highest slot used. Taking a slot leaves it the higher of what it was and that slot, and no call lowers it but those that begin the tables anew.
use Rattle.std.specs.Prelude.{if◌then◌else◌, ◌==◌}
use mathlib.Core.Path.{◌≡◌, refl}
use mathlib.Core.Logic.{◌⊎◌, inl, inr}
use mathlib.Core.Bool.{Bool, true, false}
use mathlib.Core.List.{List, [], map}
use Prim.Native.Nat.{ℕ, zero, suc, ◌≤◌}
use native.Mathlib.Omega.{arith}
use lib.ListN.{length}
use Rattle.rules.specs.declared.Pool.{Pool}
use Rattle.rules.specs.declared.Key.{Key}
use Rattle.rules.specs.Notation.{◌<?◌}
use Rattle.rules.specs.Tables.{frame_width, class_of, next_of, bytes_of, count_of, State, Side, elem_side, shared_side, size_at, is_sealed}
use Rattle.rules.specs.Sound.{both_fit}
use Rattle.rules.specs.Refusals.{Ruling, refuse, accept, outcome, with_live}
use Rattle.rules.specs.Reads
use Rattle.rules.specs.Slots
use Rattle.rules.specs.Slots.{empty, slot_of, taken, is_full, freed, free_element, free_shared, raise}
use Rattle.rules.specs.Runs
use Rattle.rules.specs.Runs.{left, removed, unlinked}
use Rattle.rules.specs.Drains
use Rattle.rules.specs.Drains.{is_short, key_width, record_width, free_ring, drained}
use Rattle.rules.specs.Seals
use Rattle.rules.specs.Seals.{seal_width}
use Rattle.rules.specs.Undo
use Rattle.rules.specs.Exchange
use Rattle.rules.specs.Exchange.{all_differ}
use Rattle.rules.specs.Compress
use Rattle.rules.specs.Compress.{pair_width}
use Rattle.rules.specs.WriteFile
use Rattle.rules.specs.WriteFile.{bytes_in}
use Rattle.rules.specs.Calls.{Call, len_surject, in_same_surject, get_element, get_shared, get_size, get_total, lookup, set_element, set_shared, check, new_run, insert, union, remove, remove_shared, list, drain, seal, drain_all, clear, undo, exchange, compress, compress_with, write_file, ruling, step}
use Rattle.rules.proofs.Laws.Rulings.{by_test, by_key, by-keys}

-- Rules 3: after taking a slot the extent is the higher of what it was and the slot taken
pub record Higher (was slot now : ℕ) : Type 0 where
  pub least : was ≤ now
  pub within : slot ≤ now
  pub one : (now ≡ was) ⊎ (now ≡ slot)

higher_of : (b : Bool) (p q : Pool) (was x y : ℕ) → Higher was x p.extent → Higher was y q.extent → Higher was (if b then x else y) (if b then p else q).extent
higher_of true p q was x y h k = h
higher_of false p q was x y h k = k

pub taken_higher : (t : Side) → t.pool.root ≤ t.pool.extent → Higher t.pool.extent (slot_of t.pool) (taken t).extent
unfolding slot_of taken
taken_higher t l = higher_of (t.pool.root == 0) _ _ _ _ _
    (record { least = omega arith; within = omega arith; one = inr refl })
    (record { least = omega arith; within = l; one = inl refl })

-- neither extent is lower
pub record NotLower (before after : State) : Type 0 where
  pub elems : before.head.elems.extent ≤ after.head.elems.extent
  pub shared : before.head.shared.extent ≤ after.head.shared.extent

same : (st : State) → NotLower st st
same st = record { elems = omega arith; shared = omega arith }

after_both : {a b c : State} → NotLower a b → NotLower b c → NotLower a c
after_both p q = record { elems = omega (arith, p.elems, q.elems); shared = omega (arith, p.shared, q.shared) }

by_either : (st : State) (b : Bool) (p q : State) → NotLower st p → NotLower st q → NotLower st (if b then p else q)
by_either st true p q h k = h
by_either st false p q h k = k

extent_either : (b : Bool) (p q : Pool) (n : ℕ) → n ≤ p.extent → n ≤ q.extent → n ≤ (if b then p else q).extent
extent_either true p q n h k = h
extent_either false p q n h k = k

taken_least : (t : Side) → t.pool.extent ≤ (taken t).extent
unfolding taken
taken_least t = extent_either (t.pool.root == 0) _ _ _ (omega arith) (omega arith)

left_not : (st : State) (c z : ℕ) → NotLower st (left st c z)
unfolding left free_shared freed
left_not st c z = by_either st (count_of st.shared c == 1) _ _ (record { elems = omega arith; shared = omega arith }) (record { elems = omega arith; shared = omega arith })

removed-not : (st : State) (x : ℕ) → NotLower st (removed st x)
unfolding removed unlinked free_element freed raise
removed-not st x = let l = left_not (free_element (unlinked st x) x) (class_of st.elems x) (bytes_of st.elems x) in record { elems = l.elems; shared = l.shared }

free_ring-not : (n : ℕ) (st : State) (x : ℕ) → NotLower st (free_ring n st x)
unfolding free_ring free_element freed
free_ring-not zero st x = same st
free_ring-not (suc n) st x = let l = free_ring-not n (free_element st x) (next_of st.elems x) in record { elems = l.elems; shared = l.shared }

drained-not : (n : ℕ) (st : State) (x : ℕ) → NotLower st (drained n st x)
unfolding drained
drained-not zero st x = same st
drained-not (suc n) st x = after_both (removed-not st x) (drained-not n (removed st x) (next_of st.elems x))

-- the calls that begin the tables anew
pub data Anew : Call → Type 0 where
  by-clear : Anew clear
  by-drain_all : Anew drain_all
  by-compress : {reset : Bool} → Anew (compress reset)
  by-compress_with : {reset : Bool} → Anew (compress_with reset)

abbrev Keeps : State → Ruling → Type 0
Keeps st (refuse r) = Unit {0}
Keeps st (accept values over after places) = NotLower st after

module _ (st : State) (lent : List ℕ) where
  either : (b : Bool) (p q : Ruling) → Keeps st p → Keeps st q → Keeps st (if b then p else q)
  either b p q h k = by_test (Keeps st) b p q (λ e. h) (λ e. k)

  on-live : (k : Key) (rule : ℕ → Ruling) → Keeps st (rule k.slot) → Keeps st (with_live st k rule)
  on-live k rule h = by_key (Keeps st) (λ r. tt) st k rule (λ l. h)

  keeps : (c : Call) → (Anew c → ⊥) → Keeps st (ruling st lent c)
  unfolding Reads.len_surject Reads.in_same_surject Reads.get_element Reads.get_shared Reads.get_size Reads.get_total Reads.lookup Reads.set_element Reads.set_shared Runs.new_run Runs.begun Runs.insert Runs.inserted Runs.keeping Runs.joined Runs.union Runs.remove Drains.remove_shared Drains.list Drains.drain Seals.seal Seals.sealed Exchange.exchange Undo.undo Undo.taken_back free_shared freed raise WriteFile.write_file
  keeps (len_surject k) n = on-live k _ (same st)
  keeps (in_same_surject j k) n = on-live j _ (on-live k _ (same st))
  keeps (get_element k) n = on-live k _ (same st)
  keeps (lookup k) n = on-live k _ (same st)
  keeps (get_shared k) n = on-live k _ (same st)
  keeps (get_size k) n = on-live k _ (same st)
  keeps (get_total k) n = on-live k _ (same st)
  keeps (set_element k payload) n = on-live k _ (record { elems = omega arith; shared = omega arith })
  keeps (set_shared k value) n = on-live k _ (record { elems = omega arith; shared = omega arith })
  keeps check n = same st
  keeps write_file n = either (length lent <? length (bytes_in 1 st)) _ _ tt (same st)
  keeps (new_run payload value size) n =
      either (is_full st.head.shared) _ _ tt (either (is_full st.head.elems) _ _ tt (record { elems = taken_least (elem_side st); shared = taken_least (shared_side st) }))
  keeps (insert k payload size) n =
      on-live k _ (either (is_sealed st k.slot) _ _ tt (either (is_full st.head.elems) _ _ tt (record { elems = taken_least (elem_side st); shared = omega arith })))
  keeps (union j k) n =
      let x = j.slot in
      let y = k.slot in
      on-live j _ (on-live k _ (either (class_of st.elems x == class_of st.elems y) _ _ tt
      (either (is_sealed st x) _ _ tt (either (is_sealed st y) _ _ tt
      (either (size_at st x <? size_at st y) _ _ (record { elems = omega arith; shared = omega arith }) (record { elems = omega arith; shared = omega arith }))))))
  keeps (remove k) n = on-live k _ (removed-not st k.slot)
  keeps (remove_shared k) n = on-live k _ (let l = free_ring-not (size_at st k.slot) st k.slot in record { elems = l.elems; shared = l.shared })
  keeps (list k) n = on-live k _ (either (is_short lent (size_at st k.slot) key_width) _ _ tt (same st))
  keeps (drain k) n = on-live k _ (either (is_short lent (size_at st k.slot) record_width) _ _ tt (drained-not (size_at st k.slot) st k.slot))
  keeps (seal k) n =
      on-live k _ (either (is_sealed st k.slot) _ _ tt (either (is_short lent (size_at st k.slot) seal_width) _ _ tt (record { elems = omega arith; shared = omega arith })))
  keeps drain_all n = absurd (n by-drain_all)
  keeps clear n = absurd (n by-clear)
  keeps undo n = either (st.head.undo.kept == 0) _ _ tt (record { elems = omega arith; shared = taken_least (shared_side st) })
  keeps (exchange keys values) n =
      by-keys (Keeps st) (λ r. tt) st keys _ (λ xs a. either (all_differ (map (class_of st.elems) xs)) _ _ (record { elems = omega arith; shared = omega arith }) tt)
  keeps (compress reset) n = absurd (n by-compress)
  keeps (compress_with reset) n = absurd (n by-compress_with)

  after : (r : Ruling) → Keeps st r → NotLower st (outcome st lent r).state
  after (refuse r) k = same st
  after (accept values over next places) k = k

  -- any other call, accepted or refused, from any state
  pub never_falls : (c : Call) → (Anew c → ⊥) → NotLower st (step st lent c).state
  never_falls c n = after (ruling st lent c) (keeps c n)

  -- what an accepted one of those makes of the extents
  abbrev Leaves : (elems shared : ℕ) → Ruling → Type 0
  Leaves elems shared r = (outcome st lent r).said.number ≡ 0 → ((outcome st lent r).state.head.elems.extent ≡ elems) × ((outcome st lent r).state.head.shared.extent ≡ shared)

  pub clear-extents : Leaves 0 0 (ruling st lent clear)
  unfolding Drains.clear Drains.cleared empty
  clear-extents e = (refl, refl)

  pub drain_all-extents : Leaves 0 0 (ruling st lent drain_all)
  unfolding Drains.drain_all Drains.cleared empty
  drain_all-extents = by_test (Leaves 0 0) (is_short lent st.head.elems.live record_width) _ _ (λ b e. absurd (omega (arith, e))) (λ b e. (refl, refl))

  pub compress-extents : (reset : Bool) → Leaves st.head.elems.live st.head.shared.live (ruling st lent (compress reset))
  unfolding Compress.compress Compress.renumbered_in
  compress-extents reset = by_test (Leaves st.head.elems.live st.head.shared.live) (is_short lent st.head.elems.capacity frame_width) _ _ (λ b e. absurd (omega (arith, e))) (λ b e. (refl, refl))

  pub compress_with-extents : (reset : Bool) → Leaves st.head.elems.live st.head.shared.live (ruling st lent (compress_with reset))
  unfolding Compress.compress_with Compress.renumbered_in
  compress_with-extents reset = by_test (Leaves st.head.elems.live st.head.shared.live) (is_short lent st.head.elems.live pair_width) _ _ (λ b e. absurd (omega (arith, e))) (λ b e. (refl, refl))

-- and fresh
pub fresh-extents : (st : State) (elems shared : ℕ) → Leaves st [] 0 0 (Slots.fresh st elems shared)
unfolding Slots.fresh empty
fresh-extents st elems shared = by_test (Leaves st [] 0 0) (both_fit st elems shared) _ _ (λ b e. (refl, refl)) (λ b e. absurd (omega (arith, e)))
