-- What removals share: slots freed and the generation raised. Capacities and lengths stay, the generation stays in range, and the columns of a freed frame are known.
use mathlib.Core.Path.{◌≡◌, refl}
use Prim.Native.Nat.{ℕ, ◌+◌, ◌≤◌}
use native.Mathlib.Omega.{arith}
use native.Mathlib.Decide.{ℕ_discrete}
use Rattle.rules.specs.Tables.{last_generation, frame_width, header_width, State, with_pools, with_generation}
use Rattle.rules.specs.Slots.{freed, free_slot, free_element, free_shared, raised, raise}
use Rattle.rules.specs.Runs.{left}
use Rattle.rules.specs.Tables.{count_of}
use Rattle.rules.proofs.Laws.Columns.{upd, cols, length-put, length-row}
use Rattle.rules.proofs.Laws.Pools.{if_eq, if_ne, eqb-true, eqb-false}
use Rattle.rules.proofs.Laws.Working.{View, view, view_path}
use Rattle.rules.proofs.Laws.Stored.{Stored, Still}

-- ---- the generation

pub raised_least : (g : ℕ) → 1 ≤ raised g
unfolding raised
raised_least g = go (ℕ_discrete g last_generation)
  where
    go : Dec (g ≡ last_generation) → 1 ≤ raised g
    go (yes e) = rw (if_eq g last_generation 1 (g + 1) e) (omega arith)
    go (no e) = rw (if_ne g last_generation 1 (g + 1) e) (omega arith)

pub raised-most : (g : ℕ) → g ≤ last_generation → raised g ≤ last_generation
unfolding raised
raised-most g h = go (ℕ_discrete g last_generation)
  where
    go : Dec (g ≡ last_generation) → raised g ≤ last_generation
    go (yes e) = rw (if_eq g last_generation 1 (g + 1) e) (omega arith)
    go (no e) = rw (if_ne g last_generation 1 (g + 1) e) (omega arith)

-- ---- capacities and lengths

pub raise-still : (st : State) → Still st (raise st)
unfolding raise
raise-still st = record { elems = refl; shared = refl; elems-long = refl; shared_long = refl }

pub free_element-still : (st : State) (s : ℕ) → Still st (free_element st s)
unfolding free_element free_slot freed
free_element-still st s = record { elems = refl; shared = refl; elems-long = simp length-row; shared_long = refl }

pub free_shared-still : (st : State) (c : ℕ) → Still st (free_shared st c)
unfolding free_shared free_slot freed
free_shared-still st c = record { elems = refl; shared = refl; elems-long = refl; shared_long = simp length-row }

pub left-still : (st : State) (c z : ℕ) → Still st (left st c z)
unfolding left
left-still st c z = go (ℕ_discrete (count_of st.shared c) 1)
  where
    go : Dec (count_of st.shared c ≡ 1) → Still st (left st c z)
    go (yes e) = rw (eqb-true (count_of st.shared c) 1 e) (free_shared-still st c)
    go (no e) = rw (eqb-false (count_of st.shared c) 1 e) (record { elems = refl; shared = refl; elems-long = refl; shared_long = simp length-put })

-- ---- columns

abbrev pub raise_v : View → View
raise_v v = record {
  head = with_generation v.head (raised v.head.generation);
  gen = v.gen;
  pay = v.pay;
  class = v.class;
  prev = v.prev;
  next = v.next;
  bytes = v.bytes;
  count = v.count;
  value = v.value;
  chain = v.chain;
  mark = v.mark;
  total = v.total;
}

-- a frame, and a header, freed
unfoldable pub free_element_v : View → (slot : ℕ) → View
free_element_v v s = record {
  head = with_pools v.head (freed v.head.elems s) v.head.shared;
  gen = upd v.gen s 0;
  pay = upd v.pay s 0;
  class = upd v.class s 0;
  prev = upd v.prev s 0;
  next = upd v.next s v.head.elems.root;
  bytes = upd v.bytes s 0;
  count = v.count;
  value = v.value;
  chain = v.chain;
  mark = v.mark;
  total = v.total;
}

unfoldable pub free_shared_v : View → (slot : ℕ) → View
free_shared_v v c = record {
  head = with_pools v.head v.head.elems (freed v.head.shared c);
  gen = v.gen;
  pay = v.pay;
  class = v.class;
  prev = v.prev;
  next = v.next;
  bytes = v.bytes;
  count = upd v.count c 0;
  value = upd v.value c 0;
  chain = upd v.chain c v.head.shared.root;
  mark = upd v.mark c 0;
  total = upd v.total c 0;
}

pub free_element-view : (st : State) (s : ℕ) → Stored frame_width st.elems s → view (free_element st s) ≡ free_element_v (view st) s
unfolding free_element free_slot free_element_v
free_element-view st s h = view_path _ _ refl (search cols) (search cols) (search cols) (search cols) (search cols) (search cols) refl refl refl refl refl

pub free_shared-view : (st : State) (c : ℕ) → Stored header_width st.shared c → view (free_shared st c) ≡ free_shared_v (view st) c
unfolding free_shared free_slot free_shared_v
free_shared-view st c h = view_path _ _ refl refl refl refl refl refl refl (search cols) (search cols) (search cols) (search cols) (search cols)
