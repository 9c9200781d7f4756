-- Many frames freed, one after another along a walk: columns, pool, and the book's `free_ring`.
use mathlib.Core.Path.{◌≡◌, refl, sym, ap, subst⁻¹, ◌∙◌}
use mathlib.Core.Logic.{◌≢◌, inl, inr}
use mathlib.Core.List.{List, [], ◌∷◌}
use Prim.Native.Nat.{ℕ, zero, suc}
use lib.ListN.{length}
use native.Mathlib.Decide.{ℕ_discrete}
use Rattle.rules.specs.declared.Pool.{Pool}
use Rattle.rules.specs.declared.Memory.{Memory}
use Rattle.rules.specs.Tables.{frame_width, State, blank}
use Rattle.rules.specs.Slots.{freed, free_element}
use Rattle.rules.specs.Drains.{free_ring}
use Rattle.rules.proofs.Laws.Lists.{Walk, walk-frame, All, In, Out, NoDup, all_map, all_both}
use Rattle.rules.proofs.Laws.Columns.{upd, upd_same, upd_other}
use Rattle.rules.proofs.Laws.Pools.{Pooled, free}
use Rattle.rules.proofs.Laws.Working.{View, view}
use Rattle.rules.proofs.Laws.Stored.{Stored, Still, still_then}
use Rattle.rules.proofs.Laws.Freed.{free_element-still, free_element_v, free_element-view}

-- 0 at each slot of the list
abbrev pub wipe : List ℕ → (ℕ → ℕ) → ℕ → ℕ
wipe [] f = f
wipe (x ∷ xs) f = wipe xs (upd f x 0)

-- each slot of the list names the one freed before it
abbrev pub thread : List ℕ → ℕ → (ℕ → ℕ) → ℕ → ℕ
thread [] r n = n
thread (x ∷ xs) r n = thread xs x (upd n x r)

abbrev pub freed_all : List ℕ → Pool → Pool
freed_all [] p = p
freed_all (x ∷ xs) p = freed_all xs (freed p x)

pub wipe_out : (xs : List ℕ) (f : ℕ → ℕ) (s : ℕ) → Out s xs → wipe xs f s ≡ f s
wipe_out [] f s o = refl
wipe_out (x ∷ xs) f s o = wipe_out xs (upd f x 0) s o.1 ∙ upd_other f x 0 s o.0

pub wipe_zero : (xs : List ℕ) (f : ℕ → ℕ) (s : ℕ) → f s ≡ 0 → wipe xs f s ≡ 0
wipe_zero [] f s e = e
wipe_zero (x ∷ xs) f s e = wipe_zero xs (upd f x 0) s (go (ℕ_discrete s x))
  where
    go : Dec (s ≡ x) → upd f x 0 s ≡ 0
    go (yes q) = rw (q, upd_same)
    go (no q) = upd_other f x 0 s q ∙ e

pub wipe_in : (xs : List ℕ) (f : ℕ → ℕ) (s : ℕ) → In s xs → wipe xs f s ≡ 0
wipe_in [] f s x' = elim x' [ ]
wipe_in (x ∷ xs) f s (inl e) = wipe_zero xs (upd f x 0) s (rw (e, upd_same))
wipe_in (x ∷ xs) f s (inr m) = wipe_in xs (upd f x 0) s m

pub thread_out : (xs : List ℕ) (r : ℕ) (n : ℕ → ℕ) (s : ℕ) → Out s xs → thread xs r n s ≡ n s
thread_out [] r n s o = refl
thread_out (x ∷ xs) r n s o = thread_out xs x (upd n x r) s o.1 ∙ upd_other n x r s o.0

pub freed_all-capacity : (xs : List ℕ) (p : Pool) → (freed_all xs p).capacity ≡ p.capacity
unfolding freed
freed_all-capacity [] p = refl
freed_all-capacity (x ∷ xs) p = freed_all-capacity xs (freed p x)

-- all are freed
pub pool-all : (xs : List ℕ) {p : Pool} {g n : ℕ → ℕ} → Pooled p g n → NoDup xs → All (λ s. g s ≢ 0) xs → Pooled (freed_all xs p) (wipe xs g) (thread xs p.root n)
unfolding freed
pool-all [] P u h = P
pool-all (x ∷ xs) {p} {g} {n} P u h =
    pool-all xs (free P x h.0 (upd n x p.root) (upd_same n x p.root) (λ s e. upd_other n x p.root s (λ q. h.0 (rw q at e)))) u.1
    (all_both {P = λ s. x ≢ s} {Q = λ s. g s ≢ 0} (λ s o l. rw (upd_other g x 0 s (λ q. o (sym q))) l) xs u.0 h.1)

-- ---- the book's freeing along next

pub free_ring-still : (n : ℕ) (st : State) (x : ℕ) → Still st (free_ring n st x)
unfolding free_ring
free_ring-still zero st x = record { elems = refl; shared = refl; elems-long = refl; shared_long = refl }
free_ring-still (suc n) st x = still_then (free_element-still st x) (free_ring-still n (free_element st x) ((view st).next x))

-- one that is freed drops what the head remembers
abbrev pub unless_freed : List ℕ → Memory → Memory
unless_freed [] m = m
unless_freed (x ∷ xs) m = unless_freed xs blank

-- the frames of a walk are freed
unfoldable pub free_all_v : View → List ℕ → View
free_all_v v xs = record {
  head = record { elems = freed_all xs v.head.elems; shared = v.head.shared; generation = v.head.generation; undo = unless_freed xs v.head.undo };
  gen = wipe xs v.gen;
  pay = wipe xs v.pay;
  class = wipe xs v.class;
  prev = wipe xs v.prev;
  next = thread xs v.head.elems.root v.next;
  bytes = wipe xs v.bytes;
  count = v.count;
  value = v.value;
  chain = v.chain;
  mark = v.mark;
  total = v.total;
}

pub free_ring-view : (xs : List ℕ) (st : State) (x z : ℕ) → Walk (view st).next x z xs → NoDup xs → All (Stored frame_width st.elems) xs → view (free_ring (length xs) st x) ≡ free_all_v (view st) xs
unfolding free_ring free_all_v free_element_v freed
free_ring-view [] st x z w u h = refl
free_ring-view (y ∷ ys) st x z w u h =
    let q = free_element-view st y h.0 in
    let long : length (free_element st y).elems ≡ length st.elems = (free_element-still st y).elems-long in
    let walk = walk-frame (view st).next (view (free_element st y)).next ((view st).next y) z ys
    (all_map (λ s o. next-other q s (λ e. o (sym e))) ys u.0) w.1 in
    let rest = free_ring-view ys (free_element st y) ((view st).next y) z walk u.1 (all_map (λ s p. record { low = p.low; high = rw long p.high }) ys h.1) in
    subst⁻¹ (λ (a : ℕ). view (free_ring (suc (length ys)) st a) ≡ free_all_v (view st) (y ∷ ys)) w.0 (rest ∙ ap (λ (v : View). free_all_v v ys) q)
  where
    next-other : view (free_element st y) ≡ free_element_v (view st) y → (s : ℕ) → s ≢ y → (view (free_element st y)).next s ≡ (view st).next s
    next-other q s e = ap (λ (v : View). v.next s) q ∙ upd_other (view st).next y st.head.elems.root s e
