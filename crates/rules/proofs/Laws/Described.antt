-- What the head remembers describes a union (Undo, `Describes`) exactly if a walk finds it (`Traced`): so a walk of the check decides it.
use Rattle.std.specs.Prelude.{if◌then◌else◌, ◌==◌}
use mathlib.Core.Path.{◌≡◌, refl, sym, ap, ◌∙◌, subst}
use mathlib.Core.Logic.{◌≢◌, ◌↔◌, inl, inr}
use mathlib.Core.Bool.{Bool, true, false}
use mathlib.Core.List.{List, []}
use Prim.Native.Nat.{ℕ, suc, ◌+◌, ◌≤◌}
use native.Mathlib.Omega.{arith}
use lib.ListN.{length}
use Rattle.rules.specs.declared.Pool.{Pool}
use Rattle.rules.specs.declared.Memory.{Memory}
use Rattle.std.specs.Prelude.{Ok}
use Rattle.rules.specs.declared.Refusal.{Refusal}
use Rattle.rules.specs.declared.Refusal.TheVariants.{SameClass, Sealed}
use Rattle.rules.specs.Notation.{◌<?◌}
use Rattle.rules.specs.Tables.{blank, State, with_undo, Side, elem_side, shared_side, found, key_at, size_at, is_sealed}
use Rattle.rules.specs.Refusals.{Ruling, refuse, outcome}
use Rattle.rules.specs.Slots.{taken}
use Rattle.rules.specs.Runs.{joined, remembered, keeping, union}
use Rattle.rules.specs.Undo.{taken_back, Describes, Remembers}
use Rattle.rules.specs.Calls.{Ready, Is}
use Rattle.rules.proofs.Laws.Columns.{upd_same, upd_other}
use Rattle.rules.proofs.Laws.Pools.{live_in}
use Rattle.rules.proofs.Laws.Tests.{eq_is, le_is, is-not, is_false}
use Rattle.rules.proofs.Laws.Sides.{live_of}
use Rattle.rules.proofs.Laws.Working.{View, view}
use Rattle.rules.proofs.Laws.Soundness.{shaped_of, shaped_to}
use Rattle.rules.proofs.Laws.Safe.{working, found-live}
use Rattle.rules.proofs.Laws.Stored.{still_then, shaped-still}
use Rattle.rules.proofs.Laws.Rulings.{live_at, by_test, by_key}
use Rattle.rules.proofs.Laws.Steady.{unmarked}
use Rattle.rules.proofs.Laws.Union.{joined_v, joined_view, joined-still}
use Rattle.rules.proofs.Laws.Remembering.{with_memory, still-undo, state-same}
use Rattle.rules.proofs.Laws.Cut.{split_v, live-y, differ, class_off, class-x, fewer, count_d, count_c, split-joined}
use Rattle.rules.proofs.Laws.Undo.{taken_back-still}
use Rattle.rules.proofs.Laws.Traced.{Traced, union_traced, hx, cuts, back_view, back-ready}

-- the union of two live slots, the second run no larger
union-first : (st : State) → Ready st → (x y : ℕ) → (view st).gen x ≢ 0 → (view st).gen y ≢ 0 → (view st).class x ≢ (view st).class y → size_at st y ≤ size_at st x → (view st).mark ((view st).class x) ≡ 0 → (view st).mark ((view st).class y) ≡ 0
    → union st (key_at st x) (key_at st y) ≡ keeping st x y (key_at st x)
unfolding union
union-first st R x y hx hy apart l mx my =
    let W = working st R in
    let live : (s : ℕ) → (view st).gen s ≢ 0 → found st (key_at st s) ≡ Ok s = λ s h. let i = live_in W.elems s h in found-live st (key_at st s) (record { some = i.0; within = i.1; used = omega (arith, h) }) refl in
    rw (
      live x hx,
      live y hy,
      is_false ((view st).class x == (view st).class y) (eq_is ((view st).class x) ((view st).class y)) apart,
      mx,
      my,
      is_false (size_at st x <? size_at st y) (le_is (suc (size_at st x)) (size_at st y)) (λ m. omega arith),
    )

-- what a walk finds describes a union
module _ (st : State) (R : Ready st) (t : Traced st) where
  abbrev x : ℕ
  x = st.head.undo.kept

  abbrev y : ℕ
  y = st.head.undo.gone

  abbrev w : ℕ
  w = st.head.undo.value

  abbrev was : State
  was = taken_back st

  abbrev ys : List ℕ
  ys = (cuts st R t).0

  abbrev xs : List ℕ
  xs = (cuts st R t).1

  seen : {A : Type 0} (f : View → A) → f (view was) ≡ f (split_v (view st) x y ys w)
  seen f = ap f (back_view st R t)

  -- the columns of the state taken back, at the two slots
  at_x : (view was).gen x ≢ 0
  unfolding split_v
  at_x = rw (seen (λ v. v.gen x)) (hx st R t)

  at_y : (view was).gen y ≢ 0
  unfolding split_v
  at_y = rw (seen (λ v. v.gen y)) (live-y (view st) (working st R) x y (hx st R t) ys xs (cuts st R t).2 t.root w)

  class_at_x : (view was).class x ≡ (view st).class x
  class_at_x = seen (λ v. v.class x) ∙ class-x (view st) (working st R) x y (hx st R t) ys xs (cuts st R t).2 t.root w

  class_at_y : (view was).class y ≡ st.head.shared.root
  class_at_y = seen (λ v. v.class y) ∙ class_off (view st) (working st R) x y (hx st R t) ys xs (cuts st R t).2 t.root w y (inl refl)

  size-x : size_at was x ≡ suc (length xs)
  size-x = rw class_at_x (seen (λ v. v.count ((view st).class x)) ∙ count_c (view st) (working st R) x y (hx st R t) ys xs (cuts st R t).2 t.root w)

  size-y : size_at was y ≡ st.head.undo.moved
  size-y = rw class_at_y (seen (λ v. v.count st.head.shared.root) ∙ count_d (view st) (working st R) x y (hx st R t) ys xs (cuts st R t).2 t.root w ∙ (cuts st R t).3)

  value-y : (view was).value ((view was).class y) ≡ w
  unfolding split_v
  value-y = rw class_at_y (seen (λ v. v.value st.head.shared.root) ∙ upd_same (view st).value st.head.shared.root w)

  unsealed-x : (view was).mark ((view was).class x) ≡ 0
  unfolding split_v
  unsealed-x = rw class_at_x (seen (λ v. v.mark ((view st).class x)) ∙ upd_other (view st).mark st.head.shared.root 0 ((view st).class x) (differ (view st) (working st R) x y (hx st R t) ys xs (cuts st R t).2 t.root w) ∙ t.unsealed)

  unsealed-y : (view was).mark ((view was).class y) ≡ 0
  unfolding split_v
  unsealed-y = rw class_at_y (seen (λ v. v.mark st.head.shared.root) ∙ upd_same (view st).mark st.head.shared.root 0)

  memory : remembered was x y ≡ st.head.undo
  memory = λ i. record { kept = x; gone = y; moved = size-y i; value = value-y i }

  apart : (view was).class x ≢ (view was).class y
  apart = rw (class_at_x, class_at_y) (differ (view st) (working st R) x y (hx st R t) ys xs (cuts st R t).2 t.root w)

  small : size_at was y ≤ size_at was x
  small = rw (size-x, size-y) (omega (arith, t.half, (cuts st R t).3, fewer (view st) (working st R) x y (hx st R t) ys xs (cuts st R t).2 t.root w))

  joined-again : with_undo (joined was x y) (remembered was x y) ≡ st
  joined-again =
      state-same st (with_undo (joined was x y) (remembered was x y)) R (still-undo (remembered was x y) (still_then (taken_back-still st) (joined-still was x y)))
      (ap (λ (v : View). with_memory v (remembered was x y)) (joined_view was (back-ready st R t) x y at_x at_y ∙ ap (λ (v : View). joined_v v x y) (back_view st R t))
      ∙ ap (λ (m : Memory). with_memory (joined_v (split_v (view st) x y ys w) x y) m) memory
      ∙ split-joined (view st) (working st R) x y (hx st R t) ys xs (cuts st R t).2 t.root w)

  pub describes : Describes st
  unfolding keeping
  describes = record {
    sound = (back-ready st R t).sound;
    again = ap (λ (r : Ruling). (outcome was [] r).state) (union-first was (back-ready st R t) x y at_x at_y apart small unsealed-x unsealed-y) ∙ joined-again;
  }

-- and what describes a union a walk finds
taken_live : (t : Side) → (taken t).live ≡ t.pool.live + 1
unfolding taken
taken_live t = go (t.pool.root == 0) _ _ refl refl
  where
    go : (b : Bool) (p q : Pool) → p.live ≡ t.pool.live + 1 → q.live ≡ t.pool.live + 1 → (if◌then◌else◌ {A = Pool} b p q).live ≡ t.pool.live + 1
    go true p q e f = e
    go false p q e f = f

module _ (st : State) (R : Ready st) (D : Describes st) where
  B-ready : Ready (taken_back st)
  B-ready = record { shape = shaped_to (taken_back st) (shaped-still (taken_back-still st) (shaped_of st R.shape)); sound = D.sound }

  -- the state, where it is what is ruled there
  abbrev Gives : Ruling → Type 0
  Gives r = (outcome (taken_back st) [] r).state ≡ st → Traced st

  refused : (r : Refusal) → Gives (refuse r)
  unfolding taken_back
  refused r e = absurd (omega (arith, taken_live (shared_side st), ap (λ (s : State). s.head.shared.live) e))

  pub traced : Traced st
  unfolding union keeping
  traced = go D.again
    where
      go : Gives (union (taken_back st) (key_at (taken_back st) st.head.undo.kept) (key_at (taken_back st) st.head.undo.gone))
      go =
          let b = taken_back st in
          let x = st.head.undo.kept in
          let y = st.head.undo.gone in
          by_key Gives refused b (key_at b x) _ (λ lx. by_key Gives refused b (key_at b y) _ (λ ly.
          by_test Gives ((view b).class x == (view b).class y) _ _ (λ e. refused SameClass) (λ e.
          let n = is-not ((view b).class x ≡ (view b).class y) ((view b).class x == (view b).class y) (eq_is ((view b).class x) ((view b).class y)) e in
          by_test Gives (is_sealed b x) _ _ (λ s. refused Sealed) (λ s. by_test Gives (is_sealed b y) _ _ (λ m. refused Sealed) (λ m.
          by_test Gives (size_at b x <? size_at b y) _ _
          (λ f q. absurd (n (sym (ap (λ (s : State). (view b).class s.head.undo.kept) q))))
          (λ f q. subst (λ (s : State). Traced s) q (union_traced b B-ready x y (live_at b (key_at b x) lx) (live_at b (key_at b y) ly) n
          (let m = is-not (suc (size_at b x) ≤ size_at b y) (size_at b x <? size_at b y) (le_is (suc (size_at b x)) (size_at b y)) f in omega arith) (unmarked b B-ready x s))))))))

-- THE LAW: the two are one, in a state that keeps the clauses 1 to 11
pub described : (st : State) → Ready st → Describes st ↔ Traced st
described st R = (traced st R, describes st R)

-- so where soundness has what is remembered, nothing is exactly no kept slot
pub nothing_is : (st : State) → Ready st → Remembers st → Is (st.head.undo ≡ blank) (st.head.undo.kept == 0)
nothing_is st R M = go (st.head.undo.kept == 0) (eq_is st.head.undo.kept 0) M
  where
    go : (b : Bool) → Is (st.head.undo.kept ≡ 0) b → Remembers st → Is (st.head.undo ≡ blank) b
    go true e (inl m) = m
    go true e (inr d) = absurd (omega (arith, e, (live_of (elem_side st) st.head.undo.kept (traced st R d).kept).low))
    go false n m = λ e. n (ap (λ (q : Memory). q.kept) e)
