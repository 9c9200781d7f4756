-- What the head of a sound state remembers can be taken back.
use Prim.Native.Nat.{ℕ, ◌-◌}
use mathlib.Core.Path.{◌≡◌, ap, sym, ◌∙◌}
use mathlib.Core.Logic.{◌≢◌}
use mathlib.Core.List.{List, []}
use native.Mathlib.Omega.{arith}
use Rattle.rules.specs.declared.Refusal.TheVariants.{Nothing}
use Rattle.rules.specs.Tables.{header_width, row, class_of, count_of, total_of, State, state_of, with_pools, shared_side}
use Rattle.rules.specs.Sound.{bytes_along}
use Rattle.rules.specs.Refusals.{refuse, answer, outcome}
use Rattle.rules.specs.Runs.{header, counted, rewritten, exchanged}
use Rattle.rules.specs.Undo
use Rattle.rules.specs.Undo.{taken_back}
use Rattle.rules.specs.Calls.{Ready, step, undo}
use Rattle.rules.specs.Answers.{no_values, after}
use Rattle.rules.specs.declared.Head.{Head}
use Rattle.std.specs.Prelude.{Ok}
use mathlib.Core.Bool.{false}
use Rattle.rules.proofs.Laws.Columns.{length-row}
use Rattle.rules.proofs.Laws.Pools.{if_eq, if_ne, live_in}
use Rattle.rules.proofs.Laws.Working.{view}
use Rattle.rules.proofs.Laws.Safe.{working, safe}
use Rattle.rules.proofs.Laws.Traced.{Traced, hx, gone-live, traced_along, traced_light}
use Rattle.rules.specs.Slots.{slot_of, taken}
use Rattle.slots.specs.Asked.{Within, Next}
use Rattle.undos.specs.Undo.{Undoable}

module _ (st : State) (R : Ready st) (t : Traced st) where
  next-at : (x : ℕ) → (view st).gen x ≢ 0 → Next st.elems x
  next-at x h =
      let s = safe st R in
      let l = live_in (working st R).elems x h in
      let f = s.frames x (record { some = l.0; within = l.1; used = omega (arith, h) }) in
      let p = s.elems in
      record { frame = record { some = l.0; inside = omega arith }; next = record { some = f.next-some; inside = omega arith } }

  root_is : slot_of st.head.shared ≡ st.head.shared.root
  unfolding slot_of
  root_is = if_ne st.head.shared.root 0 _ _ t.root

  pub undoable : Undoable st
  undoable =
      let s = safe st R in
      let x = st.head.undo.kept in
      let l = live_in (working st R).elems x (hx st R t) in
      let f = s.frames x (record { some = l.0; within = l.1; used = omega (arith, hx st R t) }) in
      let p = s.shared in
      record {
        kept = next-at x (hx st R t);
        gone = next-at st.head.undo.gone (gone-live st R t);
        class = record { some = f.class-some; inside = omega arith };
        fewer = omega (arith, t.half);
        root = rw root_is (record { some = omega (arith, t.root); inside = omega arith });
        takes = record { extent = omega arith; live = omega arith; inside = omega arith };
        along = record { each = λ k m. let q = traced_along st R t k m in record { some = q.low; inside = q.high } };
        light = traced_light st R t;
        total = f.total;
      }

-- what the steps leave is the rule's state
pub class_in : (st : State) (d : ℕ) (vs : List ℕ) → Undoable st → Within header_width (row header_width st.shared d vs) (class_of st.elems st.head.undo.kept)
class_in st d vs u = record { some = u.class.some; inside = rw (length-row header_width st.shared d vs) u.class.inside }

pub taken_back_by : (st : State) (next : Head) (e s : List ℕ) (c size total z d : ℕ)
    → next ≡ with_pools st.head st.head.elems (taken (shared_side st)) → d ≡ slot_of st.head.shared → c ≡ class_of st.elems st.head.undo.kept → size ≡ count_of st.shared c → total ≡ total_of st.shared c
    → z ≡ bytes_along (exchanged st.elems st.head.undo.kept st.head.undo.gone) st.head.undo.moved st.head.undo.gone
    → e ≡ rewritten st.head.undo.moved (exchanged st.elems st.head.undo.kept st.head.undo.gone) st.head.undo.gone d
    → s ≡ counted (row header_width st.shared d (header st.head.undo.moved st.head.undo.value 0 z)) c (size - st.head.undo.moved) (total - z)
    → state_of next e s ≡ taken_back st
unfolding taken_back
taken_back_by st next e s c size total z d p q r f k b g h = rw (g, h, p, f, k, b, r, q)

-- undo, refused and accepted
pub undo-refused : (st : State) → st.head.undo.kept ≡ 0 → outcome st [] (refuse Nothing) ≡ step st [] undo
unfolding Undo.undo
undo-refused st e = ap (outcome st []) (sym (if_eq st.head.undo.kept 0 _ _ e))

pub undo-accepted : (st : State) (next : Head) (e s : List ℕ) → st.head.undo.kept ≢ 0 → state_of next e s ≡ taken_back st → after no_values st.head (Ok (record { head = next; answer = tt; over = false })) e s [] ≡ step st [] undo
unfolding Undo.undo
undo-accepted st next e s n q = ap (λ (t : State). outcome st [] (answer [] t)) q ∙ ap (outcome st []) (sym (if_ne st.head.undo.kept 0 _ _ n))
