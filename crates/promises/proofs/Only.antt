-- No second result, head, tables, buffer and `out` fit what an entry promises.
use Prim.Native.Nat.{ℕ}
use mathlib.Core.Path.{◌≡◌, refl, sym, ap, ◌∙◌}
use mathlib.Core.List.{List, []}
use lib.ListN.{length}
use Rattle.rules.specs.declared.Head.{Head}
use Rattle.rules.specs.Refusals.{Said}
use Rattle.rules.specs.Calls.{Call}
use Rattle.rules.proofs.Door
use Rattle.rules.proofs.Laws.TwoDoors.{two_only}
use Rattle.numbers.specs.Numbers.{values, values_over}
use Rattle.numbers.proofs.Thirteen.{only_thirteen}
use Rattle.promises.specs.Host.{Left, left, shown, AtHost, AtFresh, AtRead}
use Rattle.promises.specs.InPlace.{left_at, AtHead}
use Rattle.promises.specs.Two.{TwoLeft, left_two, shown_two, AtHostCopy, AtHostMove}

-- equal in all that a host lent or was given: the result, the head, both tables, the buffer and `out`
pub record Same {H : Type 0} (r r' : ℕ) (h h' : H) (e e' s s' l l' o o' : List ℕ) : Type 0 where
  pub result : r ≡ r'
  pub head : h ≡ h'
  pub elems : e ≡ e'
  pub shared : s ≡ s'
  pub lent : l ≡ l'
  pub out : o ≡ o'

-- what is left tells each of them
told : (a b : Left) → a ≡ b → Same a.number b.number a.state.head b.state.head a.state.elems b.state.elems a.state.shared b.state.shared a.lent b.lent a.out b.out
told a b q = record {
  result = ap (λ (t : Left). t.number) q;
  head = ap (λ (t : Left). t.state.head) q;
  elems = ap (λ (t : Left). t.state.elems) q;
  shared = ap (λ (t : Left). t.state.shared) q;
  lent = ap (λ (t : Left). t.lent) q;
  out = ap (λ (t : Left). t.out) q;
}

-- and each of the thirteen numbers of a head
told_thirteen : (r r' : ℕ) (h h' e e' s s' l l' o o' : List ℕ) → length h ≡ 13 → length h' ≡ 13 → left r h e s l o ≡ left r' h' e' s' l' o' → Same r r' h h' e e' s s' l l' o o'
told_thirteen r r' h h' e e' s s' l l' o o' n n' q =
    let t = told (left r h e s l o) (left r' h' e' s' l' o') q in
    record {
      result = t.result;
      head = only_thirteen h h' n n' t.head;
      elems = t.elems;
      shared = t.shared;
      lent = t.lent;
      out = t.out;
    }

-- an entry over a head of thirteen numbers
module _ (c : Call) (numbers : Said → List ℕ) (head elems shared lent out : List ℕ) where
  pub only : (a b : Left) → AtHost c numbers head elems shared lent out a → AtHost c numbers head elems shared lent out b → a ≡ b
  only a b p q = p.same ∙ ap (shown numbers out) (Door.only _ lent c p.outcome q.outcome p.door q.door) ∙ sym q.same

  pub only_at_host : (r r' : ℕ) (h h' e e' s s' l l' o o' : List ℕ) → length h ≡ 13 → length h' ≡ 13
      → AtHost c numbers head elems shared lent out (left r h e s l o)
      → AtHost c numbers head elems shared lent out (left r' h' e' s' l' o')
      → Same r r' h h' e e' s s' l l' o o'
  only_at_host r r' h h' e e' s s' l l' o o' n n' p q = told_thirteen r r' h h' e e' s s' l l' o o' n n' (only _ _ p q)

-- fresh, which has no buffer and no `out`
pub only_at_fresh : (elem_capacity shared_capacity : ℕ) (head elems shared : List ℕ) (r r' : ℕ) (h h' e e' s s' l l' o o' : List ℕ) → length h ≡ 13 → length h' ≡ 13
    → AtFresh elem_capacity shared_capacity head elems shared (left r h e s l o)
    → AtFresh elem_capacity shared_capacity head elems shared (left r' h' e' s' l' o')
    → Same r r' h h' e e' s s' l l' o o'
only_at_fresh elem_capacity shared_capacity head elems shared r r' h h' e e' s s' l l' o o' n n' p q = told_thirteen r r' h h' e e' s s' l l' o o' n n' (p.same ∙ sym q.same)

-- and the reader
pub only_at_read : (file head elems shared : List ℕ) (r r' : ℕ) (h h' e e' s s' l l' o o' : List ℕ) → length h ≡ 13 → length h' ≡ 13
    → AtRead file head elems shared (left r h e s l o)
    → AtRead file head elems shared (left r' h' e' s' l' o')
    → Same r r' h h' e e' s s' l l' o o'
only_at_read file head elems shared r r' h h' e e' s s' l l' o o' n n' p q = told_thirteen r r' h h' e e' s s' l l' o o' n n' (p.same ∙ sym q.same)

-- an entry over a head lent in place, which has no buffer
pub only_at_head : (c : Call) (numbers : Said → List ℕ) (head : Head) (elems shared out : List ℕ) (r r' : ℕ) (h h' : Head) (e e' s s' o o' : List ℕ)
    → AtHead c numbers head elems shared out (left_at r h e s o)
    → AtHead c numbers head elems shared out (left_at r' h' e' s' o')
    → Same r r' h h' e e' s s' [] [] o o'
only_at_head c numbers head elems shared out r r' h h' e e' s s' o o' p q =
    told (left_at r h e s o) (left_at r' h' e' s' o')
    (p.same ∙ ap (shown numbers out) (Door.only _ [] c p.outcome q.outcome p.door q.door) ∙ sym q.same)

-- an entry on two recorders' tables: all of both sides
told_two : (r r' : ℕ) (h h' e e' s s' k k' f f' g g' o o' : List ℕ) → length h ≡ 13 → length h' ≡ 13 → length k ≡ 13 → length k' ≡ 13 → left_two r h e s k f g o ≡ left_two r' h' e' s' k' f' g' o'
    → Same r r' h h' e e' s s' [] [] o o' × Same r r' k k' f f' g g' [] [] o o'
told_two r r' h h' e e' s s' k k' f f' g g' o o' n n' m m' q =
    let number = ap (λ (t : TwoLeft). t.number) q in
    let out = ap (λ (t : TwoLeft). t.out) q in (
      record {
        result = number;
        head = only_thirteen h h' n n' (ap (λ (t : TwoLeft). t.target.head) q);
        elems = ap (λ (t : TwoLeft). t.target.elems) q;
        shared = ap (λ (t : TwoLeft). t.target.shared) q;
        lent = refl;
        out = out;
      },
      record {
        result = number;
        head = only_thirteen k k' m m' (ap (λ (t : TwoLeft). t.source.head) q);
        elems = ap (λ (t : TwoLeft). t.source.elems) q;
        shared = ap (λ (t : TwoLeft). t.source.shared) q;
        lent = refl;
        out = out;
      },
    )

pub only_at_copy : (head elems shared from_head from_elems from_shared : List ℕ) (r r' : ℕ) (h h' e e' s s' k k' f f' g g' : List ℕ) → length h ≡ 13 → length h' ≡ 13 → length k ≡ 13 → length k' ≡ 13
    → AtHostCopy head elems shared from_head from_elems from_shared (left_two r h e s k f g [])
    → AtHostCopy head elems shared from_head from_elems from_shared (left_two r' h' e' s' k' f' g' [])
    → Same r r' h h' e e' s s' [] [] [] [] × Same r r' k k' f f' g g' [] [] [] []
only_at_copy head elems shared from_head from_elems from_shared r r' h h' e e' s s' k k' f f' g g' n n' m m' p q =
    told_two r r' h h' e e' s s' k k' f f' g g' [] [] n n' m m'
    (p.same ∙ ap (shown_two values []) (two_only _ _ _ _ p.outcome q.outcome p.door q.door) ∙ sym q.same)

pub only_at_move : (i : ℕ) (head elems shared from_head from_elems from_shared out : List ℕ) (r r' : ℕ) (h h' e e' s s' k k' f f' g g' o o' : List ℕ) → length h ≡ 13 → length h' ≡ 13 → length k ≡ 13 → length k' ≡ 13
    → AtHostMove i head elems shared from_head from_elems from_shared out (left_two r h e s k f g o)
    → AtHostMove i head elems shared from_head from_elems from_shared out (left_two r' h' e' s' k' f' g' o')
    → Same r r' h h' e e' s s' [] [] o o' × Same r r' k k' f f' g g' [] [] o o'
only_at_move i head elems shared from_head from_elems from_shared out r r' h h' e e' s s' k k' f f' g g' o o' n n' m m' p q =
    told_two r r' h h' e e' s s' k k' f f' g g' o o' n n' m m'
    (p.same ∙ ap (shown_two values_over out) (two_only _ _ _ _ p.outcome q.outcome p.door q.door) ∙ sym q.same)
