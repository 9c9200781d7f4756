use mathlib.Core.Path.{refl}
use Rattle.removes.proofs.Leaving.{left-last, left-on}
use Rattle.removes.proofs.leave.Goals as goal

pub returns-then-count-eq1 : goal.returns-then-count-eq1
returns-then-count-eq1 c = λ e. rw c.plain.ensures (left-last _ _ _ _ _ (rw (← c.get-count.ensures) c.if-count-eq1.true) (c.free_header-next.ensures e) (rw c.get-value.ensures))

pub returns : goal.returns
returns c = λ e. rw c.plain-2.ensures (left-on _ _ _ _ _ (rw (← c.get-count.ensures) c.if-count-eq1.false) (rw (c.recount.ensures, c.get-total.ensures, c.get-count.ensures)) refl)
