use Rattle.sound.proofs.Turns.{wrong_free, wrong_class, wrong_ring}
use Rattle.pools.proofs.Ask.{if_no}
use Rattle.rules.specs.Tables.{state_of}
use native.Mathlib.Omega.{arith}
use mathlib.Core.Path.{sym, ◌∙◌}
use Rattle.sound.proofs.look.Goals as goal

pub returns-else-free_ok : goal.returns-else-free_ok
returns-else-free_ok c = wrong_free _ c.requires.0.shape _ (sym c.get.ensures ∙ c.if-get-eq0.true) (if_no c.free_ok.result c.if-free_ok.false c.free_ok.ensures)

pub returns-then-not-contains : goal.returns-then-not-contains
returns-then-not-contains c = wrong_class (state_of c.args.head c.args.e.now c.args.s.now) c.requires.0.shape _ c.get-class.result (λ z. c.if-get-eq0.false (c.get.ensures ∙ z)) c.get-class.ensures (λ w. grind (arith, w.low, w.high))

pub returns-else-ring_ok : goal.returns-else-ring_ok
returns-else-ring_ok c = wrong_ring (state_of c.args.head c.args.e.now c.args.s.now) c.requires.0.shape _ c.get-class.result (λ z. c.if-get-eq0.false (c.get.ensures ∙ z)) c.get-class.ensures c.get-count.result c.get-total.result c.get-count.ensures c.get-total.ensures (if_no c.ring_ok.result c.if-ring_ok.false c.ring_ok.ensures)
