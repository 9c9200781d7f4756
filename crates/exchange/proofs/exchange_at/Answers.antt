use Rattle.exchange.specs.Answered.{exchange_at}
use mathlib.Core.Path.{◌∙◌}
use Rattle.exchange.proofs.exchange_at.Goals as goal

pub returns-then-not-all_differ : goal.returns-then-not-all_differ
unfolding exchange_at
returns-then-not-all_differ c = rw (← c.get-a.ensures, ← c.get-b.ensures, ← c.get-c.ensures, ← c.get-d.ensures, c.all_differ.ensures ∙ c.if-not-all_differ.true)

pub returns : goal.returns
unfolding exchange_at
returns c = rw (← c.get-a.ensures, ← c.get-b.ensures, ← c.get-c.ensures, ← c.get-d.ensures, c.all_differ.ensures ∙ c.if-not-all_differ.false, c.plain.ensures, c.store-old.ensures.0, c.store-old.ensures.1, c.forget.ensures)
