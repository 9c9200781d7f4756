use mathlib.Core.Path.{refl, ◌∙◌}
use Rattle.wipes.proofs.Wiping.{fresh_1, fresh-done, fit_past}
use Rattle.wipes.proofs.fresh.Goals as goal

pub returns-then-not-both_fit : goal.returns-then-not-both_fit
returns-then-not-both_fit c = fresh_1 _ _ _ _ (c.both_fit.ensures _ ∙ c.if-not-both_fit.true) refl

pub blank-next-requires : goal.blank-next-requires
blank-next-requires c = fit_past _ _ _ _ (λ h. c.both_fit.ensures h ∙ c.if-not-both_fit.false)

pub returns : goal.returns
returns c = fresh-done _ _ _ _ (c.both_fit.ensures _ ∙ c.if-not-both_fit.false) (rw (c.plain.ensures, c.blank-next.ensures))
