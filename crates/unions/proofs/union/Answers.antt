use Rattle.slots.proofs.Live.{on-live}
use Rattle.unions.specs.Union.{union_at}
use Rattle.rules.proofs.Laws.Safe.{safe}
use Rattle.rules.specs.Runs.{union}
use mathlib.Core.Path.{◌∙◌}
use Rattle.std.proofs.lemmas.Result.{err_from_is_err_and}
use Rattle.std.proofs.Common.{rules}
use Rattle.unions.proofs.union.Goals as goal

pub find-requires : goal.find-requires
find-requires c = let s = safe _ c.requires in search rules

pub returns-in_err-x : goal.returns-in_err-x
unfolding union
returns-in_err-x c = let p = err_from_is_err_and c.from_residual.result c.from_residual.ensures.1 in rw (p.1, p.2, (c.find.ensures c.args.shared.now).same, c.in_err-x.was)

pub find-requires-2 : goal.find-requires-2
find-requires-2 c = let s = safe _ c.requires in search rules

pub returns-in_err-y : goal.returns-in_err-y
unfolding union
returns-in_err-y c = let s = c.args.shared.now in
    let p = err_from_is_err_and c.from_residual-in_err-y.result c.from_residual-in_err-y.ensures.1 in
    rw (p.1, p.2, (c.find.ensures s).same, c.in_ok-x.was, (c.find-2.ensures s).same, c.in_err-y.was)

pub union_at-requires : goal.union_at-requires
union_at-requires c = record { first = on-live _ _ _ _ c.requires (c.find.ensures _) c.in_ok-x.was; second = on-live _ _ _ _ c.requires (c.find-2.ensures _) c.in_ok-y.was }

pub returns : goal.returns
unfolding union union_at
returns c = let s = c.args.shared.now in rw ((c.find.ensures s).same ∙ c.in_ok-x.was, (c.find-2.ensures s).same ∙ c.in_ok-y.was) c.union_at.ensures
