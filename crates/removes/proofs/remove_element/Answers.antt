use Rattle.slots.proofs.Live.{on-live}
use Rattle.rules.proofs.Laws.Safe.{safe}
use Rattle.rules.specs.Runs.{remove}
use mathlib.Core.Path.{◌∙◌}
use Rattle.std.proofs.lemmas.Result.{err_from_is_err_and}
use Rattle.std.proofs.Common.{rules}
use Rattle.removes.proofs.remove_element.Goals as goal

pub find-requires : goal.find-requires
find-requires c = let s = safe _ c.requires in search rules

pub returns-in_err-x : goal.returns-in_err-x
unfolding remove
returns-in_err-x c = let p = err_from_is_err_and c.from_residual.result c.from_residual.ensures.1 in rw (p.1, p.2, (c.find.ensures c.args.shared.now).same, c.in_err-x.was)

pub remove_at-requires : goal.remove_at-requires
remove_at-requires c = on-live _ _ _ _ c.requires (c.find.ensures _) c.in_ok-x.was

pub returns : goal.returns
unfolding remove
returns c = let s = c.args.shared.now in rw ((c.find.ensures s).same ∙ c.in_ok-x.was, c.remove_at.ensures.state, c.remove_at.ensures.payload, c.remove_at.ensures.rest, c.remove_at.ensures.over)
