use Rattle.rules.specs.Reads.{lookup}
use Rattle.rules.proofs.Laws.Safe.{safe}
use Rattle.std.proofs.lemmas.Result.{err_from_is_err_and}
use Rattle.std.proofs.Common.{rules}
use Rattle.reads.proofs.lookup.Goals as goal

pub find-requires : goal.find-requires
find-requires c = let s = safe _ c.requires in search rules

pub returns-in_err-find : goal.returns-in_err-find
unfolding lookup
returns-in_err-find c = let p = err_from_is_err_and c.from_residual.result c.from_residual.ensures.1 in rw (p.1, p.2, (c.find.ensures c.args.shared.now).same, c.in_err-find.was)

pub returns : goal.returns
unfolding lookup
returns c = rw ((c.find.ensures c.args.shared.now).same, c.in_ok-find.was)
