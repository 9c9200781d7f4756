use Rattle.rules.specs.Reads.{set_element}
use Rattle.slots.proofs.Live.{on-live}
use Rattle.rules.proofs.Laws.Safe.{safe}
use Rattle.std.proofs.lemmas.Result.{err_from_is_err_and}
use mathlib.Core.Path.{◌∙◌}
use Rattle.std.proofs.Common.{rules}
use Rattle.sets.proofs.set.Goals as goal

pub find-requires : goal.find-requires
find-requires c = let s = safe _ c.requires in search rules

pub returns-in_err-x : goal.returns-in_err-x
unfolding set_element
returns-in_err-x c = let p = err_from_is_err_and c.from_residual.result c.from_residual.ensures.1 in rw (p.1, p.2, (c.find.ensures c.args.shared.now).same, c.in_err-x.was)

pub get-old-requires : goal.get-old-requires
get-old-requires c = let l = on-live _ _ _ _ c.requires (c.find.ensures _) c.in_ok-x.was in search rules

pub put-requires : goal.put-requires
put-requires c = let l = on-live _ _ _ _ c.requires (c.find.ensures _) c.in_ok-x.was in search rules

pub returns : goal.returns
unfolding set_element
returns c = rw ((c.find.ensures c.args.shared.now).same ∙ c.in_ok-x.was, c.plain.ensures, c.put.ensures, c.get-old.ensures, c.forget.ensures)
