use Rattle.std.proofs.Common.{◌≡◌, rules, drop, bit_or, arith}
use Rattle.std.proofs.lemmas.Iterator.{YieldsList-from_slice}
use Rattle.std.proofs.lemmas.Iterator.Consumers.{fold_from_yields_List}
use Rattle.std.proofs.lemmas.Grind.{common_steps}
use Rattle.pools.proofs.Empty.{zeros_by_or}
use Rattle.pools.proofs.zeros.Goals as goal

pub returns : goal.returns
returns c =
    let rest : c.iter.result.rest.now ≡ drop c.args.from c.args.t.now = grind (arith, common_steps) in
    zeros_by_or _ _ _ (fold_from_yields_List _ bit_or 0 c.fold.result c.fold.ensures.ran (YieldsList-from_slice (drop c.args.from c.args.t.now) rest) (λ a x b q k. search rules))
