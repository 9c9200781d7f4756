use Rattle.std.proofs.Common.{◌+◌, arith, rules, tests}
use Rattle.std.proofs.lemmas.Iterator.{cases_from_all, YieldsList-from_range}
use Rattle.pools.specs.Pools.{HeaderOk}
use Rattle.pools.proofs.Ask.{headers_by_all}
use Rattle.pools.proofs.headers_ok.Goals as goal

pub returns : goal.returns
returns c =
    let s = c.args.s.now in
    headers_by_all _ _ _ (cases_from_all _ _ c.all.result (HeaderOk s) (λ x. HeaderOk s x → ⊥) c.all.ensures.ran (YieldsList-from_range 1 (c.args.extent + 1) c.args.extent (cc) (omega arith)) (λ x q k. search (rules, tests)) (λ x q k. search (rules, tests)))
