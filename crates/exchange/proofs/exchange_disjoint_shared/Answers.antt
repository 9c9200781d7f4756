use Rattle.exchange.proofs.Fours.{classed, of_four}
use Rattle.exchange.specs.Answered.{exchange_at}
use Rattle.slots.proofs.Live.{on-live}
use Rattle.rules.proofs.Laws.Safe.{safe}
use Rattle.rules.specs.Exchange.{exchange}
use Rattle.std.proofs.lemmas.Result.{err_from_is_err_and}
use Rattle.std.proofs.Common.{rules, length, ◌≡◌}
use Rattle.exchange.proofs.exchange_disjoint_shared.Goals as goal

pub find-requires : goal.find-requires
find-requires c = let s = safe _ c.requires in search rules

pub returns-in_err-w : goal.returns-in_err-w
unfolding exchange
returns-in_err-w c = let s = c.args.shared.now in
    let n : length c.args.keys ≡ 4 = search rules in
    let p = err_from_is_err_and c.from_residual.result c.from_residual.ensures.1 in
    of_four _ _ _ (record { slot = 0; generation = 0 }) _ n (rw (p.1, p.2, (c.find.ensures s).same, c.in_err-w.was))

pub find-requires-2 : goal.find-requires-2
find-requires-2 c = let s = safe _ c.requires in search rules

pub returns-in_err-x : goal.returns-in_err-x
unfolding exchange
returns-in_err-x c = let s = c.args.shared.now in
    let n : length c.args.keys ≡ 4 = search rules in
    let p = err_from_is_err_and c.from_residual-in_err-x.result c.from_residual-in_err-x.ensures.1 in
    of_four _ _ _ (record { slot = 0; generation = 0 }) _ n (rw (p.1, p.2, (c.find.ensures s).same, c.in_ok-w.was, (c.find-2.ensures s).same, c.in_err-x.was))

pub find-requires-3 : goal.find-requires-3
find-requires-3 c = let s = safe _ c.requires in search rules

pub returns-in_err-y : goal.returns-in_err-y
unfolding exchange
returns-in_err-y c = let s = c.args.shared.now in
    let n : length c.args.keys ≡ 4 = search rules in
    let p = err_from_is_err_and c.from_residual-in_err-y.result c.from_residual-in_err-y.ensures.1 in
    of_four _ _ _ (record { slot = 0; generation = 0 }) _ n (rw (p.1, p.2, (c.find.ensures s).same, c.in_ok-w.was, (c.find-2.ensures s).same, c.in_ok-x.was, (c.find-3.ensures s).same, c.in_err-y.was))

pub find-requires-4 : goal.find-requires-4
find-requires-4 c = let s = safe _ c.requires in search rules

pub returns-in_err-z : goal.returns-in_err-z
unfolding exchange
returns-in_err-z c = let s = c.args.shared.now in
    let n : length c.args.keys ≡ 4 = search rules in
    let p = err_from_is_err_and c.from_residual-in_err-z.result c.from_residual-in_err-z.ensures.1 in
    of_four _ _ _ (record { slot = 0; generation = 0 }) _ n (rw (p.1, p.2, (c.find.ensures s).same, c.in_ok-w.was, (c.find-2.ensures s).same, c.in_ok-x.was, (c.find-3.ensures s).same, c.in_ok-y.was, (c.find-4.ensures s).same, c.in_err-z.was))

pub exchange_at-requires : goal.exchange_at-requires
exchange_at-requires c = let p = c.requires in
    record {
      first = classed _ _ (on-live _ _ _ _ p (c.find.ensures _) c.in_ok-w.was);
      second = classed _ _ (on-live _ _ _ _ p (c.find-2.ensures _) c.in_ok-x.was);
      third = classed _ _ (on-live _ _ _ _ p (c.find-3.ensures _) c.in_ok-y.was);
      fourth = classed _ _ (on-live _ _ _ _ p (c.find-4.ensures _) c.in_ok-z.was);
    }

pub returns : goal.returns
unfolding exchange exchange_at
returns c = let s = c.args.shared.now in
    let n : length c.args.keys ≡ 4 = search rules in
    of_four _ _ _ (record { slot = 0; generation = 0 }) _ n (rw ((c.find.ensures s).same, c.in_ok-w.was, (c.find-2.ensures s).same, c.in_ok-x.was, (c.find-3.ensures s).same, c.in_ok-y.was, (c.find-4.ensures s).same, c.in_ok-z.was) c.exchange_at.ensures)
