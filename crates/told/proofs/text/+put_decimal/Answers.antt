-- `told::text::put_decimal` meets its contract. The number falls at each call.
use Rattle.std.proofs.Common.{arith}
use Rattle.words.proofs.Decimals.{decimal_one, decimal-last, decimal_short}
use Rattle.told.proofs.Puts.{put_one, put_last}
use Rattle.told.proofs.text.+put_decimal.Goals as goal

pub returns-then-n-lt10-clause-put : goal.returns-then-n-lt10-clause-put
returns-then-n-lt10-clause-put t c = rw (decimal_one c.args.n c.if-n-lt10.true) (put_one _ _ _)

pub bounds-out-last : goal.bounds-out-last
bounds-out-last t c =
    let l = decimal_short c.args.n c.if-n-lt10.false (omega arith) in
    omega (arith, l, c.requires, c.put_decimal-last.ensures.put.past)

pub returns-clause-put : goal.returns-clause-put
returns-clause-put t c =
    let e = decimal-last c.args.n c.if-n-lt10.false (omega arith) in
    rw e (put_last _ _ _ _ _ _ c.put_decimal-last.ensures.put)

pub returns-clause-upper_bound : goal.returns-clause-upper_bound
returns-clause-upper_bound t c =
    let l = decimal_short c.args.n c.if-n-lt10.false (omega arith) in
    omega (arith, l, c.put_decimal-last.ensures.put.past)
