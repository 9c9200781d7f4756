use Rattle.told.proofs.Texts.{two_digits}
use Rattle.told.proofs.Puts.{put_then}
use native.Mathlib.Omega.{arith}
use Rattle.told.proofs.answers.put_refusal.Goals as goal

pub put_cause-requires : goal.put_cause-requires
put_cause-requires c =
    let p = rw c.number_of.ensures at c.put_decimal-end.ensures.put.past in
    omega (arith, two_digits c.args.refusal, p, c.put_text-number.ensures.past, c.requires)

pub returns-in-Dead-clause-put : goal.returns-in-Dead-clause-put
returns-in-Dead-clause-put c =
    let p = rw c.number_of.ensures at c.put_decimal-end.ensures.put in
    let q = put_then (put_then c.put_text-number.ensures p) c.put_cause.ensures.put in
    rw c.in-Dead.is (rw c.in-Dead.is at q)

pub returns-in-Dead-clause-upper_bound : goal.returns-in-Dead-clause-upper_bound
returns-in-Dead-clause-upper_bound c =
    let p = rw c.number_of.ensures at c.put_decimal-end.ensures.put.past in
    omega (arith, two_digits c.args.refusal, p, c.put_text-number.ensures.past, c.put_cause.ensures.upper_bound)
