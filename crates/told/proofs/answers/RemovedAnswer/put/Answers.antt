use Rattle.told.proofs.Puts.{put_then, put-none}
use Rattle.told.proofs.answers.RemovedAnswer.put.Goals as goal

pub returns-then-over-clause-put : goal.returns-then-over-clause-put
returns-then-over-clause-put c =
    rw c.if-over.true (put_then (put_then (put_then c.put_text-number.ensures c.put_decimal-word.ensures.put) c.put_rest-end.ensures.put) c.put_text.ensures)

pub returns-clause-put : goal.returns-clause-put
returns-clause-put c =
    rw c.if-over.false (put_then (put_then (put_then c.put_text-number.ensures c.put_decimal-word.ensures.put) c.put_rest-end.ensures.put) (put-none _ _))
