use Rattle.told.proofs.Puts.{put_then}
use Rattle.told.proofs.answers.put_ring.Goals as goal

pub returns-in-Ok-clause-put : goal.returns-in-Ok-clause-put
returns-in-Ok-clause-put c = rw c.in-Ok.is (put_then (put_then c.put_text-number.ensures c.put_decimal-word.ensures.put) c.put_numbers.ensures.put)
