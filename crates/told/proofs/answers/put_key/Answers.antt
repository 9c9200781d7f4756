use Rattle.told.proofs.Puts.{put_then}
use Rattle.told.proofs.answers.put_key.Goals as goal

pub returns-clause-put : goal.returns-clause-put
returns-clause-put c = put_then (put_then c.put_decimal-space.ensures.put c.put_text-generation.ensures) c.put_decimal.ensures.put
