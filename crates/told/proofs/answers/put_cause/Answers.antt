use Rattle.told.proofs.Texts.{one_digit}
use Rattle.told.proofs.Puts.{put_last, put_same}
use Rattle.told.proofs.answers.put_cause.Goals as goal

pub returns-clause-put : goal.returns-clause-put
returns-clause-put c =
    rw c.cause_digit.ensures (put_same (one_digit c.args.cause) (put_last _ _ _ _ _ _ c.put_text-digit.ensures))
