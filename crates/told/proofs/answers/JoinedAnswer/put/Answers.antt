use Rattle.told.proofs.Puts.{put_then, put_key_then}
use Rattle.told.proofs.answers.JoinedAnswer.put.Goals as goal

pub returns-clause-put : goal.returns-clause-put
returns-clause-put c =
    let start = put_then (put_then c.put_text-value.ensures c.put_decimal-word.ensures.put) c.put_text-key.ensures in
    put_then (put_then (put_key_then _ start c.put_key-word.ensures.put) c.put_text-number.ensures) c.put_decimal.ensures.put
