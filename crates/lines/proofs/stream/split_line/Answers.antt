use Rattle.words.proofs.Pieces.{pieces_at, pieces_whole, found_shorter}
use Rattle.lines.proofs.stream.split_line.Goals as goal

pub returns-in_err-end : goal.returns-in_err-end
returns-in_err-end c = rw c.from_residual.ensures (pieces_whole _ _ c.in_err-end.ensures)

pub returns : goal.returns
returns c =
    let e = c.in_ok-end.ensures in
    (pieces_at _ _ _ e, found_shorter _ _ _ e)
