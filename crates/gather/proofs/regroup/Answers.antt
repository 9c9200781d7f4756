use native.Mathlib.Omega.{arith}
use Rattle.gather.proofs.Scan.{enough_rows}
use Rattle.gather.proofs.Whole.{rows, regrouped}
use Rattle.gather.proofs.regroup.Goals as goal

pub gather-frames-requires : goal.gather-frames-requires
gather-frames-requires c = record { ready = c.requires.ready; scratch = enough_rows _ c.requires.ready _ c.requires.scratch }

pub overflow_mul-used : goal.overflow_mul-used
overflow_mul-used c = let F = rows _ _ _ _ _ _ c.requires.ready c.requires.scratch c.gather-frames.ensures in omega (arith, F.few)

pub paste-requires : goal.paste-requires
paste-requires c = let F = rows _ _ _ _ _ _ c.requires.ready c.requires.scratch c.gather-frames.ensures in (F.elems, F.scratch)

pub zero-requires : goal.zero-requires
zero-requires c = let F = rows _ _ _ _ _ _ c.requires.ready c.requires.scratch c.gather-frames.ensures in (rw c.paste.ensures.long F.elems, omega arith)

pub returns : goal.returns
returns c = regrouped _ _ _ _ _ _ _ _ _ c.requires.ready c.requires.scratch c.gather-frames.ensures c.paste.ensures c.zero.ensures c.zero-2.ensures
