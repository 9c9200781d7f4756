use Rattle.rules.specs.Tables.{frame_width, header_width}
use Rattle.rules.specs.Slots.{empty}
use native.Mathlib.Omega.{arith}
use Rattle.wipes.proofs.Wiping.{wiped_to}
use Rattle.wipes.proofs.blank.Goals as goal

pub returns : goal.returns
unfolding empty
returns c = rw (c.empty.ensures, c.empty-2.ensures, wiped_to frame_width _ _ c.args.used _ (omega arith) c.requires.0 _ (c.fill.ensures.after (λ y e. e)), wiped_to header_width _ _ c.args.classed _ (omega arith) c.requires.1 _ (c.fill-2.ensures.after (λ y e. e)))
