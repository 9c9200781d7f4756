use native.Mathlib.Omega.{arith}
use Rattle.told.proofs.Puts.{put_copied}
use Rattle.told.proofs.text.put_text.Goals as goal

pub returns : goal.returns
returns c = put_copied _ _ _ _ _ c.requires c.copy_from_slice.ensures.after (omega arith)
