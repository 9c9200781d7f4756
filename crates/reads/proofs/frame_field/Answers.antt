use Rattle.slots.proofs.Live.{on-live}
use Rattle.rules.proofs.Laws.Safe.{safe}
use Rattle.std.proofs.Common.{rules}
use Rattle.reads.proofs.frame_field.Goals as goal

pub find-requires : goal.find-requires
find-requires c = let s = safe _ c.requires.0 in search rules

pub get-requires : goal.get-requires
get-requires c = let l = on-live _ _ _ _ c.requires.0 (c.find.ensures _) c.in_ok-x.was in search rules
