use native.Mathlib.Omega.{arith}
use Rattle.clones.proofs.Call.{clone_5, clone_6, cloned_is, frames-scan, headers-scan, frames_clone, headers_clone}
use Rattle.clones.proofs.clone_from.Goals as goal

pub last-top-requires : goal.last-top-requires
last-top-requires c = frames-scan _ _ c.requires.0 c.requires.1

pub returns-then-room-top : goal.returns-then-room-top
returns-then-room-top c = clone_5 _ _ _ (c.last-top.ensures _) c.if-room-top.true

pub last-highest-requires : goal.last-highest-requires
last-highest-requires c = headers-scan _ _ c.requires.0 c.requires.1

pub returns-then-places-highest : goal.returns-then-places-highest
returns-then-places-highest c = clone_6 _ _ _ _ (c.last-top.ensures _) (omega (arith, c.if-room-top.false)) (c.last-highest.ensures _) c.if-places-highest.true

pub copy_table-copy-requires : goal.copy_table-copy-requires
copy_table-copy-requires c = frames_clone _ _ c.requires.0 c.requires.1 _ (c.last-top.ensures _) (omega (arith, c.if-room-top.false))

pub copy_table-copied-requires : goal.copy_table-copied-requires
copy_table-copied-requires c = headers_clone _ _ c.requires.0 c.requires.1 _ (c.last-highest.ensures _) (omega (arith, c.if-places-highest.false))

pub returns : goal.returns
returns c = cloned_is _ _ _ _ (c.last-top.ensures _) (omega (arith, c.if-room-top.false)) (c.last-highest.ensures _) (omega (arith, c.if-places-highest.false)) _ _ _ _ c.copy_table-copy.ensures.0 c.copy_table-copied.ensures.0 c.copy_table-copy.ensures.1 c.copy_table-copied.ensures.1 _ c.plain.ensures
