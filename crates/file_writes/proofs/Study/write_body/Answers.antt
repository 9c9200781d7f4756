use Rattle.rules.proofs.Laws.Safe.{safe}
use native.Mathlib.Omega.{arith}
use Rattle.file_writes.proofs.Runs.{frame-cell, header-cell, body_end, body-room, body-written, run-walk}
use Rattle.file_writes.proofs.Study.write_body.Goals as goal

pub get-class-requires : goal.get-class-requires
get-class-requires c = frame-cell _ c.requires.0 _ c.requires.1 2 (omega arith)

pub get-count-requires : goal.get-count-requires
get-count-requires c = header-cell _ c.requires.0 _ c.requires.1 0 _ (omega arith) c.get-class.ensures

pub get-value-requires : goal.get-value-requires
get-value-requires c = header-cell _ c.requires.0 _ c.requires.1 1 _ (omega arith) c.get-class.ensures

pub get-total-requires : goal.get-total-requires
get-total-requires c = let s = safe _ c.requires.0 in let f = s.frames _ c.requires.1 in record { some = omega (arith, f.class-some, c.get-class.ensures); inside = omega (arith, f.class_in, s.shared.pool.within, s.shared.pool.some, s.shared.long, c.get-class.ensures); field = omega arith }

pub write_frames-requires : goal.write_frames-requires
write_frames-requires c = (run-walk _ c.requires.0 _ c.requires.1 _, omega (arith, body-room _ c.requires.0 _ c.requires.1 _ _ _ c.get-class.ensures c.get-count.ensures c.requires.2, c.put4.auto.out, c.put8-2.auto.out, c.put8.auto.out))

pub returns : goal.returns
returns c = (body_end _ c.requires.0 _ c.requires.1 _ _ _ c.get-class.ensures c.get-count.ensures c.write_frames.ensures.0, body-written _ c.requires.0 _ c.requires.1 _ _ _ _ _ _ _ _ _ c.get-class.ensures c.get-count.ensures c.get-value.ensures c.get-total.ensures c.put8.ensures c.put8-2.ensures c.put4.ensures c.write_frames.ensures.1)
