use native.Mathlib.Omega.{arith}
use Rattle.file_reads.proofs.Call.{room, fillable, elems_reach, shared_reach, built}
use Rattle.file_reads.proofs.build.Goals as goal

pub fill_runs-requires : goal.fill_runs-requires
fill_runs-requires c = (fillable _ _ _ _ c.requires, c.requires.runs_are)

pub overflow_mul-counts : goal.overflow_mul-counts
overflow_mul-counts c = record { fits = omega (arith, c.requires.elems, (room _ _ _ _ c.requires).elems-most) }

pub overflow_mul-room : goal.overflow_mul-room
overflow_mul-room c = record { fits = omega (arith, (room _ _ _ _ c.requires).elems-most) }

pub zero-requires : goal.zero-requires
zero-requires c = ((room _ _ _ _ c.requires).elems, elems_reach _ _ _ _ c.requires _ c.fill_runs.ensures.0)

pub overflow_mul-places : goal.overflow_mul-places
overflow_mul-places c = record { fits = omega (arith, (room _ _ _ _ c.requires).shared-most) }

pub zero-requires-2 : goal.zero-requires-2
zero-requires-2 c = ((room _ _ _ _ c.requires).shared, shared_reach _ _ _ _ c.requires _ c.fill_runs.ensures.1)

pub returns : goal.returns
returns c = built _ _ _ _ c.requires _ _ _ _ _ _ c.packed.ensures c.packed-2.ensures c.fill_runs.ensures c.zero.ensures c.zero-2.ensures
