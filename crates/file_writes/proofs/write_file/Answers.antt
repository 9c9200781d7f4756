use mathlib.Core.Path.{refl, ◌∙◌}
use native.Mathlib.Omega.{arith}
use Rattle.file_writes.proofs.Whole.{runs-small, frames_small, all_fit, fits-still, file-written, write_7, write_done}
use Rattle.file_writes.proofs.write_file.Goals as goal

pub overflow_mul-long : goal.overflow_mul-long
overflow_mul-long c = record { fits = omega (arith, runs-small _ c.requires) }

pub overflow_add-long : goal.overflow_add-long
overflow_add-long c = record { fits = omega (arith, runs-small _ c.requires) }

pub overflow_mul-long-2 : goal.overflow_mul-long-2
overflow_mul-long-2 c = record { fits = omega (arith, frames_small _ c.requires) }

pub overflow_add-long-2 : goal.overflow_add-long-2
overflow_add-long-2 c = record { fits = omega (arith, runs-small _ c.requires, frames_small _ c.requires) }

pub returns-then-file-long : goal.returns-then-file-long
returns-then-file-long c = write_7 _ c.requires _ c.if-file-long.true

pub write_runs-requires : goal.write_runs-requires
write_runs-requires c = (c.requires, fits-still (all_fit _ c.requires c.args.file.now c.if-file-long.false) _ (c.put4-2.auto.out ∙ c.put4.auto.out))

pub returns : goal.returns
returns c = write_done _ c.requires _ _ _ refl c.if-file-long.false (file-written _ c.requires _ _ _ _ c.put4.ensures c.put4-2.ensures c.write_runs.ensures)
