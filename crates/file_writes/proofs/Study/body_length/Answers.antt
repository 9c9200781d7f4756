use mathlib.Core.Path.{refl}
use native.Mathlib.Omega.{arith}
use Rattle.file_writes.proofs.Runs.{frame-cell, header-cell, count_small, body_end}
use Rattle.file_writes.proofs.Study.body_length.Goals as goal

pub get-class-requires : goal.get-class-requires
get-class-requires c = frame-cell _ c.requires.0 _ c.requires.1 2 (omega arith)

pub get-count-requires : goal.get-count-requires
get-count-requires c = header-cell _ c.requires.0 _ c.requires.1 0 _ (omega arith) c.get-class.ensures

pub overflow_mul-result : goal.overflow_mul-result
overflow_mul-result c = record { fits = omega (arith, count_small _ c.requires.0 _ c.requires.1 _ _ c.get-class.ensures c.get-count.ensures) }

pub overflow_add-result : goal.overflow_add-result
overflow_add-result c = record { fits = omega (arith, count_small _ c.requires.0 _ c.requires.1 _ _ c.get-class.ensures c.get-count.ensures) }

pub returns : goal.returns
returns c = body_end _ c.requires.0 _ c.requires.1 _ _ _ c.get-class.ensures c.get-count.ensures refl
