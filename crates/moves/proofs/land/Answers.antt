use Rattle.moves.proofs.Final.{rooms, gathered_fits, rows_of, layable, landed}
use native.Mathlib.Omega.{arith}
use Rattle.moves.proofs.land.Goals as goal

pub overflow_mul-moved : goal.overflow_mul-moved
overflow_mul-moved c = let F = gathered_fits _ c.requires.ready _ _ _ _ _ (rooms c.requires).0 c.gather-moved.ensures in omega (arith, F.small)

pub zero-requires : goal.zero-requires
zero-requires c = let F = gathered_fits _ c.requires.ready _ _ _ _ _ (rooms c.requires).0 c.gather-moved.ensures in (F.room, omega arith)

pub lay-requires : goal.lay-requires
lay-requires c = layable _ c.requires.ready _ _ (rows_of _ c.requires.ready _ _ _ _ _ _ (rooms c.requires).0 c.gather-moved.ensures c.zero.ensures) _ (rooms c.requires).1

pub returns : goal.returns
returns c = landed _ _ _ c.requires.ready _ _ _ _ _ _ _ _ (rooms c.requires).0 c.gather-moved.ensures c.zero.ensures c.lay.ensures c.zero-2.ensures
