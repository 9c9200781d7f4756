use Rattle.ranks.proofs.Ranking.{ranking_start, ranking_at, ranking_few, ranking_next}
use Rattle.rules.proofs.Laws.Columns.{cell-none}
use Rattle.ranks.proofs.rank.Goals as goal

pub loop-k-init : goal.loop-k-init
loop-k-init c = ranking_start _ _ _ _ (cell-none _ _ _)

pub rank_one-ranked-requires : goal.rank_one-ranked-requires
rank_one-ranked-requires c = let R = c.loop-k.invariant in let l = c.loop-k-test.true in (ranking_at _ _ _ _ _ c.requires _ _ _ R l, c.requires.reads, c.requires.writes, ranking_few _ _ _ _ _ c.requires _ _ _ R l)

pub loop-k-preserved : goal.loop-k-preserved
loop-k-preserved c = ranking_next _ _ _ _ _ c.requires _ _ _ c.loop-k.invariant c.loop-k-test.true _ _ c.rank_one-ranked.ensures
