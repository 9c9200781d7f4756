use Rattle.unions.proofs.Joining.{next_in, joined_by, keeping-by}
use Rattle.slots.proofs.Live.{all_in}
use Rattle.unions.proofs.join.Goals as goal

pub rewrite-requires : goal.rewrite-requires
rewrite-requires c = let o = c.requires.second in all_in _ _ _ o.safe o.live

pub exchange-requires : goal.exchange-requires
exchange-requires c = rw c.rewrite.ensures (next_in _ _ _ _ _ c.requires.first, next_in _ _ _ _ _ c.requires.second)

pub returns : goal.returns
returns c = rw c.plain.ensures (keeping-by _ _ _ _ c.free_header-next.result _ _ _ _ (rw (c.get-was.ensures, c.get-goes.ensures)) (rw (c.get-moved.ensures, c.get-goes.ensures))
    (joined_by _ _ _ _ _ _ _ _ (c.free_header-next.ensures _) c.get-goes.ensures (rw (c.exchange.ensures, c.rewrite.ensures, c.get-moved.ensures, c.get-goes.ensures, c.get-keeps.ensures)) (rw (c.recount.ensures, c.get-added.ensures, c.get-total.ensures, c.get-moved.ensures, c.get-size.ensures, c.get-goes.ensures, c.get-keeps.ensures))))
