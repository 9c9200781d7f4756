use native.Mathlib.Omega.{arith}
use mathlib.Core.List.{[]}
use Rattle.undos.proofs.Undoing.{class_in, taken_back_by}
use Rattle.undos.proofs.take_back.Goals as goal

pub weigh-bytes-requires : goal.weigh-bytes-requires
weigh-bytes-requires c = rw c.exchange.ensures (c.requires.along, omega (arith, c.requires.light, c.requires.total))

pub rewrite-requires : goal.rewrite-requires
rewrite-requires c = rw c.exchange.ensures c.requires.along

pub write_header-requires : goal.write_header-requires
write_header-requires c = rw c.slot-class.ensures c.requires.root

pub overflow_sub-size : goal.overflow_sub-size
overflow_sub-size c = rw (c.get-size.ensures, c.get-kept.ensures) c.requires.fewer

pub overflow_sub-total : goal.overflow_sub-total
overflow_sub-total c = rw (c.get-total.ensures, c.get-kept.ensures, c.weigh-bytes.ensures, c.exchange.ensures) c.requires.light

pub recount-requires : goal.recount-requires
recount-requires c = rw (c.get-kept.ensures, c.write_header.ensures) (class_in _ _ _ c.requires)

pub returns : goal.returns
returns c = taken_back_by _ _ _ _ c.get-kept.result c.get-size.result c.get-total.result c.weigh-bytes.result c.slot-class.result (c.take_header-next.ensures []) c.slot-class.ensures c.get-kept.ensures c.get-size.ensures c.get-total.ensures (rw (c.weigh-bytes.ensures, c.exchange.ensures))
    (rw (c.rewrite.ensures, c.exchange.ensures)) (rw (c.recount.ensures, c.write_header.ensures))
