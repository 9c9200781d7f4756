use Rattle.removes.proofs.Leaving.{kept-live, same-generation, removed-by}
use Rattle.rules.specs.Runs.{rest_of}
use Rattle.rules.specs.Slots.{overflows}
use Rattle.rules.specs.Tables.{state_of}
use Rattle.removes.proofs.Leaving.{same-generation, removed-by}
use Rattle.std.proofs.Common.{rules}
use Rattle.removes.proofs.remove_at.Goals as goal

pub leave-left-requires : goal.leave-left-requires
leave-left-requires c = let p = c.requires in
    let s = c.args.shared.now in
    let l = kept-live _ _ _ _ (c.free_frame-freed.ensures s) p.frame.shared-live in
    rw (c.get-class.ensures, c.get-size.ensures) (search rules)

pub raise-raised-requires : goal.raise-raised-requires
raise-raised-requires c = let p = c.requires in
    let a = c.args in
    let g = same-generation (state_of a.head a.elems.now a.shared.now) _ _ _ _ _ _ _ _ c.unlink.ensures (c.free_frame-freed.ensures _) c.get-class.ensures c.get-size.ensures (c.leave-left.ensures _).state in
    search rules

pub returns : goal.returns
unfolding rest_of overflows
returns c = let a = c.args in
    let e = a.elems.now in
    let st = state_of a.head a.elems.now a.shared.now in
    record {
      state = rw c.raise-raised.ensures (removed-by st _ _ _ _ _ _ _ _ c.unlink.ensures (c.free_frame-freed.ensures _) c.get-class.ensures c.get-size.ensures (c.leave-left.ensures _).state);
      payload = c.get-payload.ensures;
      rest = rw c.get-class.ensures at (c.leave-left.ensures e).rest;
      over = rw (c.raise-raised.ensures, same-generation st _ _ _ _ _ _ _ _ c.unlink.ensures (c.free_frame-freed.ensures _) c.get-class.ensures c.get-size.ensures (c.leave-left.ensures _).state);
    }
