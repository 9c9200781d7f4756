-- Each way is a law on a call told, or on a ring listed.
use Rattle.lines.proofs.Obeying.{told, listed, listed_places}
use Rattle.rules.specs.Script.{key_text, union_text, remove_text}
use Rattle.rules.specs.Calls.{new_run, insert, union, remove}
use Rattle.rules.specs.Tables.{state_of}
use native.Mathlib.Omega.{arith}
use mathlib.Core.Path.{refl}
use Rattle.lines.proofs.obey.obey_line.Goals as goal

pub put_ring-next-requires : goal.put_ring-next-requires
put_ring-next-requires c = (omega (arith, c.requires.1, c.requires.2), listed_places (state_of c.args.head c.args.elems.now c.args.shared.now) c.in-List.key _ _ _ _ _ _ c.list-size.ensures)

pub returns-in-NewRun : goal.returns-in-NewRun
returns-in-NewRun c =
    let st = state_of c.args.head c.args.elems.now c.args.shared.now in
    rw (c.in-Some.is, c.in-NewRun.is) (told st c.requires.0 key_text (new_run c.in-NewRun.payload c.in-NewRun.value c.in-NewRun.size) (λ o. refl) refl tt _ _ _ _ c.insert_surject-new_run.ensures c.tell.ensures (omega arith))

pub returns-in-Insert : goal.returns-in-Insert
returns-in-Insert c =
    let st = state_of c.args.head c.args.elems.now c.args.shared.now in
    rw (c.in-Some.is, c.in-Insert.is) (told st c.requires.0 key_text (insert c.in-Insert.target c.in-Insert.payload c.in-Insert.size) (λ o. refl) refl tt _ _ _ _ c.insert-inserted.ensures c.tell-in-Insert.ensures (omega arith))

pub returns-in-Union : goal.returns-in-Union
returns-in-Union c =
    let st = state_of c.args.head c.args.elems.now c.args.shared.now in
    rw (c.in-Some.is, c.in-Union.is) (told st c.requires.0 union_text (union c.in-Union.first c.in-Union.second) (λ o. refl) refl tt _ _ _ _ c.union-joined.ensures c.tell-in-Union.ensures (omega arith))

pub returns-in-Remove : goal.returns-in-Remove
returns-in-Remove c =
    let st = state_of c.args.head c.args.elems.now c.args.shared.now in
    rw (c.in-Some.is, c.in-Remove.is) (told st c.requires.0 remove_text (remove c.in-Remove.key) (λ o. refl) refl tt _ _ _ _ c.remove_element-removed.ensures c.tell-in-Remove.ensures (omega arith))

pub returns-in-List : goal.returns-in-List
returns-in-List c =
    let st = state_of c.args.head c.args.elems.now c.args.shared.now in
    rw (c.in-Some.is, c.in-List.is) (listed st c.requires.0 c.in-List.key _ _ _ _ _ _ c.requires.1 c.list-size.ensures c.put_ring-next.ensures.put (omega (arith, c.requires.1, c.put_ring-next.ensures.upper_bound)))
