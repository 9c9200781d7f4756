use Rattle.rules.specs.Tables.{state_of}
use Rattle.rules.proofs.Laws.Undone.{traced_memory}
use Rattle.undos.proofs.Undoing.{undoable, undo-refused, undo-accepted}
use Rattle.undos.proofs.undo.Goals as goal

pub returns-then-memory-eq0 : goal.returns-then-memory-eq0
returns-then-memory-eq0 c = undo-refused (state_of c.args.head c.args.elems.now c.args.shared.now) c.if-memory-eq0.true

pub take_back-next-requires : goal.take_back-next-requires
take_back-next-requires c = undoable _ c.requires.0 (traced_memory _ c.requires.0 c.requires.1 c.if-memory-eq0.false)

pub returns : goal.returns
returns c = rw c.plain.ensures (undo-accepted (state_of c.args.head c.args.elems.now c.args.shared.now) _ _ _ c.if-memory-eq0.false c.take_back-next.ensures)
