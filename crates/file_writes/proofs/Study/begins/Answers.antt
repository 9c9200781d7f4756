use mathlib.Core.Path.{◌∙◌}
use Prim.Native.Nat.{◌+◌}
use native.Mathlib.Omega.{arith}
use Rattle.rules.proofs.Laws.Safe.{safe}
use Rattle.file_writes.proofs.Scan.{begins-free, begins-seen, begins-first, class-some, class-room}
use Rattle.file_writes.proofs.Study.begins.Goals as goal

pub overflow_add-x : goal.overflow_add-x
overflow_add-x c = let s = safe _ c.requires.ready in record { fits = omega (arith, c.requires.some, s.elems.pool.within, s.elems.pool.small) }

pub get-requires : goal.get-requires
get-requires c = let s = safe _ c.requires.ready in record { some = omega arith; inside = omega (arith, c.requires.some); field = omega arith }

pub returns-then-get-eq0 : goal.returns-then-get-eq0
returns-then-get-eq0 c = begins-free c.requires (c.args.i + 1) (omega arith) c.get.result c.get.ensures c.if-get-eq0.true

pub get-class-requires : goal.get-class-requires
get-class-requires c = let s = safe _ c.requires.ready in record { some = omega arith; inside = omega (arith, c.requires.some); field = omega arith }

pub overflow_sub-place : goal.overflow_sub-place
overflow_sub-place c = class-some c.requires (c.args.i + 1) (omega arith) c.get.result c.get.ensures c.if-get-eq0.false c.get-class.result c.get-class.ensures

pub is_marked-requires : goal.is_marked-requires
is_marked-requires c = class-room c.requires (c.args.i + 1) (omega arith) c.get.result c.get.ensures c.if-get-eq0.false c.get-class.result c.get-class.ensures

pub returns-then-is_marked : goal.returns-then-is_marked
returns-then-is_marked c = begins-seen c.requires (c.args.i + 1) (omega arith) c.get.result c.get.ensures c.if-get-eq0.false c.get-class.result c.get-class.ensures (c.is_marked.ensures ∙ c.if-is_marked.true)

pub mark-requires : goal.mark-requires
mark-requires c = class-room c.requires (c.args.i + 1) (omega arith) c.get.result c.get.ensures c.if-get-eq0.false c.get-class.result c.get-class.ensures

pub returns : goal.returns
returns c = begins-first c.requires (c.args.i + 1) (omega arith) c.get.result c.get.ensures c.if-get-eq0.false c.get-class.result c.get-class.ensures (c.is_marked.ensures ∙ c.if-is_marked.false) _ c.mark.auto.words c.mark.ensures
