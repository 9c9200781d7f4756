use Rattle.seals.proofs.Ways.{seal_3, seal_12, seal_7, seal-done}
use Rattle.rules.proofs.Laws.Safe.{safe}
use Rattle.std.proofs.lemmas.Result.{err_from_is_err_and}
use Rattle.slots.proofs.Live.{on-live, all_in}
use native.Mathlib.Omega.{arith}
use mathlib.Core.Path.{◌∙◌}
use Rattle.std.proofs.Common.{rules}
use Rattle.seals.proofs.seal.Goals as goal

pub find-requires : goal.find-requires
find-requires c = let s = safe _ c.requires in search rules

pub returns-in_err-x : goal.returns-in_err-x
returns-in_err-x c = let p = err_from_is_err_and c.from_residual.result c.from_residual.ensures.1 in rw (p.1, p.2) (seal_3 _ _ _ ((c.find.ensures _).same ∙ c.in_err-x.was))

pub is_sealed-requires : goal.is_sealed-requires
is_sealed-requires c = on-live _ _ _ _ c.requires (c.find.ensures _) c.in_ok-x.was

pub returns-then-is_sealed : goal.returns-then-is_sealed
returns-then-is_sealed c = seal_12 _ _ _ _ ((c.find.ensures _).same ∙ c.in_ok-x.was) (c.is_sealed.ensures ∙ c.if-is_sealed.true)

pub get-class-requires : goal.get-class-requires
get-class-requires c = let l = on-live _ _ _ _ c.requires (c.find.ensures _) c.in_ok-x.was in search rules

pub get-count-requires : goal.get-count-requires
get-count-requires c = let l = on-live _ _ _ _ c.requires (c.find.ensures _) c.in_ok-x.was in rw c.get-class.ensures (search rules)

pub overflow_mul-count : goal.overflow_mul-count
overflow_mul-count c = let l = on-live _ _ _ _ c.requires (c.find.ensures _) c.in_ok-x.was in record { fits = rw (c.get-count.ensures, c.get-class.ensures) (omega arith) }

pub returns-then-out-count : goal.returns-then-out-count
returns-then-out-count c = seal_7 _ _ _ _ ((c.find.ensures _).same ∙ c.in_ok-x.was) (c.is_sealed.ensures ∙ c.if-is_sealed.false) (rw (← c.get-class.ensures, ← c.get-count.ensures) c.if-out-count.true)

pub write_places-requires : goal.write_places-requires
write_places-requires c = let l = on-live _ _ _ _ c.requires (c.find.ensures _) c.in_ok-x.was in (all_in _ _ _ l.safe l.live, c.if-out-count.false)

pub get-value-requires : goal.get-value-requires
get-value-requires c = let l = on-live _ _ _ _ c.requires (c.find.ensures _) c.in_ok-x.was in rw c.get-class.ensures (search rules)

pub put-requires : goal.put-requires
put-requires c = let l = on-live _ _ _ _ c.requires (c.find.ensures _) c.in_ok-x.was in rw c.get-class.ensures (search rules)

pub returns : goal.returns
returns c = rw (c.plain.ensures, c.forget-next.ensures, c.get-count.ensures, c.get-class.ensures) (seal-done _ _ _ _ ((c.find.ensures _).same ∙ c.in_ok-x.was) _ _ _ (c.is_sealed.ensures ∙ c.if-is_sealed.false) (rw (← c.get-class.ensures, ← c.get-count.ensures) c.if-out-count.false) (rw (← c.get-class.ensures) c.get-value.ensures) (rw (← c.get-class.ensures) c.put.ensures) (rw (← c.get-class.ensures, ← c.get-count.ensures) c.write_places.ensures))
