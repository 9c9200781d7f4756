use mathlib.Core.Path.{◌∙◌, sym}
use native.Mathlib.Omega.{arith}
use Rattle.std.proofs.lemmas.Result.{err_from_is_err_and}
use Rattle.slots.proofs.Live.{on-live}
use Rattle.rules.proofs.Laws.Safe.{safe}
use Rattle.drains.proofs.Draining.{drain_3, drain_7, drain-done}
use Rattle.std.proofs.Common.{rules}
use Rattle.drains.proofs.drain.Goals as goal

pub find-requires : goal.find-requires
find-requires c = let s = safe _ c.requires in search rules

pub returns-in_err-x : goal.returns-in_err-x
returns-in_err-x c = let p = err_from_is_err_and c.from_residual.result c.from_residual.ensures.1 in rw (p.1, p.2) (drain_3 _ _ _ ((c.find.ensures _).same ∙ c.in_err-x.was))

pub size_at-size-requires : goal.size_at-size-requires
size_at-size-requires c = on-live _ _ _ _ c.requires (c.find.ensures _) c.in_ok-x.was

pub overflow_mul-size : goal.overflow_mul-size
overflow_mul-size c = let l = on-live _ _ _ _ c.requires (c.find.ensures _) c.in_ok-x.was in record { fits = rw c.size_at-size.ensures (omega arith) }

pub returns-then-out-size : goal.returns-then-out-size
returns-then-out-size c = drain_7 _ _ _ _ ((c.find.ensures _).same ∙ c.in_ok-x.was) (rw (← c.size_at-size.ensures) c.if-out-size.true)

pub drain_run-next-requires : goal.drain_run-next-requires
drain_run-next-requires c = let l = on-live _ _ _ _ c.requires (c.find.ensures _) c.in_ok-x.was in
    record { run = record { ready = c.requires; live = λ h. l.live; size = λ h. sym c.size_at-size.ensures }; room = omega (arith, c.if-out-size.false) }

pub returns : goal.returns
returns c = rw (c.plain.ensures, c.size_at-size.ensures) (drain-done _ _ _ _ ((c.find.ensures _).same ∙ c.in_ok-x.was) _ _ (rw (← c.size_at-size.ensures) c.if-out-size.false) (rw (← c.size_at-size.ensures) c.drain_run-next.ensures.state) (rw (← c.size_at-size.ensures) c.drain_run-next.ensures.lent))
