use mathlib.Core.Path.{sym, ◌∙◌}
use native.Mathlib.Omega.{arith}
use Rattle.rules.proofs.Laws.Safe.{safe}
use Rattle.sweeps.proofs.Emptying.{slot-free}
use Rattle.drains.proofs.Draining.{frame_at}
use Rattle.sweeps.proofs.drain_slot.Goals as goal

pub get-generation-requires : goal.get-generation-requires
get-generation-requires c = let s = safe _ c.requires.ready in record { some = c.requires.low; inside = omega (arith, c.requires.high, s.elems.long, s.elems.pool.within); field = omega arith }

pub returns-then-generation-eq0 : goal.returns-then-generation-eq0
returns-then-generation-eq0 c = let d = slot-free _ _ _ _ c.requires.ready (sym c.get-generation.ensures ∙ c.if-generation-eq0.true) in record { state = d.0; lent = d.1 }

pub size_at-size-requires : goal.size_at-size-requires
size_at-size-requires c = frame_at _ c.requires.ready _ (λ e. c.if-generation-eq0.false (c.get-generation.ensures ∙ e))

pub drain_run-requires : goal.drain_run-requires
drain_run-requires c =
    let o = frame_at _ c.requires.ready _ (λ e. c.if-generation-eq0.false (c.get-generation.ensures ∙ e)) in
    record {
      run = record { ready = c.requires.ready; live = λ h. o.live; size = λ h. sym c.size_at-size.ensures };
      room = rw c.size_at-size.ensures (omega (arith, c.requires.room, o.frame.count_in));
    }
