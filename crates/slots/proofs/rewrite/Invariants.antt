-- Of `n` entries, `counter` are left.
use Rattle.std.proofs.Common.{◌≡◌}
use Prim.Native.Nat.{◌-◌}
use Rattle.rules.specs.Notation.{steps}
use Rattle.rules.specs.Tables.{next_of}
use Rattle.rules.specs.Runs.{rewritten}
use Rattle.slots.proofs.rewrite.Given as goal

abbrev pub invariant-loop : goal.invariant-loop
invariant-loop l = (l.e ≡ rewritten (l.n - l.counter) l.initial.e l.x l.class) × (l.at ≡ steps (next_of l.initial.e) (l.n - l.counter) l.x)
