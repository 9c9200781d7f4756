use mathlib.Core.Path.{ap}
use mathlib.Core.List.{List}
use native.Mathlib.Omega.{arith}
use Prim.Native.Nat.{ℕ}
use Rattle.rules.specs.Tables.{row}
use Rattle.rules.specs.Drains.{record_width}
use Rattle.drains.proofs.Draining.{record_of}
use Rattle.drains.proofs.write_record.Goals.{in-GoesOn, in-Last}
use Rattle.drains.proofs.write_record.Goals as goal

pub write_place-requires : goal.write_place-requires
write_place-requires c = (omega arith, c.requires)

pub returns : goal.returns
returns c = rw (c.write_place.ensures, c.from.ensures) (ap (λ (vs : List ℕ). row record_width c.args.out.now c.args.place vs) (record_of _ _ _ c.args.gone.rest c.args.over _ _ (elim c.match-gone.branch [
  | in-GoesOn w ↦ rw (w.last-is, w.in-GoesOn.is)
  | in-Last w ↦ rw (w.last-is, w.in-Last.is)
])))
