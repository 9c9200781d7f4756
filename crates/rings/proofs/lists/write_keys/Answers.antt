use mathlib.Core.Path.{refl}
use native.Mathlib.Omega.{arith}
use Rattle.std.proofs.Common.{add-one, rules}
use Rattle.rules.proofs.Laws.Steps.{steps-suc}
use Rattle.rules.specs.Drains.{key_width}
use Rattle.rings.specs.Answered.{key_place}
use Rattle.rings.proofs.Listing.{place_next, places_next}
use Rattle.rings.proofs.lists.write_keys.Goals as goal

pub get-generation-requires : goal.get-generation-requires
get-generation-requires c = let w = c.requires.0.each _ c.loop-written-test.true in rw c.loop-written.invariant.0 (search rules)

pub write_place-requires : goal.write_place-requires
write_place-requires c = (omega arith, place_next key_width _ _ _ _ c.loop-written.auto.out c.requires.1 c.loop-written-test.true)

pub loop-written-preserved : goal.loop-written-preserved
loop-written-preserved c = (
  rw (c.get-at.ensures, c.loop-written.invariant.0, add-one, steps-suc) refl,
  rw (c.write_place.ensures, c.get-generation.ensures, c.loop-written.invariant.0, c.loop-written.invariant.1) (places_next key_width (key_place c.args.elems.now) (λ s. refl) c.args.elems.now c.args.out.now c.args.x c.loop-written.written),
)
