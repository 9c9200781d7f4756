use mathlib.Core.Path.{◌≡◌, refl, sym}
use Prim.Native.Nat.{◌-◌, suc}
use native.Mathlib.Omega.{arith}
use Rattle.std.proofs.Common.{rules}
use Rattle.rules.specs.Runs.{rewritten}
use Rattle.slots.proofs.Rewrites.{rewritten_more, rewriting_at, rewriting_next}
use Rattle.slots.proofs.rewrite.Goals as goal

pub loop-init : goal.loop-init
unfolding rewritten
loop-init c = let z : c.args.n - c.args.n ≡ 0 = omega arith in rw z (refl, refl)

pub get-next-requires : goal.get-next-requires
get-next-requires c =
    let w = rewriting_at _ c.args.n _ c.args.class (c.args.n - c.loop.counter) c.requires (omega (arith, c.loop-test.true, c.loop.auto.counter)) in
    rw (c.loop.invariant.0, c.loop.invariant.1) (search rules)

pub loop-preserved : goal.loop-preserved
loop-preserved c =
    let k : c.args.n - (c.loop.counter - 1) ≡ suc (c.args.n - c.loop.counter) = omega (arith, c.loop-test.true, c.loop.auto.counter) in
    rw (k, c.put.ensures, c.get-next.ensures, c.loop.invariant.0, c.loop.invariant.1) (sym (rewritten_more _ _ _ _), rewriting_next _ _ _ _ _ c.requires)

pub returns : goal.returns
returns c = let z : c.args.n - c.loop.counter ≡ c.args.n = omega (arith, c.loop-test.false) in rw z at c.loop.invariant.0
