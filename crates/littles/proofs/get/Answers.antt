use Prim.Native.Nat.{ℕ, ◌+◌, ◌-◌, ◌<◌}
use mathlib.Core.Path.{◌≡◌, ◌∙◌, subst, sym, ap}
use mathlib.Core.List.{List, ◌++◌}
use lib.ListN.{drop, length-drop, take, replicate}
use lib.Seq.{get_or-drop}
use native.Mathlib.Omega.{arith}
use Rattle.rules.specs.Bytes.{value, limit}
use Rattle.littles.proofs.Cells.{from_le-value, value-below, value-padded}
use Rattle.littles.proofs.get.Goals as goal

pub returns : goal.returns
returns g c =
    let w = g.row.WIDTH in
    let m : c.args.at + w - c.args.at ≡ w = omega arith in
    let p = value-padded 8 w (drop c.args.at c.args.b.now) c.requires.1 (omega (arith, length-drop c.args.at c.args.b.now, c.requires.0)) in
    let e = c.from_le_bytes.ensures ∙ from_le-value _ ∙ ap (λ (x : List ℕ). value 8 (x ++ drop w (replicate 8 0))) (c.copy_from_slice.ensures.after ∙ ap (λ (n : ℕ). take n (drop c.args.at c.args.b.now)) m) ∙ p in
    (e, subst (λ (k : ℕ). k < limit w) (sym e) (value-below w (drop c.args.at c.args.b.now) (λ i. subst (λ (k : ℕ). k < 256) (sym (get_or-drop c.args.at c.args.b.now i 0)) (c.type_inv.b (c.args.at + i)).fits)))
