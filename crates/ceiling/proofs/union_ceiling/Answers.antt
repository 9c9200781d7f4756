use Prim.Native.Nat.{ℕ, ◌*◌, ◌≤◌, ◌<◌}
use native.Mathlib.Nat.{mul-le-mul}
use native.Mathlib.Omega.{arith}
use mathlib.Core.Path.{◌≡◌, sym, ap, ◌∙◌}
use mathlib.Core.Bool.{false}
use mathlib.Core.List.{[], ◌∷◌}
use Rattle.rules.specs.declared.Refusal.TheVariants.{OutOfRange}
use Rattle.rules.specs.Refusals.{said_accepted, said_refused}
use Rattle.rules.specs.Ceiling.{union_ceiling}
use Rattle.rules.proofs.Laws.HighestBit.{highest_most}
use Rattle.rules.proofs.Laws.UnionCeiling.{answered, refused_none, refused-many}
use Rattle.std.proofs.Common.{rules, tests, ◌⊎◌, inl, inr}
use Rattle.ceiling.proofs.union_ceiling.Goals as goal

refused : (n : ℕ) → (n < 1) ⊎ (65536 < n) → union_ceiling n ≡ said_refused OutOfRange
refused n (inl none) = refused_none n none
refused n (inr many) = refused-many n (omega arith) many

pub returns-then-not-contains : goal.returns-then-not-contains
returns-then-not-contains c = sym (refused c.args.n (search (rules, tests)))

pub overflow_mul-result : goal.overflow_mul-result
overflow_mul-result c =
    let n = c.args.n in
    let few : n ≤ 65536 = search (rules, tests) in
    let low : c.highest_bit.result ≤ 16 = omega (arith, c.highest_bit.ensures, highest_most n (search (rules, tests)) few) in
    record { fits = omega (arith, mul-le-mul few low) }

pub returns : goal.returns
returns c =
    let n = c.args.n in
    ap (λ (place : ℕ). said_accepted (n * place ∷ []) false) c.highest_bit.ensures ∙ sym (answered n (search (rules, tests)) (search (rules, tests)))
