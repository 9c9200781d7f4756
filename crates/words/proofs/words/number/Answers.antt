use Rattle.words.proofs.Reading.{reading_empty, reading_zero, reading_other, reading_first, reading_past_no_digit, reading_past_large, reading_past, reading_done, length-past_first}
use Rattle.std.specs.Prelude.{◌≤◌, length, get_or}
use mathlib.Core.Path.{◌≡◌, sym, ◌∙◌}
use native.Mathlib.Omega.{arith}
use Rattle.words.proofs.words.number.Goals as goal
use Rattle.words.proofs.words.number.Goals.{else-first-eq48-via-then-first-eq48+else-word-gt1, else-first-eq48-via-else-first-eq48}

pub returns-in_err-first-clause-read : goal.returns-in_err-first-clause-read
returns-in_err-first-clause-read c = rw c.from_residual.ensures (reading_empty _ _ c.in_err-first.ensures.value)

pub returns-then-word-gt1-clause-read : goal.returns-then-word-gt1-clause-read
returns-then-word-gt1-clause-read c = reading_zero _ _ (omega arith) (sym (c.in_ok-first.ensures.item.3.1 0) ∙ c.if-first-eq48.true) c.if-word-gt1.true

pub returns-in_err-value-clause-read : goal.returns-in_err-value-clause-read
returns-in_err-value-clause-read c =
    rw c.from_residual-in_err-value.ensures
    (reading_other _ _ c.in_ok-first.ensures.item.3.0 _ (c.in_ok-first.ensures.item.3.1 0) c.in_err-value.ensures)

pub loop-byte-init : goal.loop-byte-init
loop-byte-init c =
    let z : get_or c.args.word.now 0 0 ≡ 48 → length c.args.word.now ≤ 1 = λ e. elim c.else-first-eq48.branch [
      | else-first-eq48-via-then-first-eq48+else-word-gt1 w ↦ w.if-word-gt1.false
      | else-first-eq48-via-else-first-eq48 w ↦ absurd (w.if-first-eq48.false (c.in_ok-first.ensures.item.3.1 0 ∙ e))
    ] in
    (z, reading_first _ _ c.in_ok-first.ensures.item.3.0 _ _ (c.in_ok-first.ensures.item.3.1 0) c.in_ok-value.ensures c.requires (omega arith) z)

pub returns-in_err-digit-clause-read : goal.returns-in_err-digit-clause-read
returns-in_err-digit-clause-read c = rw c.from_residual-in_err-digit.ensures (reading_past_no_digit _ _ _ _ c.loop-byte.invariant.1 c.loop-byte-test.true c.in_err-digit.ensures)

pub returns-then-most-digit-clause-read : goal.returns-then-most-digit-clause-read
returns-then-most-digit-clause-read c = reading_past_large _ _ _ _ c.loop-byte.invariant.1 c.loop-byte-test.true _ c.in_ok-digit.ensures c.requires c.if-most-digit.true

pub loop-byte-preserved : goal.loop-byte-preserved
loop-byte-preserved c =
    let i = c.loop-byte.invariant in
    (i.0, reading_past _ _ _ _ i.1 c.loop-byte-test.true _ c.in_ok-digit.ensures (omega arith) i.0 (omega (arith, c.in_ok-digit.ensures, c.requires)))

pub returns-clause-read : goal.returns-clause-read
returns-clause-read c = reading_done _ _ _ _ c.loop-byte.invariant.1 (length-past_first _ _ c.loop-byte-test.false) c.in_ok-first.ensures.item.3.0
