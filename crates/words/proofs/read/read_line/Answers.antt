-- A line goes by its first word.
use native.Mathlib.Omega.{arith}
use mathlib.Core.Path.{sym, ◌∙◌}
use Rattle.rules.specs.Script.{reply_to}
use Rattle.words.proofs.Letters.{line-long, line-words, line_other, line-letter, line_letter_other}
use Rattle.words.proofs.read.read_line.Goals as goal

pub returns-then-line-gt-LINE_MOST : goal.returns-then-line-gt-LINE_MOST
returns-then-line-gt-LINE_MOST c = λ st. line-long st _ c.if-line-gt-LINE_MOST.true

pub returns-in_err-next : goal.returns-in_err-next
unfolding reply_to
returns-in_err-next c = rw c.from_residual.ensures (λ st. line-words st _ c.if-line-gt-LINE_MOST.false _ (sym c.new-words.ensures ∙ c.in_err-next.ensures))

pub returns-in_default : goal.returns-in_default
returns-in_default c = λ st. line_other st _ c.if-line-gt-LINE_MOST.false _ _ (sym c.new-words.ensures ∙ c.in_ok-next.ensures) (λ e. omega (arith, e, c.in_default.len_below))

pub returns-in_default-2 : goal.returns-in_default-2
returns-in_default-2 c = λ st. line_other st _ c.if-line-gt-LINE_MOST.false _ _ (sym c.new-words.ensures ∙ c.in_ok-next.ensures) (λ e. omega (arith, e, c.in_default.len_at_least))

pub returns-in-110 : goal.returns-in-110
unfolding reply_to
returns-in-110 c = λ st. line-letter st _ c.if-line-gt-LINE_MOST.false _ _ (sym c.new-words.ensures ∙ c.in_ok-next.ensures) (omega (arith, c.in-len1.len_at_least, c.in-len1.len_below)) ∙ rw c.in-110.is (c.read_new_run.ensures st)

pub returns-in-97 : goal.returns-in-97
unfolding reply_to
returns-in-97 c = λ st. line-letter st _ c.if-line-gt-LINE_MOST.false _ _ (sym c.new-words.ensures ∙ c.in_ok-next.ensures) (omega (arith, c.in-len1.len_at_least, c.in-len1.len_below)) ∙ rw c.in-97.is (c.read_insert.ensures st)

pub returns-in-117 : goal.returns-in-117
unfolding reply_to
returns-in-117 c = λ st. line-letter st _ c.if-line-gt-LINE_MOST.false _ _ (sym c.new-words.ensures ∙ c.in_ok-next.ensures) (omega (arith, c.in-len1.len_at_least, c.in-len1.len_below)) ∙ rw c.in-117.is (c.read_union.ensures st)

pub returns-in-108 : goal.returns-in-108
unfolding reply_to
returns-in-108 c = λ st. line-letter st _ c.if-line-gt-LINE_MOST.false _ _ (sym c.new-words.ensures ∙ c.in_ok-next.ensures) (omega (arith, c.in-len1.len_at_least, c.in-len1.len_below)) ∙ rw c.in-108.is (c.read_list.ensures st)

pub returns-in-114 : goal.returns-in-114
unfolding reply_to
returns-in-114 c = λ st. line-letter st _ c.if-line-gt-LINE_MOST.false _ _ (sym c.new-words.ensures ∙ c.in_ok-next.ensures) (omega (arith, c.in-len1.len_at_least, c.in-len1.len_below)) ∙ rw c.in-114.is (c.read_remove.ensures st)

pub returns-in_default-letter : goal.returns-in_default-letter
returns-in_default-letter c = λ st. line_letter_other st _ c.if-line-gt-LINE_MOST.false _ _ (sym c.new-words.ensures ∙ c.in_ok-next.ensures) (omega (arith, c.in-len1.len_at_least, c.in-len1.len_below)) (omega arith) (omega arith) (omega arith) (omega arith) (omega arith)
