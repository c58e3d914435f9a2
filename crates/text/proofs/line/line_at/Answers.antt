-- `line_at` is the line of numbers behind the word. Assumes nothing.
use Rattle.std.proofs.Common.{sym, ◌∙◌}
use Rattle.text.specs.Rows.{word_row, no_word_row}
use Rattle.text.proofs.line.line_at.Goals as goal

pub returns-in_err-after_word : goal.returns-in_err-after_word
returns-in_err-after_word c =
    c.from_residual.ensures ∙ no_word_row _ _ _ (sym c.in_err-after_word.was ∙ c.after_word.ensures)

pub returns : goal.returns
returns c = c.numbers_at.ensures ∙ word_row _ _ _ _ (sym c.in_ok-after_word.was ∙ c.after_word.ensures)
