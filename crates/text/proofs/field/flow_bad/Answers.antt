-- `flow_bad` asks for the word, and then goes on where it ends. Assumes nothing.
use Rattle.std.proofs.Common.{not, sym, ap, ◌∙◌, arith}
use Rattle.document.specs.Text.{flow_word}
use Rattle.document.specs.BadField.{breaks_flow, first_breaking}
use Rattle.text.specs.FieldSearch.{WordEnds, word_ends, breaking_word, breaking_numbers}
use Rattle.text.proofs.field.flow_bad.Goals as goal
use Rattle.text.proofs.field.flow_bad.Goals.{Then-is_word}

-- the place behind the word
after-word : (c : Then-is_word) → let a = c.args in WordEnds a.s.now flow_word a.at
after-word c = word_ends _ flow_word _ (sym c.is_word.ensures ∙ c.if-is_word.true)

pub overflow_add-at : goal.overflow_add-at
overflow_add-at c = omega (arith, (after-word c).within)

pub bad_number-requires : goal.bad_number-requires
bad_number-requires c = (after-word c).ends

pub returns-then-is_word : goal.returns-then-is_word
returns-then-is_word c =
    let w = word_ends c.args.s.now flow_word c.args.at (sym c.is_word.ensures ∙ c.if-is_word.true) in
    c.bad_number.ensures ∙ ap (first_breaking breaks_flow 2) w.others
    ∙ breaking_numbers breaks_flow _ (ap not (sym c.is_word.ensures ∙ c.if-is_word.true))

pub returns-else-is_word : goal.returns-else-is_word
returns-else-is_word c = breaking_word breaks_flow _ (ap not (sym c.is_word.ensures ∙ c.if-is_word.false))
