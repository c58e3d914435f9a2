-- `is_word` asks for the word, and then that the field ends. Assumes nothing.
use Rattle.std.proofs.Common.{ℕ, eqb, sym, ap, ◌∙◌}
use Rattle.text.specs.FieldSearch.{word_field, no_word_field}
use Rattle.text.proofs.field.is_word.Goals as goal

pub returns-in-None : goal.returns-in-None
returns-in-None c = no_word_field _ _ _ (sym c.in-None.is ∙ c.after_word.ensures)

pub returns-in-Some : goal.returns-in-Some
returns-in-Some c = ap (λ (n : ℕ). eqb n 10) c.look_at.ensures.0 ∙ word_field _ _ _ _ (sym c.in-Some.is ∙ c.after_word.ensures)
