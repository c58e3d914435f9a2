-- `first_bad` asks whether there is a field at all, then for the word, and then goes on where it ends. Assumes nothing.
use Rattle.std.proofs.Common.{Bool, not, ◌||◌, ltb, sym, ap, ◌∙◌, ne_eqb}
use Rattle.document.specs.Text.{set_word}
use Rattle.document.specs.BadField.{breaks_first, first_breaking}
use Rattle.text.specs.FieldSearch.{word_ends, breaking_word, breaking_numbers}
use Rattle.text.proofs.field.first_bad.Goals as goal

pub bad_map-requires : goal.bad_map-requires
bad_map-requires c = (word_ends _ set_word 0 (sym c.is_word.ensures ∙ c.if-is_word.true)).ends

pub returns-then-is_word : goal.returns-then-is_word
returns-then-is_word c =
    let e = sym c.is_word.ensures ∙ c.if-is_word.true in
    c.bad_map.ensures ∙ ap (first_breaking breaks_first 2) (word_ends _ set_word 0 e).others
    ∙ breaking_numbers breaks_first _ (ap (λ (b : Bool). not b || ltb 2 1) e)
    ∙ rw (ne_eqb _ 0 c.if-s-eq0.false)

pub returns : goal.returns
returns c =
    breaking_word breaks_first _ (ap (λ (b : Bool). not b || ltb 2 1) (sym c.is_word.ensures ∙ c.if-is_word.false))
    ∙ rw (ne_eqb _ 0 c.if-s-eq0.false)
