use Rattle.std.proofs.Common.{sym, ◌∙◌, arith}
use Rattle.std.specs.Prelude.{◌≡◌, ℕ, ◌+◌, Option, List, drop, slice_index_or}
use Rattle.text.specs.Places.{first}
use Rattle.text.specs.NumberAnswers.{number_in}
use Rattle.text.specs.FieldSearch.{NextField, field_read, fields_inside, fields_bad, fields_more, fields_done}
use Rattle.text.proofs.field.bad_number.Goals as goal

-- the field behind a tab, whose reading says this
next_field : {s : List ℕ} {i : ℕ} {x : Option (ℕ × ℕ)} → slice_index_or s i 0 ≡ 9 → x ≡ number_in (i + 1) (first (drop (i + 1) s)) → NextField s i x
next_field t n = record { tab_is = t; says = n }

pub returns-in_default : goal.returns-in_default
returns-in_default c =
    fields_bad c.loop-field.invariant (next_field (sym c.byte_at.ensures ∙ c.loop-field-test.true) c.number_at.ensures.answer) c.in_default.is

pub loop-field-smaller : goal.loop-field-smaller
loop-field-smaller c =
    let a = next_field (sym c.byte_at.ensures ∙ c.loop-field-test.true) c.number_at.ensures.answer in
    omega (arith, fields_inside c.loop-field.invariant a.tab_is, (field_read a _ _ c.in-Some.is).on)

pub loop-field-preserved : goal.loop-field-preserved
loop-field-preserved c =
    fields_more c.loop-field.invariant (next_field (sym c.byte_at.ensures ∙ c.loop-field-test.true) c.number_at.ensures.answer) _ _ c.in-Some.is

pub returns : goal.returns
returns c = fields_done c.loop-field.invariant (λ q. c.loop-field-test.false (c.byte_at.ensures ∙ q))
