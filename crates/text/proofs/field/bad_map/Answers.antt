-- `bad_map` asks for a tab, a number and no tab more, in this order. Assumes nothing beyond its `requires`.
use Rattle.std.proofs.Common.{sym, ◌∙◌, arith}
use Rattle.std.specs.Prelude.{◌≡◌, ℕ, ◌+◌, Option, List, drop, slice_index_or}
use Rattle.text.specs.Places.{first}
use Rattle.text.specs.NumberAnswers.{number_in}
use Rattle.document.specs.BadField.{breaks_first}
use Rattle.text.specs.FieldSearch.{NextField, breaking_none, map_bad, map_surplus, map_alone}
use Rattle.text.proofs.field.bad_map.Goals as goal

-- the field behind a tab, whose reading says this
next_field : {s : List ℕ} {i : ℕ} {x : Option (ℕ × ℕ)} → slice_index_or s i 0 ≡ 9 → x ≡ number_in (i + 1) (first (drop (i + 1) s)) → NextField s i x
next_field t n = record { tab_is = t; says = n }

pub returns-then-byte_at-ne9 : goal.returns-then-byte_at-ne9
returns-then-byte_at-ne9 c =
    sym (breaking_none breaks_first 2 c.args.s.now c.args.from c.requires (λ q. c.if-byte_at-ne9.true (c.byte_at.ensures ∙ q)))

pub returns-in_default : goal.returns-in_default
returns-in_default c = map_bad (next_field (sym c.byte_at.ensures ∙ c.if-byte_at-ne9.false) c.number_at.ensures.answer) c.in_default.is

pub returns-in-9 : goal.returns-in-9
returns-in-9 c =
    map_surplus (next_field (sym c.byte_at.ensures ∙ c.if-byte_at-ne9.false) c.number_at.ensures.answer) _ _ c.in-Some.is (sym c.byte_at-2.ensures ∙ c.in-9.is)

pub returns-in_default-byte_at : goal.returns-in_default-byte_at
returns-in_default-byte_at c =
    map_alone (next_field (sym c.byte_at.ensures ∙ c.if-byte_at-ne9.false) c.number_at.ensures.answer) _ _ c.in-Some.is (λ q. omega arith)
