-- `row_at` reads four numbers; what is left of the line says the rest (`RowSoFar`). Assumes nothing.
use Rattle.std.proofs.Common.{sym, ◌∙◌, arith}
use Rattle.text.specs.RowAtPlace.{row_said_law, row_start, row_next, row_no_tab, row_ends, row_no_lf, row_found}
use Rattle.text.proofs.table.row_at.Goals as goal

pub returns-in_default : goal.returns-in_default
returns-in_default c =
    let e = row_no_tab (row_start _ _) (omega arith) (sym c.field_at.ensures.answer ∙ c.in_default.is) in
    record { answer = e; says = row_said_law _ _ e }

pub returns-in_default-field_at : goal.returns-in_default-field_at
returns-in_default-field_at c =
    let one = row_next (row_start c.args.s.now c.args.from) _ _ (sym c.field_at.ensures.answer ∙ c.in-Some.is) in
    let e = row_no_tab one (omega arith) (sym c.field_at-2.ensures.answer ∙ c.in_default-field_at.is) in
    record { answer = e; says = row_said_law _ _ e }

pub returns-in_default-field_at-2 : goal.returns-in_default-field_at-2
returns-in_default-field_at-2 c =
    let one = row_next (row_start c.args.s.now c.args.from) _ _ (sym c.field_at.ensures.answer ∙ c.in-Some.is) in
    let two = row_next one _ _ (sym c.field_at-2.ensures.answer ∙ c.in-Some-field_at.is) in
    let e = row_no_tab two (omega arith) (sym c.field_at-3.ensures.answer ∙ c.in_default-field_at-2.is) in
    record { answer = e; says = row_said_law _ _ e }

pub returns-in_default-field_at-3 : goal.returns-in_default-field_at-3
returns-in_default-field_at-3 c =
    let one = row_next (row_start c.args.s.now c.args.from) _ _ (sym c.field_at.ensures.answer ∙ c.in-Some.is) in
    let two = row_next one _ _ (sym c.field_at-2.ensures.answer ∙ c.in-Some-field_at.is) in
    let three = row_next two _ _ (sym c.field_at-3.ensures.answer ∙ c.in-Some-field_at-2.is) in
    let e = row_no_lf three (sym c.field_at-4.ensures.answer ∙ c.in_default-field_at-3.is) in
    record { answer = e; says = row_said_law _ _ e }

pub returns : goal.returns
returns c =
    let one = row_next (row_start c.args.s.now c.args.from) _ _ (sym c.field_at.ensures.answer ∙ c.in-Some.is) in
    let two = row_next one _ _ (sym c.field_at-2.ensures.answer ∙ c.in-Some-field_at.is) in
    let three = row_next two _ _ (sym c.field_at-3.ensures.answer ∙ c.in-Some-field_at-2.is) in
    let e = row_found _ _ _ _ _ _ _ (row_ends three _ _ (sym c.field_at-4.ensures.answer ∙ c.in-Some-field_at-3.is)) in
    record { answer = e; says = row_said_law _ _ e }
