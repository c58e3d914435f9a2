-- `field_at` is told by its first digit: none, a zero that stands alone, or one that further digits follow. Assumes nothing beyond its `requires`.
use Rattle.std.proofs.Common.{◌∙◌, arith}
use Rattle.text.specs.EndedNumbers.{field_says, first_inside, first_none, first_zero, first_other}
use Rattle.text.proofs.table.field_at.Goals as goal

pub returns-then-lead-gt9 : goal.returns-then-lead-gt9
returns-then-lead-gt9 c = let e = first_none c.digit_at-lead.ensures _ c.if-lead-gt9.true in record { answer = e; says = field_says _ _ _ e }

pub overflow_add-from : goal.overflow_add-from
overflow_add-from c = omega (arith, first_inside c.digit_at-lead.ensures c.if-lead-gt9.false)

pub returns-then-lead-eq0 : goal.returns-then-lead-eq0
returns-then-lead-eq0 c =
    let p = c.requires in
    let e = c.ended_by.ensures ∙ first_zero c.digit_at-lead.ensures _ c.if-lead-eq0.true p.0 p.1 in
    record { answer = e; says = field_says _ _ _ e }

pub overflow_add-from-2 : goal.overflow_add-from-2
overflow_add-from-2 c = omega (arith, first_inside c.digit_at-lead.ensures c.if-lead-gt9.false)

pub returns : goal.returns
returns c =
    let e = c.digits_to.ensures ∙ first_other c.digit_at-lead.ensures _ c.if-lead-gt9.false c.if-lead-eq0.false in
    record { answer = e; says = field_says _ _ _ e }
