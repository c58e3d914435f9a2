use Rattle.std.proofs.Common.{sym, ◌∙◌, arith}
use Rattle.text.specs.NumberAnswers.{number_said}
use Rattle.text.specs.DigitsRead.{digits_start, digits_inside, digits_room, digits_more, digits_many, digits_large, digits_other, digits_stop}
use Rattle.text.proofs.line.number_at.Goals as goal

pub loop-d-init : goal.loop-d-init
loop-d-init c = digits_start _ _ _ c.look_at-d.ensures.0 c.look_at-d.ensures.1

pub returns-then-i-from-ge-MOST_DIGITS : goal.returns-then-i-from-ge-MOST_DIGITS
returns-then-i-from-ge-MOST_DIGITS c = let e = sym (digits_many _ _ _ _ _ c.loop-d.invariant c.loop-d-test.true c.if-i-from-ge-MOST_DIGITS.true) in record { answer = e; says = number_said _ _ e }

pub overflow_mul-v : goal.overflow_mul-v
overflow_mul-v c = omega (arith, digits_room _ _ _ _ _ c.loop-d.invariant c.if-i-from-ge-MOST_DIGITS.false)

pub overflow_add-v : goal.overflow_add-v
overflow_add-v c = omega (arith, digits_room _ _ _ _ _ c.loop-d.invariant c.if-i-from-ge-MOST_DIGITS.false, c.loop-d-test.true)

pub overflow_add-i : goal.overflow_add-i
overflow_add-i c = omega (arith, digits_inside _ _ _ _ _ c.loop-d.invariant c.loop-d-test.true)

pub loop-d-smaller : goal.loop-d-smaller
loop-d-smaller c = omega (arith, digits_inside _ _ _ _ _ c.loop-d.invariant c.loop-d-test.true)

pub loop-d-preserved : goal.loop-d-preserved
loop-d-preserved c =
    digits_more _ _ _ _ _ c.loop-d.invariant _ c.loop-d-test.true c.if-i-from-ge-MOST_DIGITS.false
    c.look_at-d-in-loop-d.ensures.0 c.look_at-d-in-loop-d.ensures.1

pub returns-then-d-eq11 : goal.returns-then-d-eq11
returns-then-d-eq11 c = let e = sym (digits_other _ _ _ _ _ c.loop-d.invariant c.if-d-eq11.true) in record { answer = e; says = number_said _ _ e }

pub returns-then-v-gt65535 : goal.returns-then-v-gt65535
returns-then-v-gt65535 c = let e = sym (digits_large _ _ _ _ _ c.loop-d.invariant c.if-v-gt65535.true) in record { answer = e; says = number_said _ _ e }

pub returns : goal.returns
returns c =
    let e = c.number_of.ensures ∙ digits_stop _ _ _ _ _ c.loop-d.invariant _ c.byte_at.ensures c.loop-d-test.false c.if-d-eq11.false c.if-v-gt65535.false in
    record { answer = e; says = number_said _ _ e }
