use Rattle.std.proofs.Common.{◌∙◌, arith}
use Rattle.text.specs.EndedNumbers.{to_end_inside, to_end_more, to_end_above, to_end}
use Rattle.text.proofs.table.digits_to.Goals as goal

pub returns-then-v-gt65535 : goal.returns-then-v-gt65535
returns-then-v-gt65535 c = to_end_above c.loop-d.invariant c.loop-d-test.true c.if-v-gt65535.true

pub overflow_add-i : goal.overflow_add-i
overflow_add-i c = omega (arith, to_end_inside c.loop-d.invariant c.loop-d-test.true)

pub loop-d-smaller : goal.loop-d-smaller
loop-d-smaller c = omega (arith, to_end_inside c.loop-d.invariant c.loop-d-test.true)

pub loop-d-preserved : goal.loop-d-preserved
loop-d-preserved c = to_end_more c.loop-d.invariant _ c.loop-d-test.true c.if-v-gt65535.false c.digit_at-d-in-loop-d.ensures

pub returns : goal.returns
returns c =
    let p = c.requires in
    c.ended_by.ensures ∙ to_end c.loop-d.invariant c.loop-d-test.false p.1 p.2
