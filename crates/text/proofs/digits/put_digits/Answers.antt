use Rattle.std.proofs.Common.{sym, rules}
use Rattle.document.specs.Text.{decimal}
use Rattle.text.specs.DigitsPut.{sets_out, digits_left, digits_more, digits_done}
use Rattle.text.proofs.digits.put_digits.Goals as goal

pub returns-then-out-at : goal.returns-then-out-at
returns-then-out-at c = (sym (sets_out (decimal c.args.v) _ _ c.if-out-at.true), search rules, search rules)

pub overflow_sub-i : goal.overflow_sub-i
overflow_sub-i c = digits_left _ _ _ _ _ _ c.loop-n.invariant.2 c.loop-n-test.true

pub loop-n-preserved : goal.loop-n-preserved
loop-n-preserved c =
    let w = c.loop-n.invariant in
    (w.0, w.1, digits_more _ _ _ _ _ _ w.2 _ _ c.loop-n-test.true c.digit.ensures c.put_at.ensures)

pub returns : goal.returns
returns c =
    let w = c.loop-n.invariant in
    (digits_done _ _ _ _ _ _ w.2 _ _ c.loop-n-test.false c.digit-2.ensures c.put_at-2.ensures, w.0, w.1)
