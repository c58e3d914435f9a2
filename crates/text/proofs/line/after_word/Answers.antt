use Rattle.std.proofs.Common.{sym, ◌∙◌, arith}
use Rattle.text.specs.Rows.{spelling_more, spelling_inside, spelling_other, spelling_end}
use Rattle.text.proofs.line.after_word.Goals as goal

pub overflow_add-at : goal.overflow_add-at
overflow_add-at c = omega (arith, spelling_inside _ _ _ _ _ c.loop-c.invariant (sym c.begins.ensures ∙ c.if-not-begins.false))

pub loop-c-preserved : goal.loop-c-preserved
loop-c-preserved c = spelling_more _ _ _ _ _ c.loop-c.invariant c.loop-c-test.true (sym c.begins.ensures ∙ c.if-not-begins.false)

pub returns-then-not-begins : goal.returns-then-not-begins
returns-then-not-begins c =
    spelling_other _ _ _ _ _ c.loop-c.invariant c.loop-c-test.true (sym c.begins.ensures ∙ c.if-not-begins.true)

pub returns : goal.returns
returns c = spelling_end _ _ _ _ _ c.loop-c.invariant c.loop-c-test.false
