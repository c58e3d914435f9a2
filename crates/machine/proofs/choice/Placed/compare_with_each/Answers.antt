use Rattle.laws.specs.SumLaws.{any_zero, any_next, any_in}
use mathlib.Core.Path.{sym, ◌∙◌}
use borrow.Author.Rules.{rules}
use Rattle.machine.proofs.choice.Placed.compare_with_each.Goals as goal

pub loop-j-init : goal.loop-j-init
loop-j-init c = any_zero _

pub returns-then-meets : goal.returns-then-meets
returns-then-meets c = sym (any_in _ _ c.loop-j.j (search rules) (sym c.meets.ensures ∙ c.if-meets.true))

pub loop-j-preserved : goal.loop-j-preserved
loop-j-preserved c = any_next _ _ c.loop-j.invariant (sym c.meets.ensures ∙ c.if-meets.false)
