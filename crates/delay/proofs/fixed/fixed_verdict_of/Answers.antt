-- `fixed_verdict_of`: the answer for all flows gives it, or the set is refused. Assumes nothing.
use mathlib.Core.Path.{◌∙◌}
use Rattle.delay.specs.FixedAnswers.{fixed_verdict_refused}
use Rattle.delay.proofs.fixed.fixed_verdict_of.Goals as goal

pub returns-in-Err : goal.returns-in-Err
returns-in-Err c = c.refused.ensures ∙ fixed_verdict_refused _ _ (rw c.in-Err.is at c.requires)
