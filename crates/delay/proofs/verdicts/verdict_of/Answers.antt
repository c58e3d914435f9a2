-- `verdict_of`: the bounds of all flows give it, or the set is refused. Assumes nothing beyond its `requires`.
use mathlib.Core.Path.{◌∙◌}
use Rattle.delay.specs.VerdictAnswers.{verdict_refused}
use Rattle.delay.proofs.verdicts.verdict_of.Goals as goal

pub returns-in-Err : goal.returns-in-Err
returns-in-Err c = c.refused.ensures ∙ verdict_refused _ _ (rw c.in-Err.is at c.requires)
