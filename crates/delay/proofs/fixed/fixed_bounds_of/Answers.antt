-- `fixed_bounds_of`: the answer for all flows gives it, or the set is refused. Assumes nothing.
use mathlib.Core.Path.{◌∙◌}
use Rattle.delay.specs.FixedAnswers.{fixed_refused}
use Rattle.delay.proofs.fixed.fixed_bounds_of.Goals as goal

pub returns-in-Err : goal.returns-in-Err
returns-in-Err c = c.refused.ensures ∙ fixed_refused _ c.args.k _ (rw c.in-Err.is at c.requires)
