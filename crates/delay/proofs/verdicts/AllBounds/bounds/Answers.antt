-- `bounds`: 13 where there is no such flow, else the bounds. Assumes nothing beyond its `requires`.
use mathlib.Core.Path.{ap, ◌∙◌}
use Rattle.model.specs.Refusals.{refused_bounds}
use Rattle.model.specs.Sets.{used}
use Rattle.delay.specs.VerdictAnswers.{bounds_none, bounds_given}
use Rattle.delay.proofs.verdicts.AllBounds.bounds.Goals as goal

pub returns-then-s-k : goal.returns-then-s-k
unfolding used
returns-then-s-k c =
    c.refused.ensures ∙ ap refused_bounds c.of.ensures ∙ bounds_none (used c.args.s.now) c.args.k c.requires.passed c.if-s-k.true

pub returns : goal.returns
unfolding used
returns c =
    c.bounds_at.ensures ∙ bounds_given (used c.args.s.now) c.args.k c.requires.passed c.if-s-k.false
