-- `bounds`: 13 where there is no such flow, else the flow's answer. Assumes nothing beyond its `requires`.
use mathlib.Core.Path.{ap, ◌∙◌}
use Rattle.model.specs.Refusals.{refused_fixed_bounds}
use Rattle.model.specs.Sets.{used}
use Rattle.delay.specs.FixedAnswers.{fixed_none, fixed_given}
use Rattle.delay.proofs.fixed.AllFixed.bounds.Goals as goal

pub returns-then-s-k : goal.returns-then-s-k
unfolding used
returns-then-s-k c =
    c.refused.ensures ∙ ap refused_fixed_bounds c.of.ensures ∙ fixed_none (used c.args.s.now) c.args.k c.requires.passed c.if-s-k.true

pub returns : goal.returns
unfolding used
returns c =
    c.bounds_at.ensures ∙ fixed_given (used c.args.s.now) c.args.k c.requires.passed c.if-s-k.false
