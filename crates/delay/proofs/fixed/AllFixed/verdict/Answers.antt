-- `verdict`: the bounds of all flows are compared with the deadlines. Assumes nothing beyond its `requires`.
use Rattle.laws.specs.Accepted.{accepted}
use Rattle.model.specs.Sets.{used}
use Rattle.delay.specs.FixedAnswers.{fixed_verdict_made}
use Rattle.delay.proofs.fixed.AllFixed.verdict.Goals as goal

pub admits-requires : goal.admits-requires
unfolding used
admits-requires c = (accepted _ c.requires.passed).count_le

pub returns : goal.returns
unfolding used
returns c = fixed_verdict_made _ _ c.requires _ c.none.ensures _ c.admits.ensures
