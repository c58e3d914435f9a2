-- `verdict`: the bounds of all flows are compared with the deadlines. Assumes nothing beyond its `requires`.
use Rattle.laws.specs.Accepted.{accepted}
use Rattle.model.specs.Sets.{used}
use Rattle.delay.specs.VerdictAnswers.{verdict_made}
use Rattle.delay.proofs.verdicts.AllBounds.verdict.Goals as goal

pub admits-requires : goal.admits-requires
unfolding used
admits-requires c = (accepted _ c.requires.passed).count_le

pub admits-requires-2 : goal.admits-requires-2
unfolding used
admits-requires-2 c = (accepted _ c.requires.passed).count_le

pub returns : goal.returns
unfolding used
returns c = verdict_made _ c.args.self.now _ _ _ c.requires c.none.ensures c.admits.ensures c.admits-2.ensures
