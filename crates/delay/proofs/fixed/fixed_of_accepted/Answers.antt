-- `fixed_of_accepted`: the flows' numbers and S, then the flows judged by them. Assumes nothing beyond its `requires`.
use Rattle.laws.specs.Accepted.{accepted}
use Rattle.delay.specs.FixedAnswers.{all_fixed_given}
use Rattle.delay.specs.PairGrids.{rows_start}
use Rattle.delay.proofs.fixed.fixed_of_accepted.Goals as goal

pub of-numbers-requires : goal.of-numbers-requires
of-numbers-requires c = accepted _ c.requires

pub conflict_work-requires : goal.conflict_work-requires
conflict_work-requires c = (accepted _ c.requires, rows_start _ _)

pub judge_in_order-requires : goal.judge_in_order-requires
judge_in_order-requires c = record { accepted = (accepted _ c.requires, c.of-numbers.ensures); rows_below = c.conflict_work.ensures }

pub returns : goal.returns
returns c = all_fixed_given _ _ c.requires c.judge_in_order.ensures
