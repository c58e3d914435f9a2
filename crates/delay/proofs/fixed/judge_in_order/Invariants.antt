-- `judge_in_order`: the flows so far are judged and keep their deadlines, so the next is judged. Assumes nothing beyond its `requires`.
use Prim.Native.Nat.{◌≤◌}
use Rattle.model.specs.Limits.{most_flows}
use Rattle.model.specs.Sets.{used}
use Rattle.delay.specs.FixedJudged.{JudgedTo}
use Rattle.delay.proofs.fixed.judge_in_order.Given as goal

abbrev pub invariant-loop-k : goal.invariant-loop-k
invariant-loop-k l = (l.n ≤ most_flows) × JudgedTo (used l.s) l.k l.bound
