-- `of`: the first k entries are T, D and C. Assumes nothing beyond its `requires`.
use Prim.Native.Nat.{◌≤◌}
use Rattle.model.specs.Limits.{most_flows}
use Rattle.model.specs.Sets.{used}
use Rattle.delay.specs.ShareRows.{FlowNumbersTo}
use Rattle.delay.proofs.shares.FlowNumbers.of.Given as goal

abbrev pub invariant-loop-k : goal.invariant-loop-k
invariant-loop-k l = (l.s.count ≤ most_flows) × FlowNumbersTo (used l.s) l.k l.numbers
