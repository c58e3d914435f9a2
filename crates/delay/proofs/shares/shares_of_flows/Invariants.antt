-- `shares_of_flows`: the first k rows and their sums are done. Assumes nothing beyond its `requires`.
use Rattle.delay.specs.ShareRows.{ZeroFrom, SharesTo}
use Rattle.delay.proofs.shares.shares_of_flows.Given as goal

abbrev pub invariant-loop-k : goal.invariant-loop-k
invariant-loop-k l = ZeroFrom l.n l.q × SharesTo l.n l.k l.numbers l.conflict l.remainder l.whole
