-- `hyper_period`: the least common multiple of the periods so far; once it is above the limit it stays above. Assumes nothing beyond its
-- `requires`.
use Prim.Native.Nat.{◌≤◌}
use Rattle.model.specs.Limits.{most_flows}
use Rattle.superframe_table.specs.LoadedHyper.{HyperSoFar}
use Rattle.superframe_table.proofs.hyper.hyper_period.Given as goal

abbrev pub invariant-loop-k : goal.invariant-loop-k
invariant-loop-k l = (l.s.count ≤ most_flows) × HyperSoFar l.s l.k l.h
