-- `conflict_row`: the row's first l places hold S, and all else is as it was. Assumes nothing beyond its `requires`.
use Prim.Native.Nat.{◌≤◌}
use Rattle.model.specs.Limits.{most_flows}
use Rattle.model.specs.Sets.{used}
use Rattle.delay.specs.PairGrids.{RowDone, conflict_of}
use Rattle.delay.proofs.conflicts.conflict_row.Given as goal

abbrev pub invariant-loop-l : goal.invariant-loop-l
invariant-loop-l l = (l.n ≤ most_flows) × RowDone (conflict_of (used l.s) l.k) l.l l.k l.initial.t l.t
