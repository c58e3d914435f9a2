-- `conflict_work`: the first k rows hold S, each as far as its columns go. Assumes nothing beyond its `requires`.
use Rattle.model.specs.Sets.{used}
use Rattle.delay.specs.PairGrids.{RowsBy, columns_of, conflict_of}
use Rattle.delay.proofs.conflicts.conflict_work.Given as goal

abbrev pub invariant-loop-k : goal.invariant-loop-k
invariant-loop-k l = RowsBy (conflict_of (used l.s)) (columns_of l.columns l.s.count) l.k l.t
