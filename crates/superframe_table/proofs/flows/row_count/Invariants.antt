-- `row_count`: the sum of the rows of the flows so far, at most 65,536 each. Assumes nothing beyond its `requires`.
use mathlib.Core.Path.{◌≡◌}
use Prim.Native.Nat.{◌*◌, ◌≤◌}
use Rattle.model.specs.{Limits.{most_flows}, Sums.{sum_to}, Sets.{used}}
use Rattle.document.specs.Superframe.{most_hyper}
use Rattle.superframe_table.specs.TableFlows.{flow_rows}
use Rattle.superframe_table.proofs.flows.row_count.Given as goal

abbrev pub invariant-loop-k : goal.invariant-loop-k
invariant-loop-k l = (l.s.count ≤ most_flows) × (l.rows ≤ most_hyper * l.k) × (l.rows ≡ sum_to (flow_rows (used l.s)) l.k)
