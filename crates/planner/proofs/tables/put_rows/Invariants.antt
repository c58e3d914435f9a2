-- `put_rows` puts one flow's row more each time round; what stands beyond the rows is as it was. Assumes nothing.
use mathlib.Core.Path.{◌≡◌}
use mathlib.Core.List.{◌++◌}
use Prim.Native.Nat.{◌*◌}
use lib.ListN.{length, drop}
use Rattle.model.specs.Sets.{used}
use Rattle.document.specs.ForC.{bounds_rows}
use Rattle.planner.proofs.tables.put_rows.Given as goal

abbrev pub invariant-loop-k : goal.invariant-loop-k
invariant-loop-k l = (length l.table ≡ length l.initial.table) × (l.table ≡ bounds_rows (used l.s) l.k ++ drop (4 * l.k) l.initial.table)
