-- `take` gives each flow's numbers in turn; C fits a byte since the set is accepted. Assumes nothing.
use lib.Count.{ones}
use mathlib.Core.Path.{◌≡◌}
use Rattle.machine.specs.SlotByColumns.{FlowsPut}
use Rattle.machine.specs.Structs.{links_of, numbers_of}
use Rattle.machine.proofs.columns.Columns.take.Given as goal

abbrev pub invariant-loop-k : goal.invariant-loop-k
invariant-loop-k l = (l.self.ways ≡ ones l.s.map.0) × FlowsPut l.s l.k l.self.count (numbers_of l.self) (links_of l.self)
