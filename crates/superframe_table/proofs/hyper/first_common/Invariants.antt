-- `first_common` goes through the multiples of a that do not come after the least common one. Assumes nothing beyond its `requires`.
use Rattle.superframe_table.specs.LoadedHyper.{Reached}
use Rattle.superframe_table.proofs.hyper.first_common.Given as goal

abbrev pub invariant-loop-k : goal.invariant-loop-k
invariant-loop-k l = Reached l.a l.b l.k
