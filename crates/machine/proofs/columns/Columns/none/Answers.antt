-- `none` has 0 everywhere. Assumes nothing.
use Rattle.machine.specs.ArrayLists.{get_or_zeros}
use Rattle.model.specs.Limits.{most_flows}
use native.Mathlib.Omega.{arith}
use Prim.Native.Nat.{zero-le}
use Rattle.machine.proofs.columns.Columns.none.Goals as goal

pub invariant_of-result : goal.invariant_of-result
invariant_of-result c = record { some_ways = zero-le; few = zero-le; small = λ k. omega (arith, get_or_zeros most_flows k) }
