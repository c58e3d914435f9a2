-- `compare_with_each` passes the placed links that share no node. Assumes nothing.
use Rattle.machine.specs.PlacedChoice.{clash_ends}
use mathlib.Core.Bool.{false}
use mathlib.Core.Path.{◌≡◌}
use Rattle.machine.proofs.choice.Placed.compare_with_each.Given as goal

abbrev pub invariant-loop-j : goal.invariant-loop-j
invariant-loop-j l = clash_ends l.a.from l.a.to l.self.from l.self.to l.j ≡ false
