-- `repeat_at` passes the nodes in order: those passed differ from the ones just before them. Assumes nothing.
use mathlib.Core.Path.{◌≡◌}
use mathlib.Core.List.{List}
use Prim.Native.Nat.{ℕ, ◌≤◌, min}
use lib.ListN.{length}
use Rattle.model.specs.Limits.{most_nodes}
use Rattle.laws.specs.Neighbours.{Differ}
use Rattle.rules.proofs.route.repeat_at.Given as goal

-- the pass that has come to place i of the first `end` nodes
pub record Passed (n : ℕ) (route : List ℕ) (end i : ℕ) : Type 0 where
  pub long : length route ≡ most_nodes
  pub ends : end ≡ min n most_nodes
  pub few : end ≤ most_nodes
  pub from : 1 ≤ i
  pub differ : Differ route i

abbrev pub invariant-loop-i : goal.invariant-loop-i
invariant-loop-i l = Passed l.n l.route l.end l.i
