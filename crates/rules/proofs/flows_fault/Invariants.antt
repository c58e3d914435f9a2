-- `flows_fault` judges the flows in order: what is left has the same first fault at each number. Assumes nothing.
use mathlib.Core.Path.{◌≡◌}
use Prim.Native.Nat.{◌-◌}
use Rattle.model.specs.Sets.{used}
use Rattle.document.specs.Reader.{flows_fault}
use Rattle.rules.proofs.flows_fault.Given as goal

abbrev pub invariant-loop-k : goal.invariant-loop-k
invariant-loop-k l = flows_fault (used l.s) 0 l.s.count ≡ flows_fault (used l.s) l.k (l.s.count - l.k)
