-- `link_touches`: none of the ends so far is on the route, and the first that is decides. Assumes nothing beyond its `requires`.
use mathlib.Core.Path.{◌≡◌}
use mathlib.Core.Bool.{false}
use Prim.Native.Nat.{◌+◌}
use lib.ListN.{get_or, drop, take}
use Rattle.model.specs.Sums.{any_to}
use Rattle.model.specs.Sets.{memb}
use Rattle.delay.proofs.places.PlacedRoute.link_touches.Given as goal

abbrev pub invariant-loop-j : goal.invariant-loop-j
invariant-loop-j l = (l.found ≡ false) × (memb l.node (take l.self.count l.self.nodes) ≡ memb l.node (drop l.j (take l.self.count l.self.nodes)))

abbrev pub invariant-ends : goal.invariant-ends
invariant-ends l = (l.found ≡ false) × (any_to (λ x. memb (get_or l.other.route (l.i + x) 0) (take l.self.count l.self.nodes)) l.e ≡ false)
