-- `links_touched`: the links so far are counted, and the place of the next link's first end is known. Assumes nothing beyond its `requires`.
use mathlib.Core.Path.{◌≡◌}
use lib.ListN.{get_or, take}
use Prim.Native.Nat.{◌≤◌}
use Rattle.delay.specs.RoutePlaces.{ends_on, kind_of}
use Rattle.delay.proofs.places.PlacedRoute.links_touched.Given as goal

abbrev pub invariant-loop-i : goal.invariant-loop-i
invariant-loop-i l = (l.touched ≤ l.i)
    × (l.a ≡ get_or l.self.places (kind_of (get_or l.other.route l.i 0)) 0)
    × (l.touched ≡ ends_on l.other.route (take l.self.count l.self.nodes) l.i)
