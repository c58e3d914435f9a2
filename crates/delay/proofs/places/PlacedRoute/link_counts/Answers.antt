-- `link_counts`: a link both of whose ends are beyond the route has none on it. Assumes nothing beyond its `requires`.
use mathlib.Core.Path.{sym, ap}
use Prim.Native.Nat.{◌+◌}
use native.Mathlib.Omega.{arith}
use lib.ListN.{get_or}
use Rattle.model.specs.Sums.{bit}
use Rattle.delay.specs.RoutePlaces.{places_none, ends_off}
use Rattle.delay.proofs.places.PlacedRoute.link_counts.Goals as goal

pub returns-then-self-b : goal.returns-then-self-b
returns-then-self-b c =
    let m = c.args.self.now in
    let r = c.args.other.now.route in
    let first = places_none _ _ m.count (get_or r c.args.i 0) m.placed (rw c.requires.a_value at c.if-self-a.true) in
    let second = places_none _ _ m.count (get_or r (c.args.i + 1) 0) m.placed (rw c.requires.b_value at c.if-self-b.true) in
    (sym (ap bit (ends_off r _ c.args.i first second)), omega arith)
