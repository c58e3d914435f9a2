-- `first_places`: each node from the last one on has a place that is not after it. Assumes nothing beyond its `requires`.
use Rattle.delay.specs.RoutePlaces.{Places}
use Rattle.delay.proofs.places.first_places.Given as goal

abbrev pub invariant-loop-j : goal.invariant-loop-j
invariant-loop-j l = Places l.places l.route l.j l.n
