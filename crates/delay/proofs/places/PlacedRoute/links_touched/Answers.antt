use mathlib.Core.Path.{sym, ap₂, ◌∙◌}
use Prim.Native.Nat.{ℕ, ◌+◌}
use native.Mathlib.Omega.{arith}
use Rattle.laws.specs.SumLaws.{sum_next, sum_zero}
use Rattle.delay.specs.RoutePlaces.{ends_on}
use Rattle.delay.proofs.places.PlacedRoute.links_touched.Goals as goal

pub loop-i-init : goal.loop-i-init
unfolding ends_on
loop-i-init c = (omega arith, c.search_from-a.ensures, sym (sum_zero _ 0 (λ x h. omega arith)))

pub loop-i-preserved : goal.loop-i-preserved
unfolding ends_on
loop-i-preserved c =
    let w = c.loop-i in
    (omega (arith, c.link_counts-touched.ensures.1), c.search_from-b.ensures, ap₂ (λ (x y : ℕ). x + y) w.invariant.2 c.link_counts-touched.ensures.0 ∙ sym (sum_next _ w.i))
