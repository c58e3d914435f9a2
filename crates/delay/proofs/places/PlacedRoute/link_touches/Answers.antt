use mathlib.Core.Path.{◌≡◌, refl, sym, ap, ◌∙◌}
use Prim.Native.Nat.{ℕ, ◌+◌, ◌≤◌}
use native.Mathlib.Omega.{arith}
use lib.ListN.{get_or, drop, take, length}
use Rattle.model.specs.Sets.{memb}
use Rattle.laws.specs.SumLaws.{any_zero, any_next, any_in}
use Rattle.laws.specs.Nodes.{memb_here, memb_on, memb_end}
use Rattle.delay.specs.RoutePlaces.{places_search}
use Rattle.delay.proofs.places.PlacedRoute.link_touches.Goals as goal

pub ends-init : goal.ends-init
ends-init c = (refl, any_zero _)

pub loop-j-init : goal.loop-j-init
loop-j-init c =
    let a = c.args.self.now in
    let x = get_or c.args.other.now.route (c.args.i + c.ends.e) 0 in
    let f = ap (λ (j : ℕ). memb x (drop j (take a.count a.nodes))) c.search_from-j.ensures in
    (c.ends.invariant.0, sym (f ∙ places_search _ a.nodes a.count x a.placed))

pub loop-j-preserved : goal.loop-j-preserved
loop-j-preserved c =
    let a = c.args.self.now in
    let w = c.loop-j in
    let h : a.count ≤ length a.nodes = omega (arith, a.few, a.long) in
    (w.invariant.0, w.invariant.1 ∙ memb_on a.nodes a.count h _ w.j c.loop-j-test.true c.if-node-self.false)

pub ends-preserved : goal.ends-preserved
ends-preserved c =
    let a = c.args.self.now in
    let w = c.loop-j in
    let h : a.count ≤ length a.nodes = omega (arith, a.few, a.long) in
    (w.invariant.0, any_next _ c.ends.e c.ends.invariant.1 (w.invariant.1 ∙ memb_end a.nodes a.count h _ w.j c.loop-j-test.false))

pub returns-after-ends : goal.returns-after-ends
returns-after-ends c =
    let e : c.ends.e ≡ 2 = omega arith in
    c.ends.invariant.0 ∙ sym (rw e at c.ends.invariant.1)

pub returns-then-node-self : goal.returns-then-node-self
returns-then-node-self c =
    let a = c.args.self.now in
    let w = c.loop-j in
    let h : a.count ≤ length a.nodes = omega (arith, a.few, a.long) in
    sym (any_in _ 2 c.ends.e c.ends-test.true (w.invariant.1 ∙ memb_here a.nodes a.count h _ w.j c.loop-j-test.true c.if-node-self.true))
