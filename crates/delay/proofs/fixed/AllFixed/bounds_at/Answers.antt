-- `bounds_at`: each part is the definition's; the judged flows are the first ones. Assumes nothing beyond its `requires`.
use mathlib.Core.Path.{refl, sym, ap, ◌∙◌}
use native.Mathlib.Omega.{arith}
use Rattle.model.specs.declared.kinds.Flow.{Flow}
use Rattle.model.specs.Sets.{used, work}
use Rattle.laws.specs.Accepted.{accepted}
use Rattle.laws.specs.Used.{used_flow}
use Rattle.delay.specs.AcceptedFlows.{count_at_law}
use Rattle.delay.specs.FixedAnswers.{fixed_bounds_made}
use Rattle.delay.proofs.fixed.AllFixed.bounds_at.Goals as goal

pub offset_bounds-s-k : goal.offset_bounds-s-k
offset_bounds-s-k c = omega (arith, count_at_law c.args.s.now (accepted _ c.requires.1.passed))

pub bounds-s-k : goal.bounds-s-k
bounds-s-k c = omega (arith, count_at_law c.args.s.now (accepted _ c.requires.1.passed))

pub bounds-self-k : goal.bounds-self-k
bounds-self-k c = omega (arith, count_at_law c.args.s.now (accepted _ c.requires.1.passed))

pub returns : goal.returns
unfolding used
returns c =
    let o = c.requires in
    let u = used_flow c.args.s.now c.args.k o.0 in
    fixed_bounds_made (used c.args.s.now) c.args.self.now o.1 _ c.none.ensures c.args.k o.0 _ _ _
    (c.work.ensures ∙ sym (ap work u)) (sym (ap (λ (f : Flow). f.deadline) u)) refl
