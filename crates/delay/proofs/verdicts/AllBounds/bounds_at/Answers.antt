-- `bounds_at`: each part is the definition's, and the margin is made of two of them. Assumes nothing beyond its `requires`.
use mathlib.Core.Path.{◌≡◌, sym, ap, ◌∙◌}
use Prim.Native.Nat.{ℕ, min}
use lib.IntN.{pos, ◌-ℤ◌}
use lib.ListN.{get_or}
use native.Mathlib.Nat.{le_trans, le_of_eq}
use native.Mathlib.Omega.{arith}
use mir.Syntax.{w32}
use mir.ValLaws.{to_z-of_z}
use Rattle.model.specs.declared.kinds.Flow.{Flow}
use Rattle.model.specs.Sets.{flow_at, used, work}
use Rattle.laws.specs.Accepted.{accepted}
use Rattle.laws.specs.Used.{used_flow}
use Rattle.delay.specs.AcceptedFlows.{count_at_law}
use Rattle.delay.specs.VerdictAnswers.{basic_entry, tight_entry, bounds_made}
use Rattle.delay.proofs.verdicts.AllBounds.bounds_at.Goals as goal

pub offset_bounds-s-k : goal.offset_bounds-s-k
offset_bounds-s-k c = omega (arith, count_at_law c.args.s.now (accepted _ c.requires.1.passed))

pub bounds-s-k : goal.bounds-s-k
bounds-s-k c = omega (arith, count_at_law c.args.s.now (accepted _ c.requires.1.passed))

pub bounds-self-k : goal.bounds-self-k
bounds-self-k c = omega (arith, count_at_law c.args.s.now (accepted _ c.requires.1.passed))

pub bounds-self-k-2 : goal.bounds-self-k-2
bounds-self-k-2 c = omega (arith, count_at_law c.args.s.now (accepted _ c.requires.1.passed))

pub returns : goal.returns
unfolding used
returns c =
    let k = c.args.k in
    let h = c.requires.0 in
    let u = used_flow c.args.s.now k h in
    let s = used c.args.s.now in
    let j = c.requires.1 in
    let t = get_or c.args.self.now.tightened k 0 in
    let small = le_trans (le_of_eq (j.tights k)) (j.small k) in
    let e : min t 2147483647 ≡ t = omega arith in
    bounds_made s k _ _ _ _ _ _
    c.none.ensures
    (c.work.ensures ∙ sym (ap work u))
    (basic_entry s c.args.self.now j k h)
    (tight_entry s c.args.self.now j k h)
    (sym (ap (λ (f : Flow). f.deadline) u))
    (to_z-of_z w32 c.margin.result record { sfits = c.margin.type_inv } ∙ c.margin.ensures
    ∙ ap (λ (x : ℕ). pos (flow_at c.args.s.now k).deadline.0 -ℤ pos x) e)
