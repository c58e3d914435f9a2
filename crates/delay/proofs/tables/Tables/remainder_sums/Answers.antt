use mathlib.Core.Path.{◌≡◌, sym, ap, ap₂, ◌∙◌}
use Prim.Native.Nat.{ℕ, ◌+◌, min}
use native.Mathlib.Omega.{arith}
use lib.ListN.{get_or}
use Rattle.laws.specs.SumLaws.{sum_next, sum_zero}
use Rattle.delay.specs.PairGrids.{pair_at}
use Rattle.model.specs.Limits.{most_flows}
use Rattle.delay.specs.EquationValues.{conflict_remainders, work_remainders}
use Rattle.delay.proofs.tables.Tables.remainder_sums.Goals as goal

pub loop-l-init : goal.loop-l-init
loop-l-init c = (omega arith, omega arith, sym (sum_zero _ 0 (λ j h. omega arith)), sym (sum_zero _ 0 (λ j h. omega arith)))

pub loop-l-preserved : goal.loop-l-preserved
loop-l-preserved c =
    let w = c.loop-l in
    let t = c.args.self.now in
    let conflicts = c.requires.1.conflicts w.l c.loop-l-test.true in
    let works = c.requires.1.works w.l c.loop-l-test.true in
    let x = c.min-x.ensures in
    let y = c.min-w.ensures in
    let cut = c.saturating_sub-y.ensures in (
      omega arith,
      omega arith,
      ap₂ (λ (i j : ℕ). i + j) w.invariant.2 (x ∙ ap (λ (z : ℕ). min (pair_at t.conflict c.args.k w.l) z) cut) ∙ sym (sum_next _ w.l),
      ap₂ (λ (i j : ℕ). i + j) w.invariant.3 (y ∙ ap (λ (z : ℕ). min (get_or t.numbers.work w.l 0) z) cut) ∙ sym (sum_next _ w.l),
    )

pub returns : goal.returns
unfolding conflict_remainders work_remainders
returns c =
    let w = c.loop-l in
    let e : w.l ≡ most_flows = omega arith in
    record { conflict_value = (rw e at w.invariant.2, omega arith); work_value = (rw e at w.invariant.3, omega arith) }
