use mathlib.Core.Path.{sym, ap, ◌∙◌}
use native.Mathlib.Nat.{lt_of_le_of_lt, le_trans, le_of_eq}
use native.Mathlib.Omega.{arith}
use lib.Dec.{lit<}
use Rattle.model.specs.declared.kinds.Flow.{Flow}
use Rattle.model.specs.Sets.{work}
use Rattle.laws.specs.Used.{used_flow}
use Rattle.laws.specs.Accepted.{work_small}
use Rattle.delay.specs.AcceptedFlows.{good_at, count_at_law}
use Rattle.delay.specs.ShareRows.{flow_numbers_start, flow_numbers_next}
use Rattle.delay.proofs.shares.FlowNumbers.of.Goals as goal

pub loop-k-init : goal.loop-k-init
loop-k-init c = (count_at_law c.args.s.now c.requires, rw c.blank-numbers.ensures (flow_numbers_start _))

pub overflow_cast-numbers : goal.overflow_cast-numbers
overflow_cast-numbers c =
    let g = work_small _ (good_at c.args.s.now c.requires c.loop-k.k c.loop-k-test.true) in
    record { fits = lt_of_le_of_lt (le_trans (le_of_eq c.work.ensures) g) (lit< tt) }

pub loop-k-preserved : goal.loop-k-preserved
loop-k-preserved c =
    let w = c.loop-k in
    let e = sym (used_flow c.args.s.now w.k c.loop-k-test.true) in (
      w.invariant.0,
      flow_numbers_next _ _ w.numbers _ _ _ (omega arith) w.invariant.1 (ap (λ (f : Flow). f.period.0) e)
          (c.slots.ensures.0 ∙ ap (λ (f : Flow). f.deadline.0) e) c.slots.ensures.1 (c.work.ensures ∙ ap work e),
    )
