-- `value`: what no round changes is looked up, and the two sums are added to it. Assumes nothing beyond its `requires`.
use mathlib.Core.Path.{ap₂, ◌∙◌}
use Prim.Native.Nat.{ℕ, ◌+◌}
use lib.ListN.{get_or}
use Rattle.document.specs.Delay.{joined}
use Rattle.delay.specs.EquationValues.{table_value}
use Rattle.delay.specs.ShareRows.{no_sums}
use Rattle.delay.proofs.tables.Tables.value.Goals as goal

pub returns : goal.returns
unfolding table_value
returns c =
    let a = c.args in
    let whole = get_or a.self.now.whole a.k no_sums in
    let more = c.remainder_sums-more.ensures in (
      c.joined_bound.ensures.0
          ∙ ap₂ (λ (x w : ℕ). joined (get_or a.self.now.numbers.work a.k 0) (whole.conflict + x) (whole.work + w) a.m)
          more.conflict_value.0 more.work_value.0,
      c.joined_bound.ensures.1,
    )
