-- `flow_rows`: the product is at most the hyper-period, since C is at most T. Assumes nothing beyond its `requires`.
use mathlib.Core.Path.{◌≡◌, ap₂}
use Prim.{tt}
use Prim.Native.Nat.{ℕ, ◌*◌, ◌/◌, ◌≤◌}
use native.Mathlib.Nat.{le_trans, le_of_eq, lt_of_le_of_lt}
use lib.Dec.{lit<}
use Rattle.model.specs.{declared.kinds.Flow.{Flow}, Sets.{exact, work}}
use Rattle.document.specs.Superframe.{most_hyper}
use Rattle.laws.specs.Accepted.{GoodFlow}
use Rattle.superframe_table.specs.TableFlows.{rows_le}
use Rattle.superframe_table.proofs.flows.flow_rows.Goals as goal

-- the product is the flow's rows
product : (h t c : ℕ) (f : Flow) → GoodFlow (exact f) → h ≤ most_hyper → t ≡ f.period.0 → c ≡ work f
    → (h / t * c ≡ h / f.period.0 * work f) × (h / t * c ≤ most_hyper)
product h t c f g l d e =
    let q = ap₂ (λ (x y : ℕ). h / x * y) d e in
    (q, le_trans (le_of_eq q) (le_trans (rows_le (exact f) h g) l))

pub overflow_mul-result : goal.overflow_mul-result
overflow_mul-result c =
    record { fits = lt_of_le_of_lt (product _ _ _ c.args.f c.requires.0 c.requires.1 c.from.ensures c.work.ensures).1 (lit< tt) }

pub returns : goal.returns
returns c =
    product _ _ _ c.args.f c.requires.0 c.requires.1 c.from.ensures c.work.ensures
