use mathlib.Core.Path.{refl, ap, ◌∙◌}
use Prim.Native.Nat.{ℕ, ◌*◌, ◌/◌}
use native.Mathlib.Omega.{arith}
use Rattle.model.specs.{Sums.{sum_to}, Sets.{flow_at, used, work}}
use Rattle.laws.specs.{Accepted.{accepted}}
use Rattle.delay.specs.AcceptedFlows.{good_at, count_at_law}
use Rattle.superframe_table.specs.TableFlows.{rows_next, rows_all}
use Rattle.superframe_table.proofs.flows.row_count.Goals as goal

pub loop-k-init : goal.loop-k-init
unfolding sum_to
loop-k-init c = (count_at_law c.args.s (accepted (used c.args.s) c.requires.s_value), omega arith, refl)

pub flow_rows-rows-requires : goal.flow_rows-rows-requires
flow_rows-rows-requires c =
    (good_at c.args.s (accepted (used c.args.s) c.requires.s_value) _ c.loop-k-test.true, c.requires.slots_value.1)

pub loop-k-preserved : goal.loop-k-preserved
loop-k-preserved c =
    let v = c.loop-k in
    let e = c.flow_rows-rows.ensures in
    let d = e.0 ∙ ap (λ (h : ℕ). h / (flow_at c.args.s v.k).period.0 * work (flow_at c.args.s v.k)) c.requires.slots_value.0 in
    (v.invariant.0, omega arith, rows_next c.args.s v.k _ _ c.loop-k-test.true v.invariant.2 d)

pub returns : goal.returns
returns c =
    let w = c.loop-k.invariant in
    (rows_all c.args.s c.loop-k.k _ (omega arith) w.2, omega arith)
