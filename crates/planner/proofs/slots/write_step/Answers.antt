-- `write_step` leaves what its three ways out say: a refusal of the step, no room, or both buffers written. Assumes nothing.
use mathlib.Core.Path.{ap, ap₂, ◌∙◌}
use Prim.Native.Nat.{◌≤◌}
use native.Mathlib.Omega.{arith}
use lib.ListN.{length}
use Rattle.std.proofs.Common.{Ok}
use Rattle.std.proofs.lemmas.Result.{err_from_is_err_and}
use Rattle.text.specs.Lengths.{put_start}
use Rattle.planner.specs.AfterStep.{left_refused, left_no_room, left_written}
use Rattle.laws.specs.Judged.{checked_ok, checked_err}
use Rattle.planner.specs.StepWritten.{step_lines, written}
use Rattle.planner.proofs.slots.write_step.Goals as goal

pub returns-in_err-check : goal.returns-in_err-check
returns-in_err-check c =
    let a = c.args in
    let g = checked_err a.stepped.fault c.check.ensures c.in_err-check.was in
    let p = err_from_is_err_and c.from_residual.result c.from_residual.ensures.1 in
    let w = left_refused a.stepped a.state.now a.lines.now _ g.0 g.1 in
    rw (p.1, p.2) (record { value = w.0; state_after_is = w.1.0; lines_after = rw (← w.1.1) })

pub returns-then-lines-n : goal.returns-then-lines-n
returns-then-lines-n c =
    let a = c.args in
    let g = checked_ok a.stepped.fault c.check.ensures c.in_ok-check.was in
    let w = left_no_room a.stepped a.state.now a.lines.now g (omega (arith, c.lines_length-n.ensures)) in
    rw c.of.ensures (record { value = w.0; state_after_is = w.1.0; lines_after = rw (← w.1.1) })

pub returns : goal.returns
returns c =
    let a = c.args in
    let g = checked_ok a.stepped.fault c.check.ensures c.in_ok-check.was in
    let n = c.lines_length-n.ensures in
    let h : length (step_lines a.stepped) ≤ length a.lines.now = omega (arith, n) in
    let w = left_written a.stepped a.state.now a.lines.now g h in
    let e = put_start c.put_lines.ensures h ∙ w.1.1 in
    record { value = ap Ok (ap₂ written c.none.ensures n) ∙ w.0; state_after_is = c.put_state.ensures ∙ w.1.0; lines_after = rw (← e) }
