-- `slot_of_reading` is refused before the step, or writes the step; both are what the definition says. Assumes nothing.
use mathlib.Core.Path.{ap, ◌∙◌}
use Prim.Native.Nat.{◌<◌}
use lib.ListN.{length}
use Rattle.std.proofs.lemmas.Result.{err_from_is_err_and}
use Rattle.model.specs.declared.kinds.State.{State}
use Rattle.model.specs.Sets.{used}
use Rattle.document.specs.Machine.{order_of, step_with}
use Rattle.laws.specs.Judged.{checked_ok, checked_err}
use Rattle.planner.specs.BeforeStep.{fault_before_step}
use Rattle.planner.specs.SlotIsStep.{answered_before, set_passes, state_whole, step_answered}
use Rattle.planner.specs.StateBytes.{state_in_law}
use borrow.Author.Rules.{rules}
use Rattle.planner.proofs.slots.slot_of_reading.Goals as goal

pub returns-in_err-fault_before_step : goal.returns-in_err-fault_before_step
returns-in_err-fault_before_step c =
    let a = c.args in
    let g = checked_err (fault_before_step a.reading.fault (length a.state.now)) c.fault_before_step.ensures c.in_err-fault_before_step.was in
    let p = err_from_is_err_and c.from_residual.result c.from_residual.ensures.1 in
    let w = answered_before (order_of a.by) a.reading a.state.now a.lines.now _ g.0 g.1 in
    rw (p.1, p.2) (record { value = w.0; state_after_is = w.1.0; lines_after = w.1.1 })

pub step_accepted-stepped-requires : goal.step_accepted-stepped-requires
step_accepted-stepped-requires c =
    let a = c.args in
    let g = checked_ok (fault_before_step a.reading.fault (length a.state.now)) c.fault_before_step.ensures c.in_ok-fault_before_step.was in
    set_passes a.reading a.state.now g c.requires

pub returns : goal.returns
returns c =
    let a = c.args in
    let g = checked_ok (fault_before_step a.reading.fault (length a.state.now)) c.fault_before_step.ensures c.in_ok-fault_before_step.was in
    let m : a.reading.set.map.0 < 65536 = search rules in
    let e = state_whole a.reading a.state.now g in
    let first = order_of a.by in
    let step_is = c.step_accepted-stepped.ensures ∙ ap (λ (st : State). step_with first (used a.reading.set) st) (c.state_of.ensures ∙ state_in_law a.state.now e) in
    let w = c.write_step.ensures in
    let z = step_answered a.reading a.state.now g first c.step_accepted-stepped.result a.lines.now m step_is in
    record { value = w.value ∙ z.0; state_after_is = w.state_after_is ∙ z.1.0; lines_after = w.lines_after ∙ z.1.1 }
