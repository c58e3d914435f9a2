-- `run_by` of a refused set stays where it began; of any other it is the accepted set's. Assumes nothing.
use Rattle.laws.specs.Judged.{checked_err}
use Rattle.machine.specs.States.{run_refused, run_none}
use Rattle.model.specs.Refusals.{good}
use Rattle.model.specs.Sets.{used}
use Rattle.model.specs.declared.answers.Ran.{Ran}
use Rattle.model.specs.declared.answers.Fault.{Fault}
use Rattle.model.specs.declared.kinds.State.{State}
use Rattle.document.specs.Machine.{Priority, order_of}
use mathlib.Core.Path.{sym, ap, ap₂, ◌∙◌}
use Rattle.machine.proofs.run_by.Goals as goal

-- a run of no slots
abbrev ran-of : Fault → State → Ran
ran-of f st = record { fault = f; last = st; delivered = 0; dropped = 0 }

pub returns-in-Err : goal.returns-in-Err
returns-in-Err c =
    let a = c.args in
    let first : Priority = order_of a.by in
    let u = used a.s in
    let e = checked_err _ c.record_fault_of.ensures c.in-Err.is in
    ap₂ ran-of e.0 c.fresh.ensures ∙ sym (run_none first u) ∙ sym (run_refused first u (ap (λ (f : Fault). good f.refusal) (sym e.0) ∙ e.1) a.budget)
