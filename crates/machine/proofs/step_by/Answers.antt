-- A step of a refused set is refused as the set is; of any other it is the accepted set's.
use Rattle.laws.specs.Judged.{checked_err}
use Rattle.machine.specs.States.{step_refused}
use Rattle.model.specs.Refusals.{good}
use Rattle.model.specs.Sets.{used}
use Rattle.model.specs.declared.answers.Fault.{Fault}
use Rattle.document.specs.Machine.{order_of, stepped}
use mathlib.Core.List.{[]}
use mathlib.Core.Path.{sym, ap, ◌∙◌}
use Rattle.machine.proofs.step_by.Goals as goal

pub returns-in-Err : goal.returns-in-Err
returns-in-Err c =
    let a = c.args in
    let e = checked_err _ c.record_fault_of.ensures c.in-Err.is in
    c.refused.ensures ∙ ap (λ (f : Fault). stepped f a.st [] [] []) e.0
    ∙ sym (step_refused (order_of a.by) (used a.s) a.st (ap (λ (f : Fault). good f.refusal) (sym e.0) ∙ e.1))
