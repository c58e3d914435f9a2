-- No plan is longer than the buffer, so the answer is its length and the buffer begins with it.
use Rattle.std.proofs.Common.{ap, ◌∙◌, length, take}
use Rattle.model.specs.declared.kinds.Order.TheVariants.{Deadline}
use Rattle.model.specs.declared.answers.Written.{Written}
use Rattle.document.specs.Program.{text_of_plan}
use Rattle.plan_text.specs.PlanInBuffer.{begins, plan_fits}
use Rattle.plan.proofs.whole_plan.Goals as goal

pub returns-clause-value : goal.returns-clause-value
returns-clause-value c = c.plan.ensures.value ∙ plan_fits Deadline c.args.input.now (length c.args.out.now) c.requires

pub returns-clause-out_after : goal.returns-clause-out_after
returns-clause-out_after c =
    let input = c.args.input.now in
    let e = c.plan.ensures.value ∙ plan_fits Deadline input (length c.args.out.now) c.requires in
    let n = ap (λ (w : Written). take w.length c.plan.new.out) e in
    n ∙ ap (take (length (text_of_plan input))) c.plan.ensures.out_after ∙ begins Deadline input c.args.out.now c.requires
