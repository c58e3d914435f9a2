-- No text is longer than the buffer, so the answer is its length and the buffer begins with it.
use Rattle.std.proofs.Common.{ap, ◌∙◌, length, take}
use Rattle.model.specs.declared.kinds.Order.TheVariants.{Number}
use Rattle.model.specs.declared.answers.Written.{Written}
use Rattle.document.specs.Fixed.{fixed_text}
use Rattle.plan_text.specs.PlanInBuffer.{begins, plan_fits}
use Rattle.fixed.proofs.whole_text.Goals as goal

pub returns-clause-value : goal.returns-clause-value
returns-clause-value c = c.fixed.ensures.value ∙ plan_fits Number c.args.input.now (length c.args.out.now) c.requires

pub returns-clause-out_after : goal.returns-clause-out_after
returns-clause-out_after c =
    let input = c.args.input.now in
    let e = c.fixed.ensures.value ∙ plan_fits Number input (length c.args.out.now) c.requires in
    let n = ap (λ (w : Written). take w.length c.fixed.new.out) e in
    n ∙ ap (take (length (fixed_text input))) c.fixed.ensures.out_after ∙ begins Number input c.args.out.now c.requires
