-- `rembasuk_fixed_bounds` numbers the bounds of what was read. Assumes nothing.
use mathlib.Core.Path.{ap, ◌∙◌}
use Rattle.model.specs.declared.answers.Reading.{Reading}
use Rattle.document.specs.ForC.{fixed_bounds_for_c, fixed_bounds_numbers, fixed_bounds_of_reading}
use Rattle.planner.proofs.rembasuk_fixed_bounds.Goals as goal

pub returns : goal.returns
unfolding fixed_bounds_for_c
returns c =
    let flow = c.args.flow in
    c.fixed_bounds_numbers.ensures
    ∙ ap fixed_bounds_numbers (c.bounds_of_reading-answer.ensures ∙ ap (λ (r : Reading). fixed_bounds_of_reading r flow) c.read.ensures.value)
