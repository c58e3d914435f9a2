-- `rembasuk_bounds` numbers the bounds of what was read. Assumes nothing.
use mathlib.Core.Path.{ap, ◌∙◌}
use Rattle.model.specs.declared.answers.Reading.{Reading}
use Rattle.document.specs.ForC.{bounds_for_c, bounds_numbers, bounds_of_reading}
use Rattle.planner.proofs.rembasuk_bounds.Goals as goal

pub returns : goal.returns
unfolding bounds_for_c
returns c =
    let flow = c.args.flow in
    c.bounds_numbers.ensures
    ∙ ap bounds_numbers (c.bounds_of_reading-bounds.ensures ∙ ap (λ (r : Reading). bounds_of_reading r flow) c.read.ensures.value)
