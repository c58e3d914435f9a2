-- A flow number that is cut to the count has the same answer. Assumes nothing.
use mathlib.Core.Path.{ap, ◌∙◌}
use Rattle.model.specs.Sets.{used}
use Rattle.document.specs.Fixed.{fixed_bounds_of}
use Rattle.planner.specs.FlowBeyondLast.{fixed_cut}
use Rattle.planner.proofs.fixed.fn.bounds_of_reading.of_flow.Goals as goal

pub returns : goal.returns
returns c =
    let s = c.args.set in c.fixed_bounds.ensures ∙ ap (fixed_bounds_of (used s)) c.flow_number.ensures ∙ fixed_cut s c.captures.flow
