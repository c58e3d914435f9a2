-- A flow number that is cut to the count has the same answer. Assumes nothing.
use mathlib.Core.Path.{ap, ◌∙◌}
use Rattle.model.specs.Sets.{used}
use Rattle.document.specs.Delay.{bounds_of}
use Rattle.planner.specs.FlowBeyondLast.{bounds_cut}
use Rattle.planner.proofs.answers.fn.bounds_of_reading.of_flow.Goals as goal

pub returns : goal.returns
returns c =
    let s = c.args.set in c.bounds.ensures.answer ∙ ap (bounds_of (used s)) c.flow_number.ensures ∙ bounds_cut s c.captures.flow
