-- `rembasuk_fixed_verdict` numbers what is answered of what was read. Assumes nothing.
use mathlib.Core.Path.{ap, ◌∙◌}
use Rattle.document.specs.ForC.{fixed_verdict_for_c, fixed_verdict_numbers, fixed_verdict_of_reading}
use Rattle.planner.proofs.rembasuk_fixed_verdict.Goals as goal

pub returns : goal.returns
unfolding fixed_verdict_for_c
returns c = c.fixed_verdict_numbers.ensures ∙ ap fixed_verdict_numbers (c.verdict_of_reading-verdict.ensures ∙ ap fixed_verdict_of_reading c.read.ensures.value)
