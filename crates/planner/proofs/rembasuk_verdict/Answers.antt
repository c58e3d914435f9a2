-- `rembasuk_verdict` numbers what is answered of what was read. Assumes nothing.
use mathlib.Core.Path.{ap, ◌∙◌}
use Rattle.document.specs.ForC.{verdict_for_c, verdict_numbers, verdict_of_reading}
use Rattle.planner.proofs.rembasuk_verdict.Goals as goal

pub returns : goal.returns
unfolding verdict_for_c
returns c = c.verdict_numbers.ensures ∙ ap verdict_numbers (c.verdict_of_reading-verdict.ensures ∙ ap verdict_of_reading c.read.ensures.value)
