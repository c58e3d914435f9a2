-- `rembasuk_superframe_size` numbers what is answered of what was read. Assumes nothing.
use mathlib.Core.Path.{ap, ◌∙◌}
use Rattle.document.specs.ForC.{size_for_c, superframe_numbers, size_of_reading}
use Rattle.planner.proofs.rembasuk_superframe_size.Goals as goal

pub returns : goal.returns
unfolding size_for_c
returns c = c.superframe_numbers.ensures ∙ ap superframe_numbers (c.size_of_reading-size.ensures ∙ ap size_of_reading c.read.ensures.value)
