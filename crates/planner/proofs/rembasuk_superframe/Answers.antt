-- `rembasuk_superframe` numbers the superframe of what was read, and hands the table on. Assumes nothing.
use mathlib.Core.Path.{ap, ◌∙◌}
use lib.ListN.{length}
use Rattle.model.specs.declared.answers.Reading.{Reading}
use Rattle.document.specs.ForC.{superframe_for_c, superframe_after, superframe_of_reading, superframe_numbers}
use Rattle.planner.proofs.rembasuk_superframe.Goals as goal

pub returns : goal.returns
unfolding superframe_for_c
returns c =
    let table = c.args.table.now in
    let w = c.superframe_of_reading-tabled.ensures in
    let r = c.read.ensures.value in
    record { value = c.superframe_numbers.ensures ∙ ap superframe_numbers (w.value ∙ ap (λ (x : Reading). superframe_of_reading x (length table)) r); table_after_is = w.table_after_is ∙ ap (λ (x : Reading). superframe_after x table) r }
