-- `rembasuk_table_write` numbers what `write_table` ensures, and hands its buffer on. Assumes nothing.
use mathlib.Core.Path.{ap, ◌∙◌}
use Rattle.document.specs.ForC.{lines_numbers, write_table_for_c}
use Rattle.planner.proofs.rembasuk_table_write.Goals as goal

pub returns : goal.returns
unfolding write_table_for_c
returns c =
    let w = c.write_table-written.ensures in record { value = c.lines_numbers.ensures ∙ ap lines_numbers w.value; lines_after = w.out_after }
