-- `rembasuk_table_read` numbers what `read_table` ensures, and hands its table on. Assumes nothing.
use mathlib.Core.Path.{ap, ◌∙◌}
use Rattle.document.specs.ForC.{read_numbers, read_table_for_c}
use Rattle.planner.proofs.rembasuk_table_read.Goals as goal

pub returns : goal.returns
unfolding read_table_for_c
returns c =
    let w = c.read_table-tabled.ensures in record { value = c.read_numbers.ensures ∙ ap read_numbers w.value; table_after_is = w.table_after_is }
