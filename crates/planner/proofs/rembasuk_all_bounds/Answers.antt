-- `rembasuk_all_bounds` numbers the table of what was read, and hands the table on. Assumes nothing.
use mathlib.Core.Path.{ap, ◌∙◌}
use lib.ListN.{length}
use Rattle.model.specs.declared.answers.Reading.{Reading}
use Rattle.document.specs.ForC.{all_bounds_for_c, table_after, table_answer, table_numbers}
use Rattle.promise.specs.TextHeld.{text_passes}
use Rattle.planner.specs.TableRows.{table_told}
use Rattle.planner.proofs.rembasuk_all_bounds.Goals as goal

pub table_of_reading-written-requires : goal.table_of_reading-written-requires
table_of_reading-written-requires c = rw c.read.ensures.value (text_passes c.args.text.now)

pub returns : goal.returns
unfolding all_bounds_for_c
returns c =
    let table = c.args.table.now in
    let w = c.table_of_reading-written.ensures in
    let r = c.read.ensures.value in
    let told = table_told c.read.result (length table) c.unwrap_or_else.result w.value c.unwrap_or_else.ensures in
    record {
      value = c.table_numbers.ensures ∙ ap table_numbers (told ∙ ap (λ (x : Reading). table_answer x (length table)) r);
      table_after_is = w.table_after_is ∙ ap (λ (x : Reading). table_after x table) r;
    }
