-- `read_table` stores the numbers only where neither the lines nor the room refuse the table. Assumes nothing.
use Rattle.std.proofs.Common.{sym, ◌∙◌, arith}
use Rattle.text.specs.TableRead.{reads_good, answer_refused, answer_good, into_refused, into_good}
use Rattle.text.proofs.table.read_table.Goals as goal

pub store_numbers-requires : goal.store_numbers-requires
store_numbers-requires c = let r = reads_good _ _ _ (sym c.in-Ok.is ∙ c.rows_read.ensures) in (r.accepted, r.fits)

pub overflow_mul-result : goal.overflow_mul-result
overflow_mul-result c = let r = reads_good _ _ _ (sym c.in-Ok.is ∙ c.rows_read.ensures) in omega (arith, r.numbers, r.fits)

pub returns-in-Ok-clause-value : goal.returns-in-Ok-clause-value
returns-in-Ok-clause-value c = answer_good _ _ _ c.none.ensures _ (sym c.in-Ok.is ∙ c.rows_read.ensures)

pub returns-in-Ok-clause-table_after_is : goal.returns-in-Ok-clause-table_after_is
returns-in-Ok-clause-table_after_is c = c.store_numbers.ensures ∙ into_good _ _ _ (sym c.in-Ok.is ∙ c.rows_read.ensures)

pub returns-in-Err-clause-value : goal.returns-in-Err-clause-value
returns-in-Err-clause-value c = c.refused.ensures ∙ answer_refused _ _ _ (sym c.in-Err.is ∙ c.rows_read.ensures)

pub returns-in-Err-clause-table_after_is : goal.returns-in-Err-clause-table_after_is
returns-in-Err-clause-table_after_is c = into_refused _ _ _ (sym c.in-Err.is ∙ c.rows_read.ensures)
