-- `put_row` puts the four numbers of the row. Assumes nothing.
use native.Mathlib.Omega.{arith}
use mathlib.Core.Path.{◌∙◌}
use Rattle.planner.specs.TableRows.{row_put}
use Rattle.planner.proofs.tables.put_row.Goals as goal

pub returns : goal.returns
returns c = row_put c.args.table.now _ c.args.at _ _ _ _ _ (c.copy_from_slice.ensures.after ∙ c.row_of.ensures) (omega arith)
