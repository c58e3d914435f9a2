-- `flow_line` names the line and the bad field of what refuses the row. Assumes nothing beyond its `requires`.
use Rattle.std.proofs.Common.{sym, ◌∙◌}
use Rattle.text.specs.FlowRows.{flow_line_bad}
use Rattle.text.proofs.reader.flow_line.Goals as goal

pub returns-in-Err : goal.returns-in-Err
returns-in-Err c = flow_line_bad _ _ _ _ _ c.line_at-row.ensures (sym c.in-Err.is ∙ c.flow_row.ensures) _ c.flow_field.ensures
