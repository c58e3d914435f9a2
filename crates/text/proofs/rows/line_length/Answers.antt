-- `line_length` adds up the digits of the four numbers, and a tab or the LF after each. Assumes nothing.
use Rattle.std.proofs.Common.{arith}
use Rattle.text.specs.WrittenRows.{row_size}
use Rattle.text.proofs.rows.line_length.Goals as goal

pub returns : goal.returns
returns c = (
  row_size _ c.told-row c.width_to_five.ensures.0 c.width_to_five-2.ensures.0 c.width_to_five-3.ensures.0 c.width_to_five-4.ensures.0,
  omega arith,
)
