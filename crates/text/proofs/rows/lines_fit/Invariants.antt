-- `lines_fit` measures line by line (`Measured`). Assumes nothing.
use Rattle.text.specs.WrittenRows.{Measured}
use Rattle.text.proofs.rows.lines_fit.Given as goal

abbrev pub invariant-loop-row : goal.invariant-loop-row
invariant-loop-row l = Measured l.row-items l.room l.left l.row-index
