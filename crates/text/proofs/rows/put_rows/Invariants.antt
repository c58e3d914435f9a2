-- `put_rows` puts the lines of the rows in turn (`Putting`). Assumes nothing.
use Rattle.std.proofs.Common.{length, take}
use Rattle.document.specs.Superframe.{row_lines}
use Rattle.text.specs.Put.{Putting}
use Rattle.text.proofs.rows.put_rows.Given as goal

abbrev pub invariant-loop-row : goal.invariant-loop-row
invariant-loop-row l = Putting l.initial.out 0 (λ i. row_lines (take i l.row-items)) (length l.row-items) l.out l.place l.row-index
