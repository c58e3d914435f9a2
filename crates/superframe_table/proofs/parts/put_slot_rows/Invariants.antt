-- `put_slot_rows` puts the lines of the sends in turn (`Putting`). Assumes nothing.
use lib.ListN.{length, take}
use Rattle.document.specs.Superframe.{row_lines}
use Rattle.text.specs.Put.{Putting}
use Rattle.superframe_table.specs.Parts.{send_rows}
use Rattle.superframe_table.proofs.parts.put_slot_rows.Given as goal

abbrev pub invariant-loop-x : goal.invariant-loop-x
invariant-loop-x l = Putting l.initial.out l.at (λ k. row_lines (send_rows l.next (take k l.sent))) (length l.sent) l.out l.place l.x-index
