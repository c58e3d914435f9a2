-- `store_numbers` goes over the bytes; what is left of them, stored after what is stored, gives the whole table (`Storing`).
-- Assumes nothing beyond its `requires`.
use Rattle.std.proofs.Common.{◌≡◌, length}
use Rattle.document.specs.Superframe.{at_start, flat, rows_of_text}
use Rattle.text.specs.TableStored.{Storing}
use Rattle.text.proofs.table.store_numbers.Given as goal

abbrev pub invariant-loop-b : goal.invariant-loop-b
invariant-loop-b l = (length l.table ≡ length l.initial.table) × Storing l.text (at_start (flat (rows_of_text l.text)) l.initial.table) l.table l.b-index l.i l.v
