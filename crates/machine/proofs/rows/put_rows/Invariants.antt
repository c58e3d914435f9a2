-- `put_rows` puts one flow's row more each time round. Assumes nothing.
use mathlib.Core.Path.{◌≡◌}
use Prim.Native.Nat.{◌+◌, ◌*◌}
use lib.ListN.{length, take}
use lib.Seq.{sets}
use Rattle.document.specs.Superframe.{flat}
use Rattle.machine.specs.RowsPut.{rows_by}
use Rattle.machine.proofs.rows.put_rows.Given as goal

abbrev pub invariant-loop-i : goal.invariant-loop-i
invariant-loop-i l = (length l.table ≡ length l.initial.table) × (l.at ≡ l.from + 4 * l.i) × (l.table ≡ sets l.initial.table l.from (flat (rows_by l.t l.sent 0 (take l.i l.chosen))))
