use mathlib.Core.Path.{refl}
use native.Mathlib.Omega.{arith}
use lib.ListN.{length-set}
use Rattle.document.specs.Superframe.{flat}
use Rattle.machine.specs.RowsPut.{row_put, rows_by}
use Rattle.machine.proofs.rows.put_rows.Goals as goal

pub loop-i-init : goal.loop-i-init
unfolding rows_by flat
loop-i-init c = (refl, omega arith, refl)

pub loop-i-preserved : goal.loop-i-preserved
loop-i-preserved c =
    let v = c.loop-i in
    let a = c.args in
    let h = v.invariant in (
      rw (length-set, length-set, length-set, length-set) h.0,
      omega (arith, h.1),
      row_put a.t a.sent.now a.chosen.now a.table.now v.table a.from v.at v.i _ (omega arith) c.number_of-number.ensures h.1 h.2,
    )
