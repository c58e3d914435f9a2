use mathlib.Core.Path.{refl}
use native.Mathlib.Omega.{arith}
use Rattle.document.specs.Superframe.{row_lines}
use Rattle.text.specs.Put.{putting_start, putting_more, putting_done}
use Rattle.superframe_table.specs.SendRows.{sends_next, sends_all}
use Rattle.superframe_table.proofs.parts.put_slot_rows.Goals as goal

pub loop-x-init : goal.loop-x-init
unfolding row_lines
loop-x-init c = putting_start _ _ _ _ refl (omega arith)

pub loop-x-preserved : goal.loop-x-preserved
loop-x-preserved c =
    let a = c.args in
    let v = c.loop-x.invariant in
    putting_more _ _ _ _ _ _ _ v _ _ _ (omega arith) (omega arith) (sends_next a.next a.sent.now c.loop-x.x-index _ (omega arith)) c.put_send_row-place.ensures

pub returns : goal.returns
returns c = putting_done _ _ _ _ _ _ _ c.loop-x.invariant _ (omega arith) (sends_all c.args.next c.args.sent.now)
