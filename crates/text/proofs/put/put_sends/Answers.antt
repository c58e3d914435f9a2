use Rattle.std.proofs.Common.{refl, arith}
use Rattle.document.specs.Program.{send_lines}
use Rattle.text.specs.SendLines.{send_more}
use Rattle.text.specs.Put.{putting_start, putting_more}
use Rattle.text.proofs.put.put_sends.Goals as goal

pub loop-x-init : goal.loop-x-init
unfolding send_lines
loop-x-init c = putting_start _ _ _ _ refl (omega arith)

pub loop-x-preserved : goal.loop-x-preserved
loop-x-preserved c =
    putting_more _ _ _ _ _ _ _ c.loop-x.invariant _ _ _ c.loop-x-test.true (omega arith) (send_more _ c.loop-x.x-index _ c.loop-x-test.true)
    c.put_send-place.ensures
