use Rattle.std.proofs.Common.{refl, arith}
use Rattle.document.specs.Reader.{flow_lines}
use Rattle.text.specs.Put.{putting_start, putting_more}
use Rattle.text.specs.SetLines.{flows_next}
use Rattle.text.proofs.writer.put_flows.Goals as goal

pub loop-f-init : goal.loop-f-init
unfolding flow_lines
loop-f-init c = putting_start _ _ _ _ refl (omega arith)

pub loop-f-preserved : goal.loop-f-preserved
loop-f-preserved c =
    putting_more _ _ _ _ _ _ _ c.loop-f.invariant _ _ _ c.loop-f-test.true (omega arith) (flows_next _ c.loop-f.f-index _ c.loop-f-test.true)
    c.put_flow-place.ensures
