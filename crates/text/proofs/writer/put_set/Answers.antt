-- `put_set` puts the set's line and then the flows' lines. Assumes nothing.
use Rattle.std.proofs.Common.{arith}
use Rattle.text.specs.Put.{put_put, put_same}
use Rattle.text.specs.SetLines.{text_parts}
use Rattle.text.proofs.writer.put_set.Goals as goal

pub returns : goal.returns
returns c =
    put_same _ _ _ _ _ _ (text_parts c.args.s.now _ c.first_flows.ensures)
    (put_put _ _ _ _ _ _ _ _ (omega arith) c.put_line-place.ensures c.put_flows.ensures)
