-- `put_line` puts the word, the numbers and the LF, one after the other. Assumes nothing.
use Rattle.std.proofs.Common.{arith}
use Rattle.text.specs.Put.{put_put, put_same, line_parts}
use Rattle.text.proofs.put.put_line.Goals as goal

pub returns : goal.returns
returns c =
    put_same _ _ _ _ _ _ (line_parts _ _)
    (put_put _ _ _ _ _ _ _ _ (omega arith)
    (put_put _ _ _ _ _ _ _ _ (omega arith) c.put_word-first.ensures c.put_fields-end.ensures)
    c.put_byte.ensures)
