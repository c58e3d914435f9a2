-- `put_row` puts the four numbers, each but the first after a tab, and the LF. Assumes nothing.
use Rattle.std.proofs.Common.{arith}
use Rattle.text.specs.Put.{put_put}
use Rattle.document.specs.Text.{decimals, tabbed, line_of}
use Rattle.text.proofs.rows.put_row.Goals as goal

pub returns : goal.returns
unfolding line_of tabbed decimals
returns c =
    put_put _ _ _ _ _ _ _ _ (omega arith) c.put_number-first.ensures
    (put_put _ _ _ _ _ _ _ _ (omega arith) c.put_field-second.ensures
    (put_put _ _ _ _ _ _ _ _ (omega arith) c.put_field-third.ensures
    (put_put _ _ _ _ _ _ _ _ (omega arith) c.put_field-last.ensures c.put_byte.ensures)))
