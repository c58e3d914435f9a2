-- `put_send_row` puts the line of the send's numbers. Assumes nothing.
use mathlib.Core.Path.{refl}
use Rattle.text.specs.Put.{put_same}
use Rattle.text.specs.WrittenRows.{line_same}
use Rattle.superframe_table.proofs.parts.put_send_row.Goals as goal

pub returns : goal.returns
returns c =
    put_same _ _ _ _ _ _ (line_same refl refl c.last_number-number.ensures refl) c.put_row.ensures
