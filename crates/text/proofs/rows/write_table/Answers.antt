-- `write_table` asks for the room, and writes only where there is enough. Assumes nothing.
use Rattle.std.proofs.Common.{refl, ◌∙◌, arith}
use Rattle.document.specs.Superframe.{row_lines, rows_of, write_table_answer, write_table_into}
use Rattle.text.specs.WriteRoom.{room_answer, room_into, room_short, room_enough}
use Rattle.text.proofs.rows.write_table.Goals as goal

pub returns-then-lines_fit : goal.returns-then-lines_fit
unfolding write_table_answer write_table_into room_answer room_into
returns-then-lines_fit c =
    let a = room_enough _ _ _ refl _ c.lines_fit.ensures c.if-lines_fit.true (omega arith) _ _ c.put_rows-length.ensures _ c.none-fault.ensures in record { value = a.answer; out_after = a.bytes }

pub returns : goal.returns
unfolding write_table_answer write_table_into room_answer room_into
returns c =
    let o = c.args in
    let a = room_short (row_lines (rows_of o.table.now)) o.out.now _ refl _ c.lines_fit.ensures c.if-lines_fit.false _ c.of.ensures in record { value = c.refused.ensures ∙ a.answer; out_after = a.bytes }
