-- `write_text` asks for the room, and writes only where there is enough. Assumes nothing beyond its `requires`.
use Rattle.std.proofs.Common.{◌∙◌, arith}
use Rattle.text.specs.WriteRoom.{room_short, room_enough}
use Rattle.text.proofs.writer.write_text.Goals as goal

pub returns-then-has_room : goal.returns-then-has_room
returns-then-has_room c =
    let r = c.has_room.ensures in
    let a = room_enough _ _ _ r.0 _ r.1 c.if-has_room.true (omega arith) _ _ c.put_set.ensures _ c.none.ensures in
    (a.answer, a.bytes)

pub returns : goal.returns
returns c =
    let r = c.has_room.ensures in
    let a = room_short _ _ _ r.0 _ r.1 c.if-has_room.false _ c.of.ensures in
    (c.refused.ensures ∙ a.answer, a.bytes)
