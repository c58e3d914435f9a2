-- `look_at` looks at the byte that `drop` leaves in front, and `drop` leaves none beyond the end. Assumes nothing.
use Rattle.std.proofs.Common.{sym, ◌∙◌, lit≤}
use Rattle.text.specs.DigitsRead.{look_here, look_beyond}
use Rattle.text.proofs.line.look_at.Goals as goal

pub returns-then-at-s : goal.returns-then-at-s
returns-then-at-s c = (c.look_byte.ensures.0 ∙ sym (look_here _ _ c.if-at-s.true), c.look_byte.ensures.1)

pub returns-else-at-s : goal.returns-else-at-s
returns-else-at-s c = (sym (look_beyond _ _ c.if-at-s.false), lit≤ tt)
