-- `begins` looks at the byte that `drop` leaves in front, and `drop` leaves none beyond the end. Assumes nothing.
use Rattle.std.proofs.Common.{sym, ◌∙◌, le-ltb}
use Rattle.text.specs.Rows.{begins_here, begins_beyond}
use Rattle.text.proofs.line.begins.Goals as goal

pub returns-then-at-s : goal.returns-then-at-s
returns-then-at-s c = c.is_byte.ensures ∙ sym (begins_here _ _ _ c.if-at-s.true)

pub returns-else-at-s : goal.returns-else-at-s
returns-else-at-s c = le-ltb _ _ c.if-at-s.false ∙ sym (begins_beyond _ _ _ c.if-at-s.false)
