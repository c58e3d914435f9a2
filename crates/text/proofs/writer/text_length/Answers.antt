-- `text_length` stores nothing, since the buffer ends where it puts. Assumes nothing.
use Rattle.std.proofs.Common.{arith}
use Rattle.text.specs.WriteRoom.{length_found}
use Rattle.text.proofs.writer.text_length.Goals as goal

pub returns : goal.returns
returns c = let w = length_found _ _ _ _ c.put_set.ensures (omega arith) in (w.0, w.1)
