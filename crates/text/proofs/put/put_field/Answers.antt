-- `put_field` puts the tab and then the number. Assumes nothing.
use Rattle.std.proofs.Common.{arith}
use Rattle.text.specs.Put.{put_put}
use Rattle.text.proofs.put.put_field.Goals as goal

pub returns : goal.returns
returns c =
    put_put _ _ _ _ _ _ _ _ (omega arith) c.put_byte-place.ensures c.put_number.ensures
