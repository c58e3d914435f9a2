use Rattle.std.proofs.Common.{arith}
use Rattle.text.specs.DigitsPut.{take_next}
use Rattle.text.specs.Put.{putting_more}
use Rattle.text.proofs.put.put_word.Goals as goal

pub loop-b-preserved : goal.loop-b-preserved
loop-b-preserved c =
    putting_more _ _ _ _ _ _ _ c.loop-b.invariant _ _ _ c.loop-b-test.true (omega arith) (take_next _ _ c.loop-b-test.true)
    c.put_byte-place.ensures
