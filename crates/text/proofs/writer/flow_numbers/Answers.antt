use Rattle.std.proofs.Common.{refl}
use Rattle.text.specs.FlowNumbers.{copied_more}
use Rattle.text.proofs.writer.flow_numbers.Goals as goal

pub loop-i-preserved : goal.loop-i-preserved
loop-i-preserved c = copied_more _ _ _ _ _ c.loop-i.invariant c.loop-i-test.true refl
