use Rattle.std.proofs.Math.Numerals.{add-one}
use Rattle.std.proofs.Math.Path.{refl}
use Rattle.model.specs.Sums.{any_to}
use Rattle.machine.proofs.state.any_above.Goals as goal

pub loop-k-init : goal.loop-k-init
unfolding any_to
loop-k-init c = refl

pub loop-k-preserved : goal.loop-k-preserved
unfolding any_to
loop-k-preserved c = rw (add-one, c.loop-k.invariant)
