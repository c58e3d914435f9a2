-- Whether a count that was passed is above its C. Assumes nothing.
use Rattle.std.specs.Prelude.{◌≡◌, get_or, ltb}
use Rattle.model.specs.Sums.{any_to}
use Rattle.machine.proofs.state.any_above.Given as goal

abbrev pub invariant-loop-k : goal.invariant-loop-k
invariant-loop-k l = l.above ≡ any_to (λ j. ltb (get_or l.work j 0) (get_or l.sent j 0)) l.k
