-- `digits_to` goes over the digits and carries their value; what is left of them says the rest (`DigitsToEnd`).
-- The measure is what is left of the text. Assumes nothing beyond its `requires`.
use Rattle.std.proofs.Common.{◌-◌, length}
use Rattle.text.specs.EndedNumbers.{DigitsToEnd}
use Rattle.text.proofs.table.digits_to.Given as goal

abbrev pub invariant-loop-d : goal.invariant-loop-d
invariant-loop-d l = DigitsToEnd l.s l.from l.value l.stop l.i l.v l.d

abbrev pub decreases-loop-d : goal.decreases-loop-d
decreases-loop-d l = length l.s - l.i
