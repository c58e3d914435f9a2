-- `number_at` goes over the digits of the field, five at most, and carries their value; what is left of the field says the rest (`DigitsSoFar`).
-- The measure is what is left of the text. Assumes nothing.
use Rattle.std.proofs.Common.{◌-◌, length}
use Rattle.text.specs.DigitsRead.{DigitsSoFar}
use Rattle.text.proofs.line.number_at.Given as goal

abbrev pub invariant-loop-d : goal.invariant-loop-d
invariant-loop-d l = DigitsSoFar l.s l.from l.i l.v l.d

abbrev pub decreases-loop-d : goal.decreases-loop-d
decreases-loop-d l = length l.s - l.i
