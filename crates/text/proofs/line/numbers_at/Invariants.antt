-- `numbers_at` goes over the numbers of the rest of the line; what is left of it says the rest (`Numbers`).
-- The measure is what is left of the text. Assumes nothing.
use Rattle.std.proofs.Common.{◌-◌, length}
use Rattle.text.specs.Rows.{NumbersSoFar}
use Rattle.text.proofs.line.numbers_at.Given as goal

abbrev pub invariant-loop-i : goal.invariant-loop-i
invariant-loop-i l = NumbersSoFar l.s l.from l.i l.count l.numbers

abbrev pub decreases-loop-i : goal.decreases-loop-i
decreases-loop-i l = length l.s - l.i
