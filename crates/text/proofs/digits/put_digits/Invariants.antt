-- `put_digits` stores the last digit of what is left, each time one place before: what is left, stored from `at` on, gives the whole.
-- Beyond the end nothing is stored. The measure is what is left of the number. Assumes nothing.
use Rattle.std.proofs.Common.{◌≡◌, ◌≤◌, length}
use Rattle.document.specs.Text.{decimal}
use Rattle.text.specs.DigitsPut.{DigitsLeft}
use Rattle.text.proofs.digits.put_digits.Given as goal

abbrev pub invariant-loop-n : goal.invariant-loop-n
invariant-loop-n l = (l.digits ≡ length (decimal l.v)) × (l.digits ≤ 10) × DigitsLeft l.initial.out l.at l.v l.out l.i l.n

abbrev pub decreases-loop-n : goal.decreases-loop-n
decreases-loop-n l = l.n
