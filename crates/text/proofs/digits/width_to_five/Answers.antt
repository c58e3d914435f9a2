-- `width_to_five`: the first power of ten that is above the number says how many digits it has. Assumes nothing beyond its `requires`.
use Rattle.std.proofs.Common.{length, sym, ap, arith, lit≤}
use Rattle.text.specs.Decimals.{top, decimal_one, size_is}
use Rattle.text.proofs.digits.width_to_five.Goals as goal

pub returns-then-v-lt10 : goal.returns-then-v-lt10
returns-then-v-lt10 c = (sym (ap length (decimal_one _ c.if-v-lt10.true)), lit≤ tt)

pub returns-then-v-lt100 : goal.returns-then-v-lt100
unfolding top
returns-then-v-lt100 c = (sym (size_is 0 _ c.if-v-lt10.false c.if-v-lt100.true (omega arith)), lit≤ tt)

pub returns-then-v-lt1000 : goal.returns-then-v-lt1000
unfolding top
returns-then-v-lt1000 c = (sym (size_is 1 _ c.if-v-lt100.false c.if-v-lt1000.true (omega arith)), lit≤ tt)

pub returns-then-v-lt10000 : goal.returns-then-v-lt10000
unfolding top
returns-then-v-lt10000 c = (sym (size_is 2 _ c.if-v-lt1000.false c.if-v-lt10000.true (omega arith)), lit≤ tt)

pub returns : goal.returns
unfolding top
returns c = (sym (size_is 3 _ c.if-v-lt10000.false (omega arith) (omega arith)), lit≤ tt)
