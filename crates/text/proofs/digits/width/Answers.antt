-- `width`: a number of more than five digits has five more than what is left without its last five. Assumes nothing.
use Rattle.std.proofs.Common.{arith}
use Rattle.text.specs.Decimals.{size_five}
use Rattle.text.proofs.digits.width.Goals as goal

pub returns : goal.returns
returns c =
    let w = c.width_to_five-2.ensures in
    (omega (arith, w.0, size_five c.args.v c.if-v-lt100000.false (omega arith)), omega (arith, w.1))
