-- `bounds`: the answer for all flows gives it, and what the rounds reach is the greatest list. Assumes nothing.
use Rattle.model.specs.Sets.{used}
use Rattle.delay.specs.GreatestAnswers.{bounds_greatest}
use Rattle.delay.proofs.bounds.Goals as goal

pub returns : goal.returns
returns c =
    let e = c.bounds_of.ensures in record { answer = e; greatest = λ h. bounds_greatest (used c.args.s) c.args.k _ e h }
