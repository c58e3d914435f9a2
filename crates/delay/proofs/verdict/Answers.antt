-- `verdict`: the answer for all flows gives it, and what the rounds reach is the greatest list. Assumes nothing.
use Rattle.model.specs.Sets.{used}
use Rattle.delay.specs.GreatestAnswers.{verdict_greatest, verdict_rounds}
use Rattle.delay.proofs.verdict.Goals as goal

pub returns : goal.returns
returns c =
    let s = used c.args.s in
    let e = c.verdict_of.ensures in
    record { answer = e; greatest = λ h. verdict_greatest s _ e h; rounds = verdict_rounds s _ e }
