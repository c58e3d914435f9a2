-- `verdict_of_reading` answers of the set, or with the reader's refusal. Assumes nothing.
use Rattle.document.specs.ForC.{verdict_of_reading}
use Rattle.planner.specs.OfReading.{answered}
use Rattle.planner.proofs.answers.verdict_of_reading.Goals as goal

pub returns : goal.returns
unfolding verdict_of_reading
returns c = let w = c.answer.ensures in answered c.args.reading.fault c.answer.result (λ g. (w.answered g).1.0) w.refused
