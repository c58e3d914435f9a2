-- Whether something is refused, by the answer of `refuses`, and how high a refusal's number is.
use Prim.{tt}
use Rattle.std.specs.Prelude.{◌≡◌, Bool, true, false, not, ◌≤◌}
use Rattle.std.proofs.Common.{sym, ◌∙◌, lit≤}
use Rattle.std.proofs.lemmas.Bool.{not-true, not-false}
use Rattle.model.specs.declared.answers.Fault.{Fault}
use Rattle.model.specs.declared.answers.Refusal.{Refusal}
use Rattle.model.specs.declared.answers.Refusal.TheVariants.{Nothing, BadForm, NoChannel, TooManyFlows, BadPeriod, BadDeadline, BadTries, BadRoute, EqualNeighbours, TooMuchWork, NoRoom, AtLastSlot, BadState, NoSuchFlow, NotAdmitted, LateStart, LongHyperPeriod}
use Rattle.model.specs.Refusals.{good, refusal_number}

pub accepts : {b : Bool} (f : Fault) → b ≡ not (good f.refusal) → b ≡ false → good f.refusal ≡ true
accepts f e h = not-false (good f.refusal) (sym e ∙ h)

pub refuses : {b : Bool} (f : Fault) → b ≡ not (good f.refusal) → b ≡ true → good f.refusal ≡ false
refuses f e h = not-true (good f.refusal) (sym e ∙ h)

-- the highest number is that of the last
pub number_le : (r : Refusal) → refusal_number r ≤ refusal_number LongHyperPeriod
number_le Nothing = lit≤ tt
number_le BadForm = lit≤ tt
number_le NoChannel = lit≤ tt
number_le TooManyFlows = lit≤ tt
number_le BadPeriod = lit≤ tt
number_le BadDeadline = lit≤ tt
number_le BadTries = lit≤ tt
number_le BadRoute = lit≤ tt
number_le EqualNeighbours = lit≤ tt
number_le TooMuchWork = lit≤ tt
number_le NoRoom = lit≤ tt
number_le AtLastSlot = lit≤ tt
number_le BadState = lit≤ tt
number_le NoSuchFlow = lit≤ tt
number_le NotAdmitted = lit≤ tt
number_le LateStart = lit≤ tt
number_le LongHyperPeriod = lit≤ tt
