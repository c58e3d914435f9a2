-- `rounds`: so far each round has changed the list, and the definition's rounds go on from it. Assumes nothing beyond its `requires`.
use mathlib.Core.Bool.{true}
use Prim.Native.Nat.{◌-◌}
use Rattle.model.specs.Sets.{used}
use Rattle.document.specs.Delay.{most_rounds}
use Rattle.delay.specs.OneRound.{list_of_slack, SlackWithin}
use Rattle.delay.specs.RoundsReached.{RoundsGoing}
use Rattle.delay.proofs.rounds.rounds.Given as goal

abbrev pub invariant-loop-changes : goal.invariant-loop-changes
invariant-loop-changes l = SlackWithin l.tables.numbers.deadline l.slack l.s.count
    × RoundsGoing (used l.s) true l.changes (list_of_slack l.tables.numbers.deadline l.slack l.s.count)

abbrev pub decreases-loop-changes : goal.decreases-loop-changes
decreases-loop-changes l = most_rounds (used l.s) - l.changes
