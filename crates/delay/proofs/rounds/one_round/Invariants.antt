-- `one_round`: as far as flow k the list is the definition's, since the value read off the tables is the definition's. Assumes nothing beyond its `requires`.
use Rattle.delay.specs.OneRound.{RoundUnderway}
use Rattle.delay.proofs.rounds.one_round.Given as goal

abbrev pub invariant-loop-k : goal.invariant-loop-k
invariant-loop-k l = RoundUnderway l.tables l.n l.m l.initial.slack l.slack l.k l.changed
