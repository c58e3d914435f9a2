-- `first_sums`: both sums hold the shares of the flows so far. Assumes nothing beyond its `requires`.
use Rattle.delay.specs.FirstShares.{FirstSumsTo}
use Rattle.laws.specs.Loops.{SoFar}
use Rattle.delay.proofs.fixed.first_sums.Given as goal

abbrev pub invariant-loop-l : goal.invariant-loop-l
invariant-loop-l l = SoFar l.k (λ j. FirstSumsTo l.numbers l.conflict l.bound l.k j l.x l.w) l.l
