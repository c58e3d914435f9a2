-- `remainder_sums`: both sums hold the terms of the places so far, at most 64 each. Assumes nothing beyond its `requires`.
use mathlib.Core.Path.{◌≡◌}
use Prim.Native.Nat.{◌*◌, ◌≤◌, min}
use lib.ListN.{get_or}
use Rattle.model.specs.Sums.{sum_to}
use Rattle.delay.specs.PairGrids.{pair_at}
use Rattle.delay.specs.EquationValues.{remainder_less}
use Rattle.delay.proofs.tables.Tables.remainder_sums.Given as goal

abbrev pub invariant-loop-l : goal.invariant-loop-l
invariant-loop-l l = (l.x ≤ 64 * l.l)
    × (l.w ≤ 64 * l.l)
    × (l.x ≡ sum_to (λ j. min (pair_at l.self.conflict l.k j) (remainder_less l.self.remainder l.slack l.k j)) l.l)
    × (l.w ≡ sum_to (λ j. min (get_or l.self.numbers.work j 0) (remainder_less l.self.remainder l.slack l.k j)) l.l)
