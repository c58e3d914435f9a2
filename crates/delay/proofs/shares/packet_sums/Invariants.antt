-- `packet_sums`: both sums hold the terms of the flows so far, at most 65,535 · 64 each. Assumes nothing beyond its `requires`.
use mathlib.Core.Path.{◌≡◌}
use Prim.Native.Nat.{◌*◌, ◌≤◌}
use lib.ListN.{get_or}
use Rattle.model.specs.Sums.{sum_to}
use Rattle.delay.specs.PairGrids.{pair_at}
use Rattle.delay.proofs.shares.packet_sums.Given as goal

abbrev pub invariant-loop-l : goal.invariant-loop-l
invariant-loop-l l = (l.x ≤ 4194240 * l.l)
    × (l.w ≤ 4194240 * l.l)
    × (l.x ≡ sum_to (λ j. get_or l.q j 0 * pair_at l.conflict l.k j) l.l)
    × (l.w ≡ sum_to (λ j. get_or l.q j 0 * get_or l.work j 0) l.l)
