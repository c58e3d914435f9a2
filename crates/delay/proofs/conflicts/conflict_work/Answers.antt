use native.Mathlib.Nat.{le_trans}
use native.Mathlib.Omega.{arith}
use Rattle.delay.specs.AcceptedFlows.{count_at_law}
use Rattle.delay.specs.PairGrids.{columns_of, columns_le, rows_next}
use Rattle.delay.proofs.conflicts.conflict_work.Goals as goal

pub loop-k-preserved : goal.loop-k-preserved
loop-k-preserved c =
    let n = c.args.s.now.count in
    let few = count_at_law c.args.s.now c.requires.0 in
    let h = c.loop-k-test.true in
    rows_next _ (columns_of c.args.columns n) _ _ _ (λ i j. le_trans (columns_le c.args.columns n i (omega arith)) few)
    c.loop-k.invariant (rw c.count.ensures at c.conflict_row.ensures)
