-- `fill`: the flows' numbers, S, and the rows made of them. Assumes nothing beyond its `requires`.
use Rattle.model.specs.Sets.{used}
use Rattle.delay.specs.AcceptedFlows.{count_at_law}
use Rattle.delay.specs.DelayTables.{conflicts_lent, shares_lent, small_rows, rows_pos, tables_hold}
use Rattle.delay.proofs.tables.Tables.fill.Goals as goal

pub conflict_work-requires : goal.conflict_work-requires
conflict_work-requires c = (c.requires.0, conflicts_lent _ c.requires.1 _ _)

pub shares_of_flows-requires : goal.shares_of_flows-requires
unfolding used
shares_of_flows-requires c =
    let a = c.requires.0 in
    let u = used c.args.s.now in
    let o = c.of-self.ensures in
    record {
      n_le_most_flows = (count_at_law c.args.s.now a, rows_pos u a _ o _ c.conflict_work.ensures, small_rows u a _ o _ c.conflict_work.ensures);
      shares_to = shares_lent _ c.requires.1 _ _ _;
    }

pub returns : goal.returns
unfolding used
returns c = tables_hold (used c.args.s.now) c.requires.0 _ c.of-self.ensures _ c.conflict_work.ensures _ _ c.shares_of_flows.ensures
