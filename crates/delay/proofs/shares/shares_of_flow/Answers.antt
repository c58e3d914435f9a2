-- `shares_of_flow`: the quotients and remainders of every period, those of the flow itself then made 0. Assumes nothing beyond its `requires`.
use mathlib.Core.Path.{◌∙◌}
use lib.ListN.{get_or}
use Rattle.delay.specs.PairGrids.{pair_at}
use Rattle.delay.specs.ShareRows.{own_zero_from, own_row, own_whole}
use Rattle.delay.proofs.shares.shares_of_flow.Goals as goal

pub returns : goal.returns
returns c =
    let a = c.args in
    let d = c.divide.ensures in
    let p = c.requires in
    let s = p.small_work.1 in
    let whole = own_whole a.k a.n a.numbers.now _ _ _ _ p.k_lt_n.0 p.k_lt_n.1 d s in
    let zero = own_zero_from a.k a.n a.numbers.now _ _ _ _ p.k_lt_n.0 p.k_lt_n.1 d s in
    let row = own_row a.k a.n a.numbers.now _ _ _ _ p.k_lt_n.0 p.k_lt_n.1 d in
    let w = c.packet_sums.ensures in
    record {
      zero_from = (zero, row);
      conflict_value = w.conflict_value ∙ whole (λ l. pair_at a.conflict.now a.k l);
      work_value = (w.work_value.0 ∙ whole (λ l. get_or a.numbers.now.work l 0), w.work_value.1);
    }
