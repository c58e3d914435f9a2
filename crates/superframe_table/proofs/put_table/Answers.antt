-- `put_table`: a refusal before the machine is asked leaves the table as it was; else the machine has put the rows. Assumes nothing.
use Rattle.std.proofs.lemmas.Result.{err_from_is_err_and}
use Rattle.superframe_table.specs.SizeAnswers.{size_found, size_fails, table_refused, table_no_room, rows_asked, table_written}
use Rattle.superframe_table.proofs.put_table.Goals as goal

pub returns-in_err-size : goal.returns-in_err-size
returns-in_err-size c =
    let w = size_fails _ _ c.table_size.ensures c.in_err-size.was in
    let p = err_from_is_err_and c.from_residual.result c.from_residual.ensures.1 in
    let held = table_refused _ c.args.table.now _ w.0 w.1 in
    rw (p.1, p.2) (record { value = held.0; table_after_is = held.1 })

pub returns-then-table-size : goal.returns-then-table-size
returns-then-table-size c =
    let z = size_found _ _ c.table_size.ensures c.in_ok-size.was in
    let w = table_no_room _ c.args.table.now _ z c.if-table-size.true in
    rw c.of.ensures (record { value = w.0; table_after_is = w.1 })

pub rows_accepted-requires : goal.rows_accepted-requires
rows_accepted-requires c =
    let z = size_found _ _ c.table_size.ensures c.in_ok-size.was in
    record { s_value = z.loads.accepted; slots_bound = rows_asked _ c.args.table.now _ z c.if-table-size.false }

pub returns : goal.returns
returns c =
    let z = size_found _ _ c.table_size.ensures c.in_ok-size.was in
    let held = table_written _ c.args.table.now _ _ z c.if-table-size.false c.rows_accepted.ensures in
    record { value = held.0; table_after_is = held.1 }
