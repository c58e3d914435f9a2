-- `table_of_reading` leaves what its three ways out say: the reader's refusal, no room, or the rows written. Assumes nothing.
use mathlib.Core.Path.{ap, ◌∙◌}
use Prim.Native.Nat.{◌*◌}
use Rattle.std.proofs.Common.{Ok}
use Rattle.std.proofs.lemmas.Result.{err_from_is_err_and}
use Rattle.model.specs.declared.answers.Fault.{Fault}
use Rattle.laws.specs.Judged.{checked_ok, checked_err}
use Rattle.planner.specs.StepWritten.{written}
use Rattle.planner.specs.TableRows.{table_refused, table_no_room, table_written}
use Rattle.planner.proofs.tables.table_of_reading.Goals as goal

pub returns-in_err-check : goal.returns-in_err-check
returns-in_err-check c =
    let a = c.args in
    let g = checked_err a.reading.fault c.check.ensures c.in_err-check.was in
    let p = err_from_is_err_and c.from_residual.result c.from_residual.ensures.1 in
    let w = table_refused a.reading a.table.now _ g.0 g.1 in
    rw (p.1, p.2) (record { value = w.0; table_after_is = w.1 })

pub returns-then-table-n : goal.returns-then-table-n
returns-then-table-n c =
    let a = c.args in
    let g = checked_ok a.reading.fault c.check.ensures c.in_ok-check.was in
    let w = table_no_room a.reading a.table.now g c.if-table-n.true in
    rw c.of.ensures (record { value = w.0; table_after_is = w.1 })

pub bounds_of_accepted-requires : goal.bounds_of_accepted-requires
bounds_of_accepted-requires c =
    c.requires (checked_ok c.args.reading.fault c.check.ensures c.in_ok-check.was)

pub returns : goal.returns
returns c =
    let a = c.args in
    let g = checked_ok a.reading.fault c.check.ensures c.in_ok-check.was in
    let w = table_written a.reading a.table.now g c.if-table-n.false in
    record { value = ap (λ (f : Fault). Ok (written f (4 * a.reading.set.count))) c.none.ensures ∙ w.0; table_after_is = c.put_rows.ensures ∙ w.1 }
