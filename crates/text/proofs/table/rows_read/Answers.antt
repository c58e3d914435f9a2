-- `rows_read` has the fault of the lines before that of the room. Assumes nothing.
use Rattle.std.proofs.Common.{sym, ◌∙◌}
use Rattle.std.proofs.lemmas.Result.{err_from_is_err_and}
use Rattle.laws.specs.Judged.{checked_ok, checked_err}
use Rattle.text.specs.TableRead.{rows_bad, rows_short, rows_good}
use Rattle.text.proofs.table.rows_read.Goals as goal

pub returns-in_err-rows : goal.returns-in_err-rows
returns-in_err-rows c =
    let p = err_from_is_err_and c.from_residual.result c.from_residual.ensures.1 in
    rw (p.1, p.2) (rows_bad _ _ _ (sym c.in_err-rows.was ∙ c.judge_lines.ensures))

pub returns-in_err-room_fault : goal.returns-in_err-room_fault
returns-in_err-room_fault c =
    let p = err_from_is_err_and c.from_residual-in_err-room_fault.result c.from_residual-in_err-room_fault.ensures.1 in
    let w = checked_err _ c.room_fault.ensures c.in_err-room_fault.was in
    rw (p.1, p.2) (rows_short _ _ _ (sym c.in_ok-rows.was ∙ c.judge_lines.ensures) _ w.0 w.1)

pub returns : goal.returns
returns c = rows_good _ _ _ (sym c.in_ok-rows.was ∙ c.judge_lines.ensures) (checked_ok _ c.room_fault.ensures c.in_ok-room_fault.was)
