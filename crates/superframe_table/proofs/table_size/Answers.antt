-- `table_size` goes down the chain of the definition; that the table has the rows counted is theorem 3. Assumes nothing.
use mathlib.Core.Path.{◌≡◌, sym, ◌∙◌}
use native.Mathlib.Omega.{arith}
use Rattle.std.proofs.Common.{None, Some}
use Rattle.std.proofs.lemmas.Result.{err_from_is_err_and}
use Rattle.model.specs.Sets.{used}
use Rattle.document.specs.Superframe.{hyper}
use Rattle.laws.specs.Judged.{checked_ok, checked_err}
use Rattle.superframe_table.specs.LoadedHyper.{if_loaded, loaded_none, loaded_some}
use Rattle.superframe_table.specs.SetFaults.{set_fault, set_accepted}
use Rattle.superframe_table.specs.SizeAnswers.{size_refused, size_long, size_counted}
use Rattle.superframe_table.proofs.table_size.Goals as goal

pub returns-in_err-set_fault : goal.returns-in_err-set_fault
returns-in_err-set_fault c =
    let w = checked_err (set_fault (used c.args.s)) c.set_fault.ensures c.in_err-set_fault.was in
    let p = err_from_is_err_and c.from_residual.result c.from_residual.ensures.1 in
    rw (p.1, p.2) (size_refused _ _ w.0 w.1)

pub hyper_period-requires : goal.hyper_period-requires
hyper_period-requires c =
    set_accepted _ (checked_ok (set_fault (used c.args.s)) c.set_fault.ensures c.in_ok-set_fault.was)

pub returns-in_err-hyper : goal.returns-in_err-hyper
returns-in_err-hyper c =
    let g = checked_ok (set_fault (used c.args.s)) c.set_fault.ensures c.in_ok-set_fault.was in
    let n : c.hyper_period.result ≡ None = grind arith in
    let l = loaded_none (hyper (used c.args.s)) (sym c.hyper_period.ensures ∙ n) in
    let f : c.in_err-hyper.field-0.0 ≡ c.of.result = grind arith in
    let p = err_from_is_err_and c.from_residual-in_err-hyper.result c.from_residual-in_err-hyper.ensures.1 in
    rw (p.1, p.2, f, c.of.ensures) (size_long _ g l)

pub row_count-rows-requires-clause-s_value : goal.row_count-rows-requires-clause-s_value
row_count-rows-requires-clause-s_value c =
    set_accepted _ (checked_ok (set_fault (used c.args.s)) c.set_fault.ensures c.in_ok-set_fault.was)

pub returns : goal.returns
returns c =
    let g = checked_ok (set_fault (used c.args.s)) c.set_fault.ensures c.in_ok-set_fault.was in
    let e : if_loaded (hyper (used c.args.s)) ≡ Some c.in_ok-hyper.hyper = grind arith in
    let w = loaded_some (hyper (used c.args.s)) _ e in
    size_counted c.args.s _ _ _ g c.none.ensures w.0 (omega (arith, w.0, w.1)) c.row_count-rows.ensures.0
