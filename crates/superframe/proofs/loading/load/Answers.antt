-- `load` goes one of four ways. Assumes nothing.
use Rattle.std.proofs.lemmas.Result.{err_from_is_err_and}
use borrow.Author.Tests.{le-ltb}
use Rattle.laws.specs.Judged.{checked_err, checked_ok}
use Rattle.superframe.specs.Loads.{loads_refused, loads_unsized, loads_sized}
use Rattle.superframe.proofs.loading.load.Goals as goal

pub returns-in_err-check : goal.returns-in_err-check
returns-in_err-check c =
    let r = c.read-reading in
    let p = err_from_is_err_and c.from_residual.result c.from_residual.ensures.1 in
    let w = checked_err r.result.fault c.check.ensures c.in_err-check.was in
    rw (p.1, p.2, w.0) (loads_refused _ (le-ltb _ _ c.if-input-gt-MOST_INPUT.false) r.result r.ensures.value (rw (← w.0) w.1))

pub returns-in_err-check-2 : goal.returns-in_err-check-2
returns-in_err-check-2 c =
    let r = c.read-reading in
    let a = c.superframe_size-size in
    let p = err_from_is_err_and c.from_residual-in_err-check-2.result c.from_residual-in_err-check-2.ensures.1 in
    let w = checked_err a.result.fault c.check-2.ensures c.in_err-check-2.was in
    rw (p.1, p.2, w.0) (loads_unsized _ (le-ltb _ _ c.if-input-gt-MOST_INPUT.false) r.result r.ensures.value
    (checked_ok r.result.fault c.check.ensures c.in_ok-check.was) a.result a.ensures (rw (← w.0) w.1))

pub returns : goal.returns
returns c =
    let r = c.read-reading in
    let a = c.superframe_size-size in
    loads_sized _ (le-ltb _ _ c.if-input-gt-MOST_INPUT.false) r.result r.ensures.value
    (checked_ok r.result.fault c.check.ensures c.in_ok-check.was) a.result a.ensures (checked_ok a.result.fault c.check-2.ensures c.in_ok-check-2.was)
