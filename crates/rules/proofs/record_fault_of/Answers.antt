-- `record_fault_of` is the map's fault and then the flows'. Assumes nothing.
use mathlib.Core.Path.{ap, ◌∙◌}
use Rattle.laws.specs.Judged.{err_of, judged_err, judged_ok}
use Rattle.model.specs.Refusals.{checked}
use Rattle.rules.specs.RecordFlows.{record_first, record_on}
use Rattle.rules.proofs.record_fault_of.Goals as goal

pub returns-in-Err : goal.returns-in-Err
returns-in-Err c =
    let w = judged_err _ c.map_fault.ensures c.in-Err.is in
    err_of _ _ w.1 (record_first c.args.s.now _ w.0 w.1)

pub returns : goal.returns
returns c =
    let w = judged_ok _ c.map_fault.ensures c.in_default.is in
    c.flows_fault.ensures ∙ ap checked (record_on c.args.s.now w)
