-- `superframe_of_reading` goes by whether the reader refuses; a refusal leaves the table alone. Assumes nothing.
use mathlib.Core.Path.{refl, ap, ◌∙◌}
use Rattle.model.specs.Refusals.{refused_table}
use Rattle.document.specs.ForC.{superframe_after, superframe_of_reading}
use Rattle.laws.specs.Judged.{checked_ok, checked_err}
use Rattle.planner.proofs.superframes.superframe_of_reading.Goals as goal

pub returns-in-Ok : goal.returns-in-Ok
unfolding superframe_of_reading superframe_after
returns-in-Ok c = rw (checked_ok c.args.reading.fault c.check.ensures c.in-Ok.is) c.superframe.ensures

pub returns-in-Err : goal.returns-in-Err
unfolding superframe_of_reading superframe_after
returns-in-Err c =
    let w = checked_err c.args.reading.fault c.check.ensures c.in-Err.is in
    let g = rw w.0 at w.1 in
    rw g (record { value = c.refused.ensures ∙ ap refused_table w.0; table_after_is = refl })
