-- What is told of the set is put, or the line of the refusal.
use mathlib.Core.Path.{sym, ap, ◌∙◌}
use Rattle.document.specs.Program.{refused_line}
use Rattle.text.specs.NamedLine.{refused_line_law}
use Rattle.text.specs.Put.{put_same}
use Rattle.plan_text.specs.PlanInBuffer.{read_good, read_refused}
use Rattle.laws.specs.Judged.{checked_ok, checked_err}
use Rattle.plan_text.proofs.put_reading.Goals as goal

pub put_set-requires : goal.put_set-requires
put_set-requires g c = c.requires.passed (checked_ok c.args.reading.fault c.check.ensures c.in-Ok.is)

pub returns-in-Ok : goal.returns-in-Ok
returns-in-Ok g c =
    let a = c.args in
    let e = read_good g.T.Told.all_lines a.reading (checked_ok a.reading.fault c.check.ensures c.in-Ok.is) in
    put_same _ _ _ _ _ _ (sym e) c.put_set.ensures

pub returns-in-Err : goal.returns-in-Err
returns-in-Err g c =
    let a = c.args in
    let w = checked_err a.reading.fault c.check.ensures c.in-Err.is in
    let e = read_refused g.T.Told.all_lines a.reading (rw w.0 at w.1) in
    put_same _ _ _ _ _ _ (refused_line_law c.in-Err.fault _ (c.from.ensures ∙ c.code.ensures) ∙ ap refused_line w.0 ∙ sym e) c.put_refused.ensures
