-- Input that is too long gives its refusal; of any other what was read is put, a set that was read passes the record check, and no line
-- above 66 is named, nor a field above 16,385.
use mathlib.Core.Path.{sym, ap, ◌∙◌}
use native.Mathlib.Omega.{arith}
use lib.ListN.{length}
use borrow.Author.Tests.{lt-ltb, le-ltb}
use Rattle.text.specs.Put.{put_same}
use Rattle.document.specs.Program.{most_input}
use Rattle.promise.specs.TextHeld.{text_passes}
use Rattle.laws.specs.{LinesRead.{read_line_le}, NamedFields.{field_le}}
use Rattle.plan_text.specs.PlanInBuffer.{print_read, text_long, text_short}
use Rattle.plan_text.proofs.put_text.Goals as goal

pub returns-then-input-gt-MOST_INPUT : goal.returns-then-input-gt-MOST_INPUT
returns-then-input-gt-MOST_INPUT g c =
    let input = c.args.input.now in
    let e = text_long g.T.Told.all_lines input (lt-ltb most_input (length input) c.if-input-gt-MOST_INPUT.true) in
    put_same _ _ _ _ _ _ (sym e) c.put_too_long.ensures

pub put_reading-requires : goal.put_reading-requires
put_reading-requires g c =
    let r = c.read.ensures.value in
    let input = c.args.input.now in
    let l = c.if-input-gt-MOST_INPUT.false in
    record { passed = λ h. rw r (text_passes input (rw (← r) h)); line_le_last_line = (rw r (read_line_le input), rw r (omega (arith, field_le input, l))) }

pub returns : goal.returns
returns g c =
    let input = c.args.input.now in
    let says = g.T.Told.all_lines in
    let l = text_short says input (le-ltb most_input (length input) c.if-input-gt-MOST_INPUT.false) in
    let e = l ∙ ap (print_read says) (sym c.read.ensures.value) in
    put_same _ _ _ _ _ _ (sym e) c.put_reading.ensures
