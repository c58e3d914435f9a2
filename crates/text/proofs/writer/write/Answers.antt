-- `write` asks the record check, and then the room decides; any record that it is handed is held in arrays of their lengths and numbers of
-- 16 bits, of which the round trip is proved. Assumes nothing.
use Rattle.std.proofs.Common.{refl, ◌∙◌}
use Rattle.laws.specs.Judged.{checked_ok, checked_err}
use Rattle.text.specs.HeldByCode.{set_held}
use Rattle.text.specs.RoundTrip.{read_again}
use Rattle.text.proofs.RoundTrip.{text_most}
use Rattle.text.specs.WriteAnswers.{write_refused, write_accepted}
use Rattle.text.proofs.writer.write.Goals as goal

pub returns-in-Err : goal.returns-in-Err
returns-in-Err c =
    let w = checked_err _ c.record_fault.ensures c.in-Err.is in
    let a = write_refused _ _ _ w.0 w.1 in
    record { answer = c.refused.ensures ∙ a.answer; bytes = a.bytes; again = read_again c.args.s (set_held c.args.s _ c.well_formed.0) }

pub write_text-requires : goal.write_text-requires
write_text-requires c =
    let s = c.args.s in text_most s (set_held s _ c.well_formed.0) (checked_ok _ c.record_fault.ensures c.in-Ok.is)

pub returns-in-Ok : goal.returns-in-Ok
returns-in-Ok c =
    let t = c.write_text.ensures in
    let a = write_accepted _ _ _ refl (checked_ok _ c.record_fault.ensures c.in-Ok.is) _ _ t.0 t.1 in
    record { answer = a.answer; bytes = a.bytes; again = read_again c.args.s (set_held c.args.s _ c.well_formed.0) }
