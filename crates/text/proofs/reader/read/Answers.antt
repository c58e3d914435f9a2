-- `read` judges the first line, then reads the flows from the next one on; that it names the field follows from what it answers.
-- Assumes nothing.
use Rattle.std.proofs.Common.{◌≡◌, ℕ, List, sym, ◌∙◌}
use Rattle.model.specs.declared.answers.Reading.{Reading}
use Rattle.document.specs.Reader.{read_text}
use Rattle.document.specs.FieldNamed.{ReaderNames}
use Rattle.laws.specs.NamedFields.{reader_names}
use Rattle.text.specs.FirstRow.{first_refused, first_accepted}
use Rattle.text.proofs.reader.read.Goals as goal

named : (text : List ℕ) (r : Reading) → r ≡ read_text text → (r ≡ read_text text) × ReaderNames text r.fault
named text r e = (e, rw e (reader_names text))

pub returns-in-Err : goal.returns-in-Err
returns-in-Err c =
    let held = named _ _ (first_refused _ _ (sym c.in-Err.is ∙ c.first_row.ensures) _ c.first_field.ensures _ c.blank.ensures) in
    record { value = held.0; reader_names_is = held.1 }

pub returns-in-Ok : goal.returns-in-Ok
returns-in-Ok c =
    let held = named _ _ (c.read_flows.ensures ∙ first_accepted _ _ (sym c.in-Ok.is ∙ c.first_row.ensures)) in
    record { value = held.0; reader_names_is = held.1 }
