-- Document 01, "The flow set", and "the reader leaves them 0": the reader and the writer together. All is said of the definitions that
-- `read` and `write` are proved to meet; that the bytes which `write` stores are `text_of` stands in their contract.
use Rattle.std.specs.Prelude.{◌≡◌, ℕ, true, List}
use Rattle.model.specs.declared.kinds.FlowSet.{FlowSet}
use Rattle.model.specs.Refusals.{good}
use Rattle.model.specs.Sets.{used}
use Rattle.document.specs.Reader.{ReadAgain, record_fault, read_text, text_of}
use Rattle.text.specs.ReadThenWritten.{read_written}
use Rattle.text.specs.HeldByCode.{HeldRecord}
use Rattle.text.specs.WrittenThenRead.{written_read}
use Rattle.text.specs.ReadZeros.{read_zeroed}

-- (i) what is written of a set that passes the record check is read, without a fault, as the same set, and all other entries are 0
pub read_again : (s : FlowSet) → HeldRecord s → good (record_fault (used s)).refusal ≡ true → ReadAgain s
read_again s st h =
    let w = written_read s st h in
    record { no_fault_law = w.0; same_set = w.1; others_zero = read_zeroed (text_of (used s)) }

-- (ii) every accepted text, read and written again, has the same bytes
pub same_bytes : (s : List ℕ) → good (read_text s).fault.refusal ≡ true → text_of (used (read_text s).set) ≡ s
same_bytes = read_written
