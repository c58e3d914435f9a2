-- Document 01, "What is planned, and from what": what C is answered, for every text, flow number, state and buffer. The 68 bytes of a state
-- and what a slot leaves in both buffers stand in `Program`. The calls of request 2, the superframe and its lines, come after
-- them, and those of request 4 last.
use mathlib.Core.{Bool.{cond}, List.{List, [], ◌∷◌, ◌++◌}}
use Rattle.std.specs.Prelude.{ℕ, zero, suc}
use lib.{Dec.{ltb}, ListN.{length, drop}}
use Rattle.model.specs.declared.kinds.FlowSet.{FlowSet}
use Rattle.model.specs.declared.answers.{Fault.{Fault}, Refusal.TheVariants.{NoRoom}}
use Rattle.model.specs.declared.answers.{Reading.{Reading}, Verdict.{Verdict}, Bounds.{Bounds}, Written.{Written}}
use Rattle.model.specs.declared.answers.{VerdictAnswer.{VerdictAnswer}, BoundsAnswer.{BoundsAnswer}, SlotAnswer.{SlotAnswer}, TableAnswer.{TableAnswer}}
use Rattle.model.specs.declared.answers.{SuperframeAnswer.{SuperframeAnswer}, LinesAnswer.{LinesAnswer}, RowsAnswer.{RowsAnswer}, Tabled.{Tabled}}
use Rattle.model.specs.declared.answers.{FixedVerdict.{FixedVerdict}, FixedBounds.{FixedBounds}, FixedVerdictAnswer.{FixedVerdictAnswer}, FixedBoundsAnswer.{FixedBoundsAnswer}}
use Rattle.model.specs.{Refusals.{good, refusal_number, fault_at, no_fault, or_else, refused_verdict, refused_bounds, refused_fixed_verdict, refused_fixed_bounds, refused_table}, Sums.{bit}, Sets.{used}}
use Rattle.document.specs.{Reader.{read_text}, Delay.{verdict_of, bounds_of}, Program.{slot_lines_with, slot_fault_with}}
use Rattle.document.specs.{Machine.{Priority, ahead, lower, radio_channel}, Fixed.{fixed_verdict_of, fixed_bounds_of}, Superframe.{size_answer, superframe_answer, superframe_into, write_table_answer, read_table_answer}}

-- the numbers of an answer: the refusal by its number, a test as 1 or 0
abbrev pub verdict_numbers : Verdict → VerdictAnswer
verdict_numbers v =
    record {
      refusal = refusal_number v.fault.refusal;
      line = v.fault.line;
      field = v.fault.field;
      basic = bit v.basic;
      tightened = bit v.tightened;
      rounds = v.rounds;
    }

abbrev pub bounds_numbers : Bounds → BoundsAnswer
bounds_numbers b =
    record {
      refusal = refusal_number b.fault.refusal;
      line = b.fault.line;
      field = b.fault.field;
      work = b.work;
      basic = b.basic;
      tightened = b.tightened;
      deadline = b.deadline.0;
      margin = b.margin;
    }

abbrev pub slot_numbers : Written → SlotAnswer
slot_numbers w = record { refusal = refusal_number w.fault.refusal; line = w.fault.line; field = w.fault.field; length = w.length }

abbrev pub table_numbers : Written → TableAnswer
table_numbers w = record { refusal = refusal_number w.fault.refusal; line = w.fault.line; field = w.fault.field; numbers = w.length }

-- a set handed over as text is read before anything else is tested, with the reader's refusals
unfoldable pub verdict_of_reading : Reading → Verdict
verdict_of_reading r = cond (good r.fault.refusal) (verdict_of (used r.set)) (refused_verdict r.fault)

unfoldable pub bounds_of_reading : Reading → ℕ → Bounds
bounds_of_reading r flow = cond (good r.fault.refusal) (bounds_of (used r.set) flow) (refused_bounds r.fault)

-- one slot, with any order of priority: the fault, and how many bytes of the second buffer are the slot's lines
unfoldable pub slot_answer_with : Priority → Reading → List ℕ → ℕ → Written
slot_answer_with first r state room =
    record {
      fault = slot_fault_with first r state room;
      length = cond (good (slot_fault_with first r state room).refusal) (length (slot_lines_with first (used r.set) state)) 0;
    }

-- the bounds of flows 0 .. n − 1 one after the other, four numbers a flow: C, basic, tightened, deadline
abbrev pub bounds_row : Bounds → List ℕ
bounds_row b = b.work ∷ b.basic ∷ b.tightened ∷ b.deadline.0 ∷ []

unfoldable pub bounds_rows : FlowSet → ℕ → List ℕ
bounds_rows s zero = []
bounds_rows s (suc n) = bounds_rows s n ++ bounds_row (bounds_of s n)

-- the rows of the set that was read: the reader's refusals, then 10 for a table that is too short for all of them
abbrev pub rows_read : Reading → List ℕ
rows_read r = bounds_rows (used r.set) (used r.set).count

unfoldable pub table_fault : Reading → ℕ → Fault
table_fault r room = or_else r.fault (cond (ltb room (length (rows_read r))) (fault_at NoRoom 0) no_fault)

-- the fault, and how many numbers of the table are the rows
unfoldable pub table_answer : Reading → ℕ → Written
table_answer r room =
    record {
      fault = table_fault r room;
      length = cond (good (table_fault r room).refusal) (length (rows_read r)) 0;
    }

-- on success the rows stand at the table's start, and its further numbers stay; on a refusal all stay
unfoldable pub table_after : Reading → List ℕ → List ℕ
table_after r table = cond (good (table_fault r (length table)).refusal) (rows_read r ++ drop (length (rows_read r)) table) table

-- the four calls
unfoldable pub verdict_for_c : List ℕ → VerdictAnswer
verdict_for_c text = verdict_numbers (verdict_of_reading (read_text text))

unfoldable pub bounds_for_c : List ℕ → ℕ → BoundsAnswer
bounds_for_c text flow = bounds_numbers (bounds_of_reading (read_text text) flow)

unfoldable pub slot_for_c_with : Priority → List ℕ → List ℕ → ℕ → SlotAnswer
slot_for_c_with first text state room = slot_numbers (slot_answer_with first (read_text text) state room)

abbrev pub slot_for_c : List ℕ → List ℕ → ℕ → SlotAnswer
slot_for_c = slot_for_c_with ahead

unfoldable pub all_bounds_for_c : List ℕ → ℕ → TableAnswer
all_bounds_for_c text room = table_numbers (table_answer (read_text text) room)

-- request 2: a superframe's answer in numbers; that of a table's lines written, and read, which name no field
abbrev pub superframe_numbers : Tabled → SuperframeAnswer
superframe_numbers a =
    record {
      refusal = refusal_number a.fault.refusal;
      line = a.fault.line;
      field = a.fault.field;
      hyper = a.hyper;
      numbers = a.numbers;
    }

abbrev pub lines_numbers : Written → LinesAnswer
lines_numbers w = record { refusal = refusal_number w.fault.refusal; line = w.fault.line; length = w.length }

abbrev pub read_numbers : Tabled → RowsAnswer
read_numbers a = record { refusal = refusal_number a.fault.refusal; line = a.fault.line; numbers = a.numbers }

-- the superframe of the set that was read, or the reader's refusal
unfoldable pub size_of_reading : Reading → Tabled
size_of_reading r = cond (good r.fault.refusal) (size_answer (used r.set)) (refused_table r.fault)

unfoldable pub superframe_of_reading : Reading → ℕ → Tabled
superframe_of_reading r room = cond (good r.fault.refusal) (superframe_answer (used r.set) room) (refused_table r.fault)

-- the lent table afterwards
unfoldable pub superframe_after : Reading → List ℕ → List ℕ
superframe_after r table = cond (good r.fault.refusal) (superframe_into (used r.set) table) table

-- the five calls
unfoldable pub size_for_c : List ℕ → SuperframeAnswer
size_for_c text = superframe_numbers (size_of_reading (read_text text))

unfoldable pub superframe_for_c : List ℕ → ℕ → SuperframeAnswer
superframe_for_c text room = superframe_numbers (superframe_of_reading (read_text text) room)

unfoldable pub write_table_for_c : List ℕ → ℕ → LinesAnswer
write_table_for_c table room = lines_numbers (write_table_answer table room)

unfoldable pub read_table_for_c : List ℕ → ℕ → RowsAnswer
read_table_for_c lines room = read_numbers (read_table_answer lines room)

-- the radio channel of an offset in a slot; 0 for a map without channels, and for a number that is no map
unfoldable pub channel_for_c : ℕ → ℕ → ℕ → ℕ
channel_for_c bits t offset = cond (ltb 65535 bits) 0 (radio_channel bits t offset)

-- request 4: the answers of the test for fixed priority in numbers
abbrev pub fixed_verdict_numbers : FixedVerdict → FixedVerdictAnswer
fixed_verdict_numbers a =
    record {
      refusal = refusal_number a.fault.refusal;
      line = a.fault.line;
      field = a.fault.field;
      admitted = bit a.admitted;
      judged = a.judged;
    }

abbrev pub fixed_bounds_numbers : FixedBounds → FixedBoundsAnswer
fixed_bounds_numbers a =
    record {
      refusal = refusal_number a.fault.refusal;
      line = a.fault.line;
      field = a.fault.field;
      work = a.work;
      bound = a.bound;
      deadline = a.deadline.0;
      judged = bit a.judged;
    }

unfoldable pub fixed_verdict_of_reading : Reading → FixedVerdict
fixed_verdict_of_reading r = cond (good r.fault.refusal) (fixed_verdict_of (used r.set)) (refused_fixed_verdict r.fault)

unfoldable pub fixed_bounds_of_reading : Reading → ℕ → FixedBounds
fixed_bounds_of_reading r flow = cond (good r.fault.refusal) (fixed_bounds_of (used r.set) flow) (refused_fixed_bounds r.fault)

-- the three calls; the slot is document 01's with the other order
unfoldable pub fixed_verdict_for_c : List ℕ → FixedVerdictAnswer
fixed_verdict_for_c text = fixed_verdict_numbers (fixed_verdict_of_reading (read_text text))

unfoldable pub fixed_bounds_for_c : List ℕ → ℕ → FixedBoundsAnswer
fixed_bounds_for_c text flow = fixed_bounds_numbers (fixed_bounds_of_reading (read_text text) flow)

abbrev pub fixed_slot_for_c : List ℕ → List ℕ → ℕ → SlotAnswer
fixed_slot_for_c = slot_for_c_with lower
