-- Document 01, "What is planned, and from what" (the state's 68 bytes, the step on text) and "The plan program".
use mathlib.Core.{Bool.{Bool, true, false, cond}, List.{List, [], ◌∷◌, ◌++◌}}
use Rattle.std.specs.Prelude.{ℕ, zero, suc, ◌+◌, ◌*◌, ◌/◌, ◌%◌}
use lib.{Dec.{ltb, eqb}, IntN.{ℤ, pos, negsuc}, ListN.{length, get_or, drop}}
use Rattle.model.specs.declared.kinds.{FlowSet.{FlowSet}, State.{State}}
use Rattle.model.specs.declared.answers.{Fault.{Fault}, Reading.{Reading}, Refusal.TheVariants.{NoRoom, BadState}, Send.{Send}}
use Rattle.model.specs.declared.answers.{Verdict.{Verdict}, Bounds.{Bounds}, Written.{Written}}
use Rattle.model.specs.{Limits.{most_flows}, Refusals.{good, refusal_number, fault_at, no_fault, or_else}, Sums.{bit}, Sets.{used}}
use Rattle.document.specs.{Text.{decimal, decimals, line_of, tabbed}, Reader.{read_text, refused_writing, wrote}, Delay.{verdict_of, bounds_of}}
use Rattle.document.specs.Machine.{Priority, ahead, sends_with, next_with, step_fault, run_with}

-- a state is 68 bytes for C: the slot in four bytes, lowest first, then one count byte for each of 64 flows
abbrev pub state_length : ℕ
state_length = 4 + most_flows

unfoldable pub state_bytes : State → List ℕ
state_bytes st =
    (st.slot.0 % 256 ∷ st.slot.0 / 256 % 256 ∷ st.slot.0 / 65536 % 256 ∷ st.slot.0 / 16777216 % 256 ∷ []) ++ st.sent

unfoldable pub state_of : List ℕ → State
state_of b =
    record {
      slot = record { 0 = get_or b 0 0 + get_or b 1 0 * 256 + get_or b 2 0 * 65536 + get_or b 3 0 * 16777216 };
      sent = drop 4 b;
    }

-- `send`: slot, flow, from, to, try, radio channel
abbrev pub send_word : List ℕ
send_word = 115 ∷ 101 ∷ 110 ∷ 100 ∷ []

abbrev pub send_numbers : Send → List ℕ
send_numbers x = x.slot.0 ∷ x.flow ∷ x.from ∷ x.to ∷ x.attempt ∷ x.channel ∷ []

unfoldable pub send_lines : List Send → List ℕ
send_lines [] = []
send_lines (x ∷ xs) = line_of send_word (send_numbers x) ++ send_lines xs

-- one slot for C, with any order of priority. The text is read first, with the reader's refusals; then 12, also for a length other than 68, 11
-- and 10
unfoldable pub slot_lines_with : Priority → FlowSet → List ℕ → List ℕ
slot_lines_with first s state = send_lines (sends_with first s (state_of state))

unfoldable pub slot_fault_with : Priority → Reading → List ℕ → ℕ → Fault
slot_fault_with first r state room =
    or_else r.fault
    (cond (eqb (length state) state_length)
    (or_else (step_fault (used r.set) (state_of state))
    (cond (ltb room (length (slot_lines_with first (used r.set) state))) (fault_at NoRoom 0) no_fault))
    (fault_at BadState 0))

-- on success the next state stands in the 68 bytes and the `send` lines at the start of the second buffer; its further bytes stay
unfoldable pub slot_state_with : Priority → Reading → List ℕ → ℕ → List ℕ
slot_state_with first r state room =
    cond (good (slot_fault_with first r state room).refusal) (state_bytes (next_with first (used r.set) (state_of state))) state

unfoldable pub slot_buffer_with : Priority → Reading → List ℕ → List ℕ → List ℕ
slot_buffer_with first r state buffer =
    cond (good (slot_fault_with first r state (length buffer)).refusal)
    (slot_lines_with first (used r.set) state ++ drop (length (slot_lines_with first (used r.set) state)) buffer)
    buffer

-- with document 01's order
abbrev pub slot_lines : FlowSet → List ℕ → List ℕ
slot_lines = slot_lines_with ahead

abbrev pub slot_fault : Reading → List ℕ → ℕ → Fault
slot_fault = slot_fault_with ahead

abbrev pub slot_state : Reading → List ℕ → ℕ → List ℕ
slot_state = slot_state_with ahead

abbrev pub slot_buffer : Reading → List ℕ → List ℕ → List ℕ
slot_buffer = slot_buffer_with ahead

-- `refused`: number, line, field
abbrev pub refused_word : List ℕ
refused_word = 114 ∷ 101 ∷ 102 ∷ 117 ∷ 115 ∷ 101 ∷ 100 ∷ []

abbrev pub refused_line : Fault → List ℕ
refused_line f = line_of refused_word (refusal_number f.refusal ∷ f.line ∷ f.field ∷ [])

-- `verdict`: basic, tightened (1 admits), rounds
abbrev pub verdict_word : List ℕ
verdict_word = 118 ∷ 101 ∷ 114 ∷ 100 ∷ 105 ∷ 99 ∷ 116 ∷ []

abbrev pub verdict_line : Verdict → List ℕ
verdict_line v = line_of verdict_word (bit v.basic ∷ bit v.tightened ∷ v.rounds ∷ [])

-- a signed number: a negative one with a leading `-`
abbrev pub signed : ℤ → List ℕ
signed (pos n) = decimal n
signed (negsuc n) = 45 ∷ decimal (suc n)

-- `bound`: flow, C, basic, tightened, deadline, margin
abbrev pub bound_word : List ℕ
bound_word = 98 ∷ 111 ∷ 117 ∷ 110 ∷ 100 ∷ []

abbrev pub bound_line : ℕ → Bounds → List ℕ
bound_line k b =
    bound_word ++ tabbed (decimals (k ∷ b.work ∷ b.basic ∷ b.tightened ∷ b.deadline.0 ∷ []) ++ (signed b.margin ∷ []))

-- the `bound` lines of flows 0 .. n − 1
unfoldable pub bound_lines : FlowSet → ℕ → List ℕ
bound_lines s zero = []
bound_lines s (suc n) = bound_lines s n ++ bound_line n (bounds_of s n)

-- the `send` lines of the first n slots from the fresh state, with any order of priority
unfoldable pub run_lines_with : Priority → FlowSet → ℕ → List ℕ
run_lines_with first s zero = []
run_lines_with first s (suc n) = run_lines_with first s n ++ send_lines (sends_with first s (run_with first s n).last)

abbrev pub run_lines : FlowSet → ℕ → List ℕ
run_lines = run_lines_with ahead

-- the plan of a set, through slot 11
unfoldable pub plan_of : FlowSet → List ℕ
plan_of s = verdict_line (verdict_of s) ++ bound_lines s s.count ++ run_lines s 12

-- what a program prints that says `says` of a set
abbrev pub print_if : (FlowSet → List ℕ) → Reading → Bool → List ℕ
print_if says r true = says (used r.set)
print_if says r false = refused_line r.fault

-- input of more bytes is not read
abbrev pub most_input : ℕ
most_input = 16384

unfoldable pub print_text : (FlowSet → List ℕ) → List ℕ → List ℕ
print_text says input =
    elim (ltb most_input (length input)) [
      | true ↦ refused_line (fault_at NoRoom 0)
      | false ↦ print_if says (read_text input) (good (read_text input).fault.refusal)
    ]

-- the same into a lent buffer: the text at its start, and further bytes stay; a buffer that is too short is left alone, with refusal 10
unfoldable pub print_answer : (FlowSet → List ℕ) → List ℕ → ℕ → Written
print_answer says input room =
    cond (ltb room (length (print_text says input))) (refused_writing (fault_at NoRoom 0)) (wrote (length (print_text says input)))

unfoldable pub print_into : (FlowSet → List ℕ) → List ℕ → List ℕ → List ℕ
print_into says input buffer =
    cond (ltb (length buffer) (length (print_text says input))) buffer
    (print_text says input ++ drop (length (print_text says input)) buffer)

-- the plan program says the plan
abbrev pub text_of_plan : List ℕ → List ℕ
text_of_plan = print_text plan_of

abbrev pub plan_answer : List ℕ → ℕ → Written
plan_answer = print_answer plan_of

abbrev pub plan_into : List ℕ → List ℕ → List ℕ
plan_into = print_into plan_of
