-- The lines of a table part by part: the rows of the slots from a state on, and how many slots a part has.
-- A set here is one without the entries that don't count (`used`).
use mathlib.Core.{Bool.{cond}, List.{List, [], ◌∷◌, ◌++◌, map}}
use Rattle.std.specs.Prelude.{ℕ, zero, suc, ◌-◌, ◌/◌, min, length, take}
use Rattle.model.specs.declared.kinds.{FlowSet.{FlowSet}, State.{State}}
use Rattle.model.specs.declared.answers.{Send.{Send}, Stepped.{Stepped}}
use Rattle.model.specs.{Refusals.{good}, Sets.{fresh_state}}
use Rattle.document.specs.Machine.{count_at, step_fault, step_of}
use Rattle.document.specs.Superframe.{row_lines, rows_at}
use Rattle.superframe_table.specs.declared.parts.Part.{Part}

-- the row of a send; its flow's count after the slot is one more than the transmission's number
abbrev pub send_row : State → Send → List ℕ
send_row next x = x.slot.0 ∷ x.flow ∷ (count_at next x.flow - 1) ∷ x.offset ∷ []

abbrev pub send_rows : State → List Send → List (List ℕ)
send_rows next xs = map (send_row next) xs

-- the rows of a step's sends
abbrev pub sent_rows : Stepped → List (List ℕ)
sent_rows a = send_rows a.next (take a.sends a.sent)

-- the rows of the state's slot; a refused step has none
unfoldable pub slot_rows : FlowSet → State → List (List ℕ)
slot_rows s st = cond (good (step_fault s st).refusal) (rows_at s st) []

-- the state after n steps; a refused step stays
unfoldable pub state_after : FlowSet → State → ℕ → State
state_after s st zero = st
state_after s st (suc n) = (step_of s (state_after s st n)).next

-- the rows of these n slots
unfoldable pub rows_more : FlowSet → State → ℕ → List (List ℕ)
rows_more s st zero = []
rows_more s st (suc n) = rows_more s st n ++ slot_rows s (state_after s st n)

-- no slot has more bytes
abbrev pub most_slot : ℕ
most_slot = 320

-- how many slots a part has: as many as surely fit, and none from the hyper-period on
abbrev pub part_slots : ℕ → State → ℕ → ℕ
part_slots hyper st room = min (hyper - st.slot.0) (room / most_slot)

-- the bytes of a part of n slots, and what is answered
abbrev pub part_text : FlowSet → State → ℕ → List ℕ
part_text s st n = row_lines (rows_more s st n)

abbrev pub part_of : FlowSet → State → ℕ → Part
part_of s st n = record { state = state_after s st n; length = length (part_text s st n) }

-- part after part from the fresh state on, part i into a buffer of this length: the state after the first n parts, and their bytes
unfoldable pub parts_state : FlowSet → ℕ → (ℕ → ℕ) → ℕ → State
parts_state s hyper room zero = fresh_state
parts_state s hyper room (suc n) =
    (part_of s (parts_state s hyper room n) (part_slots hyper (parts_state s hyper room n) (room n))).state

unfoldable pub parts_text : FlowSet → ℕ → (ℕ → ℕ) → ℕ → List ℕ
parts_text s hyper room zero = []
parts_text s hyper room (suc n) =
    parts_text s hyper room n ++ part_text s (parts_state s hyper room n) (part_slots hyper (parts_state s hyper room n) (room n))
