-- Document 01, "Sets on either side of a line": P1 to P11, with all that the document says of each, in one table under one theorem; P11 and the
-- rows after it as request 1 has them; and rows of our own, for what none of these says: starts, several tries beside another flow, offsets,
-- deliveries, the refusals that are only run, a state's bytes, buffers, what C is answered; then the sets of request 2, the texts of request 3
-- and the sets of request 4.
-- The sets are their texts, run through the reader's definition; the checker computes the rest.
use mathlib.Core.{Bool.{Bool, true, false, not, ◌&&◌}, List.{List, [], ◌∷◌, ◌++◌}}
use Prim.Native.{Char.{code}, Nat.{ℕ, zero, suc}}
use Prim.Native.String as string
use lib.{Count.{ones, ones_in}, Dec.{eqb, T}, IntN.{ℤ, pos, negsuc}, ListN.{length, take, replicate}}
use Rattle.model.specs.declared.kinds.FlowSet.{FlowSet}
use Rattle.model.specs.declared.answers.{Fault.{Fault}, Reading.{Reading}, Send.{Send}, Delivery.{Delivery}, Stepped.{Stepped}, Written.{Written}}
use Rattle.model.specs.declared.answers.{VerdictAnswer.{VerdictAnswer}, BoundsAnswer.{BoundsAnswer}, SlotAnswer.{SlotAnswer}, TableAnswer.{TableAnswer}}
use Rattle.model.specs.declared.answers.{SuperframeAnswer.{SuperframeAnswer}, LinesAnswer.{LinesAnswer}, RowsAnswer.{RowsAnswer}}
use Rattle.model.specs.declared.answers.{FixedVerdictAnswer.{FixedVerdictAnswer}, FixedBoundsAnswer.{FixedBoundsAnswer}}
use Rattle.model.specs.{Refusals.{refusal_number}, Sums.{bit, sum_to, any_to, all_to}, Sets.{flow_at, used, any_of, meet, list_to, filter_to}}
use Rattle.document.specs.Text.{same, lines, ended, fields, all_digits, value_from, is_number, all_numbers, values_of, well_formed, numbers_of, decimal_in, decimal, tabbed, decimals, line_of}
use Rattle.document.specs.Reader.{repeat_at, flow_fault, flows_fault, record_fault, flow_of, with_flow, first_line_fault, flow_line_fault, first_line_field, flow_line_field, read_flows, set_of, read_lines, read_text, flow_lines, text_of, pad, write_fault, write_answer, write_into}
use Rattle.document.specs.BadField.{first_breaking}
use Rattle.document.specs.Delay.{conflict_work, share, over_others, bound_with, basic_bound, value_at, deadlines, lowered, round_to, rounds_in, reached, tight_bound, admits, verdict_of, bounds_fault, bounds_of}
use Rattle.document.specs.Machine.{lower, ready, next_count, insert, ordered, place, channels_to, radio_channel, send_of, sends_from, sends_at, deliveries_of, dropped_at, bad_state, step_fault, step_of, run_of, count_with, delivered_with, dropped_with, next_with, placed_with, run_with, step_with}
use Rattle.document.specs.Program.{state_length, state_bytes, state_of, send_numbers, send_lines, slot_lines_with, slot_fault_with, slot_state, slot_state_with, slot_buffer, slot_buffer_with, bound_lines, run_lines_with, plan_of, print_text, text_of_plan}
use Rattle.document.specs.ForC.{verdict_of_reading, bounds_of_reading, slot_answer_with, bounds_rows, table_fault, table_answer, table_after, verdict_for_c, bounds_for_c, slot_for_c, slot_for_c_with, all_bounds_for_c}
use Rattle.document.specs.ForC.{fixed_verdict_of_reading, fixed_bounds_of_reading, fixed_verdict_for_c, fixed_bounds_for_c, fixed_slot_for_c}
use Rattle.document.specs.Fixed.{fixed_step, fixed_run, bound_after, some_over, judge_next, fixed_to, fixed_bound, judged, fixed_verdict_of, fixed_bounds_of, fixed_bound_lines, fixed_of, fixed_text}
use Rattle.document.specs.ForC.{size_of_reading, superframe_of_reading, superframe_after, size_for_c, superframe_for_c, write_table_for_c, read_table_for_c, channel_for_c}
use Rattle.document.specs.Superframe.{multiple_from, lcm, hyper_to, hyper, rows_from, rows_to, rows_to_with, superframe, flat, size_fault, superframe_fault, size_answer, superframe_answer, superframe_into, row_lines, rows_in, write_table_answer, write_table_into, row_formed, row_of, above, lines_fault, read_table_fault, read_table_answer, read_table_into, superframe_text}

-- the bytes of a quoted text
unfoldable pub bytes : string.String → List ℕ
bytes string.[] = []
bytes (string.◌∷◌ c s) = code c ∷ bytes s

-- of one text after the other
unfoldable pub bytes_of : List string.String → List ℕ
bytes_of [] = []
bytes_of (l ∷ ls) = bytes l ++ bytes_of ls

-- what the document says of a set
pub data Claim : Type 0 where
  refused : ℕ → ℕ → ℕ → Claim  -- refusal number, line, field
  written : Claim  -- read and written again it has the same bytes
  basics : List ℕ → Claim  -- the basic bounds
  tights : List ℕ → Claim  -- the tightened bounds
  verdict : Bool → Bool → Claim  -- basic, tightened
  rounds : ℕ → Claim
  margin : ℕ → ℤ → Claim  -- flow, margin
  sends : ℕ → List (List ℕ) → Claim  -- the first slots of the run: slot, flow, from, to, try, radio channel
  flows_in : ℕ → List ℕ → Claim  -- a slot of the run, and the flows that it sends
  drops : ℕ → List ℕ → Claim  -- a slot of the run, and the flows that it drops
  plan : List string.String → Claim  -- what the plan program prints, line by line
  verdict_c : List ℕ → Claim  -- what C is answered: refusal, line, field, basic, tightened, rounds
  bounds_c : ℕ → List ℕ → ℤ → Claim  -- flow; refusal, line, field, C, basic, tightened, deadline; margin
  -- one slot for C: the state's first bytes, before zeros; the buffer; refusal, line, field, length; the state and the buffer after it
  slot_c : List ℕ → string.String → List ℕ → List ℕ → string.String → Claim
  -- the bounds of all flows for C: the table; refusal, line, field, numbers; the table after it
  table_c : List ℕ → List ℕ → List ℕ → Claim
  bad_length : ℕ → List ℕ → Claim  -- a state of this many zeros, and a buffer of none: refusal, line, field, length
  -- a slot of the run: its sends with their offsets, before the channel; flow and delay of its deliveries; its drops
  report : ℕ → List (List ℕ) → List (List ℕ) → List ℕ → Claim
  line_of_flow : ℕ → string.String → ℕ → ℕ → Claim  -- a flow's number, its line, the refusal of it and the field
  copies : ℕ → ℕ → ℕ → Claim  -- a record of this many copies of flow 0: refusal number, line; no field
  writes : string.String → List ℕ → string.String → Claim  -- the buffer; refusal, line, field, length; the buffer after it
  plan_of_zeros : ℕ → string.String → Claim  -- what the program prints for this many bytes 0
  loads : ℕ → List (List ℕ) → Claim  -- the hyper-period, and the rows of the superframe
  loads_to : ℕ → List (List ℕ) → Claim  -- the rows of the superframe's first slots
  loading : ℕ → ℕ → Claim  -- the refusal before that for room, and the hyper-period
  -- the superframe for C: the table; refusal, line, field, hyper-period, numbers; the table after it
  load_c : List ℕ → List ℕ → List ℕ → Claim
  size_c : List ℕ → Claim  -- refusal, line, field, hyper-period, numbers
  frame : List string.String → Claim  -- what the program `superframe` prints, line by line
  channel_c : ℕ → ℕ → ℕ → Claim  -- slot, offset, radio channel
  channel_of : ℕ → ℕ → Claim  -- the radio channel of slot 0 and offset 0 with this number as the map
  -- a table's lines for C: its numbers; the buffer; refusal, line, length; the buffer after it
  lines_c : List ℕ → string.String → List ℕ → string.String → Claim
  -- lines read for C: the table; refusal, line, numbers; the table after it
  rows_c : string.String → List ℕ → List ℕ → List ℕ → Claim
  fixed_bounds : List ℕ → List ℕ → Claim  -- with fixed priority: the bounds; of each flow 1 if it is judged
  fixed_verdict : Bool → ℕ → Claim  -- admitted, how many are judged
  fixed_report : ℕ → List (List ℕ) → List (List ℕ) → List ℕ → Claim  -- a slot of the run, as in `report`
  fixed_plan : List string.String → Claim  -- what the program `fixed` prints, line by line
  fixed_verdict_c : List ℕ → Claim  -- what C is answered: refusal, line, field, admitted, judged
  fixed_bounds_c : ℕ → List ℕ → Claim  -- flow; refusal, line, field, C, bound, deadline, judged
  fixed_slot_c : List ℕ → string.String → List ℕ → List ℕ → string.String → Claim  -- one slot for C, as in `slot_c`

same_rows : List (List ℕ) → List (List ℕ) → Bool
same_rows [] [] = true
same_rows [] (y ∷ ys) = false
same_rows (x ∷ xs) [] = false
same_rows (x ∷ xs) (y ∷ ys) = same x y && same_rows xs ys

rows : List Send → List (List ℕ)
rows [] = []
rows (x ∷ xs) = send_numbers x ∷ rows xs

flows_of : List Send → List ℕ
flows_of [] = []
flows_of (x ∷ xs) = x.flow ∷ flows_of xs

send_rows_to : FlowSet → ℕ → List (List ℕ)
send_rows_to s zero = []
send_rows_to s (suc n) = send_rows_to s n ++ rows (sends_at s (run_of s n).last)

verdict_row : VerdictAnswer → List ℕ
verdict_row v = v.refusal ∷ v.line ∷ v.field ∷ v.basic ∷ v.tightened ∷ v.rounds ∷ []

bounds_answer_row : BoundsAnswer → List ℕ
bounds_answer_row b = b.refusal ∷ b.line ∷ b.field ∷ b.work ∷ b.basic ∷ b.tightened ∷ b.deadline ∷ []

written_row : Written → List ℕ
written_row w = refusal_number w.fault.refusal ∷ w.fault.line ∷ w.fault.field ∷ w.length ∷ []

slot_row : SlotAnswer → List ℕ
slot_row a = a.refusal ∷ a.line ∷ a.field ∷ a.length ∷ []

table_row : TableAnswer → List ℕ
table_row a = a.refusal ∷ a.line ∷ a.field ∷ a.numbers ∷ []

frame_row : SuperframeAnswer → List ℕ
frame_row a = a.refusal ∷ a.line ∷ a.field ∷ a.hyper ∷ a.numbers ∷ []

lines_row : LinesAnswer → List ℕ
lines_row a = a.refusal ∷ a.line ∷ a.length ∷ []

rows_row : RowsAnswer → List ℕ
rows_row a = a.refusal ∷ a.line ∷ a.numbers ∷ []

fixed_verdict_row : FixedVerdictAnswer → List ℕ
fixed_verdict_row v = v.refusal ∷ v.line ∷ v.field ∷ v.admitted ∷ v.judged ∷ []

fixed_bounds_row : FixedBoundsAnswer → List ℕ
fixed_bounds_row b = b.refusal ∷ b.line ∷ b.field ∷ b.work ∷ b.bound ∷ b.deadline ∷ b.judged ∷ []

offset_rows : List Send → List (List ℕ)
offset_rows [] = []
offset_rows (x ∷ xs) = (x.slot.0 ∷ x.flow ∷ x.from ∷ x.to ∷ x.attempt ∷ x.offset ∷ x.channel ∷ []) ∷ offset_rows xs

delivery_rows : List Delivery → List (List ℕ)
delivery_rows [] = []
delivery_rows (x ∷ xs) = (x.flow ∷ x.delay.0 ∷ []) ∷ delivery_rows xs

report_holds : Stepped → List (List ℕ) → List (List ℕ) → List ℕ → Bool
report_holds a xs ds ks =
    same_rows (offset_rows (take a.sends a.sent)) xs
    && same_rows (delivery_rows (take a.deliveries a.delivered)) ds
    && same (take a.drops a.dropped) ks

same? : Bool → Bool → Bool
same? true b = b
same? false b = not b

-- the same number with the same sign
same_signed : ℤ → ℤ → Bool
same_signed (pos m) (pos n) = eqb m n
same_signed (pos m) (negsuc n) = false
same_signed (negsuc m) (pos n) = false
same_signed (negsuc m) (negsuc n) = eqb m n

fault_is : Fault → ℕ → ℕ → ℕ → Bool
fault_is f n l d = eqb (refusal_number f.refusal) n && eqb f.line l && eqb f.field d

holds : List ℕ → Reading → FlowSet → Claim → Bool
holds text r s (refused n l d) = fault_is r.fault n l d
holds text r s written = same (text_of s) text
holds text r s (basics bs) = same (list_to (λ k. (bounds_of s k).basic) s.count) bs
holds text r s (tights bs) = same (list_to (λ k. (bounds_of s k).tightened) s.count) bs
holds text r s (verdict b t) = same? (verdict_of s).basic b && same? (verdict_of s).tightened t
holds text r s (rounds n) = eqb (verdict_of s).rounds n
holds text r s (margin k m) = same_signed (bounds_of s k).margin m
holds text r s (sends n xs) = same_rows (send_rows_to s n) xs
holds text r s (flows_in t ks) = same (flows_of (sends_at s (run_of s t).last)) ks
holds text r s (drops t ks) = same (filter_to (dropped_at s (run_of s t).last) s.count) ks
holds text r s (plan p) = same (text_of_plan text) (bytes_of p)
holds text r s (verdict_c ns) = same (verdict_row (verdict_for_c text)) ns
holds text r s (bounds_c k ns m) = same (bounds_answer_row (bounds_for_c text k)) ns && same_signed (bounds_for_c text k).margin m
holds text r s (slot_c st b ns st' b') =
    same (slot_row (slot_for_c text (pad state_length st) (length (bytes b)))) ns
    && same (slot_state r (pad state_length st) (length (bytes b))) (pad state_length st')
    && same (slot_buffer r (pad state_length st) (bytes b)) (bytes b')
holds text r s (table_c b ns b') = same (table_row (all_bounds_for_c text (length b))) ns && same (table_after r b) b'
holds text r s (bad_length n ns) = same (slot_row (slot_for_c text (replicate n 0) 0)) ns
holds text r s (report t xs ds ks) = report_holds (step_of s (run_of s t).last) xs ds ks
holds text r s (line_of_flow k l n d) = eqb (refusal_number (flow_line_fault k (bytes l))) n && eqb (flow_line_field k (bytes l)) d
holds text r s (copies n f l) = fault_is (record_fault (used (record { map = s.map; count = n; flows = replicate n (flow_at s 0) }))) f l 0
holds text r s (writes b ns b') = same (written_row (write_answer s (length (bytes b)))) ns && same (write_into s (bytes b)) (bytes b')
holds text r s (plan_of_zeros n p) = same (text_of_plan (replicate n 0)) (bytes p)
holds text r s (loads h xs) = eqb (hyper s) h && same_rows (superframe s) xs
holds text r s (loads_to n xs) = same_rows (rows_to s n) xs
holds text r s (loading n h) = fault_is (size_fault s) n 0 0 && eqb (hyper s) h
holds text r s (load_c b ns b') = same (frame_row (superframe_for_c text (length b))) ns && same (superframe_after r b) b'
holds text r s (size_c ns) = same (frame_row (size_for_c text)) ns
holds text r s (frame p) = same (superframe_text text) (bytes_of p)
holds text r s (channel_c t o c) = eqb (channel_for_c s.map.0 t o) c
holds text r s (channel_of m c) = eqb (channel_for_c m 0 0) c
holds text r s (lines_c t b ns b') = same (lines_row (write_table_for_c t (length (bytes b)))) ns && same (write_table_into t (bytes b)) (bytes b')
holds text r s (fixed_bounds bs js) =
    same (list_to (λ k. (fixed_bounds_of s k).bound) s.count) bs && same (list_to (λ k. bit (fixed_bounds_of s k).judged) s.count) js
holds text r s (fixed_verdict a n) = same? (fixed_verdict_of s).admitted a && eqb (fixed_verdict_of s).judged n
holds text r s (fixed_report t xs ds ks) = report_holds (fixed_step s (fixed_run s t).last) xs ds ks
holds text r s (fixed_plan p) = same (fixed_text text) (bytes_of p)
holds text r s (fixed_verdict_c ns) = same (fixed_verdict_row (fixed_verdict_for_c text)) ns
holds text r s (fixed_bounds_c k ns) = same (fixed_bounds_row (fixed_bounds_for_c text k)) ns
holds text r s (fixed_slot_c st b ns st' b') =
    same (slot_row (fixed_slot_for_c text (pad state_length st) (length (bytes b)))) ns
    && same (slot_state_with lower r (pad state_length st) (length (bytes b))) (pad state_length st')
    && same (slot_buffer_with lower r (pad state_length st) (bytes b)) (bytes b')
holds text r s (rows_c l b ns b') = same (rows_row (read_table_for_c (bytes l) (length b))) ns && same (read_table_into (bytes l) b) b'

all_hold : List ℕ → Reading → List Claim → Bool
all_hold text r [] = true
all_hold text r (c ∷ cs) = holds text r (used r.set) c && all_hold text r cs

pub record Point : Type 0 where
  text : string.String
  claims : List Claim

point : string.String → List Claim → Point
point t cs = record { text = t; claims = cs }

pub every : List Point → Bool
every [] = true
every (p ∷ ps) = all_hold (bytes p.text) (read_text (bytes p.text)) p.claims && every ps

-- P1 to P11
pub points : List Point
points =
    point "set\t3\nflow\t10\t8\t0\t1\t1\t2\t3\nflow\t20\t20\t0\t1\t4\t2\t5\n"
    (refused 0 0 0
    ∷ written
    ∷ basics (4 ∷ 6 ∷ [])
    ∷ tights (2 ∷ 6 ∷ [])
    ∷ verdict true true
    ∷ rounds 3
    ∷ margin 0 (pos 6)
    ∷ margin 1 (pos 14)
    ∷ sends 12
    ((0 ∷ 0 ∷ 1 ∷ 2 ∷ 0 ∷ 11 ∷ [])
    ∷ (1 ∷ 0 ∷ 2 ∷ 3 ∷ 0 ∷ 12 ∷ [])
    ∷ (2 ∷ 1 ∷ 4 ∷ 2 ∷ 0 ∷ 11 ∷ [])
    ∷ (3 ∷ 1 ∷ 2 ∷ 5 ∷ 0 ∷ 12 ∷ [])
    ∷ (10 ∷ 0 ∷ 1 ∷ 2 ∷ 0 ∷ 11 ∷ [])
    ∷ (11 ∷ 0 ∷ 2 ∷ 3 ∷ 0 ∷ 12 ∷ [])
    ∷ []
    )
    ∷ plan
    ("verdict\t1\t1\t3\n"
    ∷ "bound\t0\t2\t4\t2\t8\t6\n"
    ∷ "bound\t1\t2\t6\t6\t20\t14\n"
    ∷ "send\t0\t0\t1\t2\t0\t11\n"
    ∷ "send\t1\t0\t2\t3\t0\t12\n"
    ∷ "send\t2\t1\t4\t2\t0\t11\n"
    ∷ "send\t3\t1\t2\t5\t0\t12\n"
    ∷ "send\t10\t0\t1\t2\t0\t11\n"
    ∷ "send\t11\t0\t2\t3\t0\t12\n"
    ∷ []
    )
    ∷ []
    )
    ∷ point "set\t3\nflow\t10\t3\t0\t1\t1\t2\t3\nflow\t20\t20\t0\t1\t4\t2\t5\n"
    (refused 0 0 0
    ∷ written
    ∷ basics (4 ∷ 6 ∷ [])
    ∷ tights (2 ∷ 6 ∷ [])
    ∷ verdict false true
    ∷ []
    )
    ∷ point "set\t15\nflow\t10\t1\t0\t1\t1\t2\nflow\t10\t1\t0\t1\t3\t4\nflow\t10\t1\t0\t1\t5\t6\nflow\t10\t1\t0\t1\t7\t8\nflow\t10\t1\t0\t1\t9\t10\n"
    (refused 0 0 0
    ∷ written
    ∷ basics (2 ∷ 2 ∷ 2 ∷ 2 ∷ 2 ∷ [])
    ∷ tights (2 ∷ 2 ∷ 2 ∷ 2 ∷ 2 ∷ [])
    ∷ verdict false false
    ∷ margin 0 (negsuc 0)
    ∷ margin 1 (negsuc 0)
    ∷ margin 2 (negsuc 0)
    ∷ margin 3 (negsuc 0)
    ∷ margin 4 (negsuc 0)
    ∷ flows_in 0 (0 ∷ 1 ∷ 2 ∷ 3 ∷ [])
    ∷ drops 0 (4 ∷ [])
    ∷ []
    )
    ∷ point "set\t15\nflow\t10\t1\t0\t1\t1\t2\nflow\t10\t1\t0\t1\t3\t4\nflow\t10\t1\t0\t1\t5\t6\nflow\t10\t1\t0\t1\t7\t8\n"
    (refused 0 0 0
    ∷ written
    ∷ basics (1 ∷ 1 ∷ 1 ∷ 1 ∷ [])
    ∷ tights (1 ∷ 1 ∷ 1 ∷ 1 ∷ [])
    ∷ verdict true true
    ∷ []
    )
    ∷ point "set\t1\nflow\t10\t2\t0\t1\t1\t2\nflow\t10\t2\t0\t1\t3\t4\n"
    (refused 0 0 0
    ∷ written
    ∷ basics (2 ∷ 2 ∷ [])
    ∷ tights (2 ∷ 2 ∷ [])
    ∷ verdict true true
    ∷ flows_in 0 (0 ∷ [])
    ∷ flows_in 1 (1 ∷ [])
    ∷ []
    )
    ∷ point "set\t1\nflow\t10\t2\t0\t1\t1\t2\nflow\t10\t2\t0\t1\t3\t4\nflow\t10\t2\t0\t1\t5\t6\n"
    (refused 0 0 0
    ∷ written
    ∷ basics (3 ∷ 3 ∷ 3 ∷ [])
    ∷ tights (3 ∷ 3 ∷ 3 ∷ [])
    ∷ verdict false false
    ∷ []
    )
    ∷ point "set\t3\nflow\t10\t10\t0\t1\t1\t2\nflow\t10\t10\t0\t1\t2\t3\nflow\t10\t10\t0\t1\t4\t5\n"
    (refused 0 0 0
    ∷ written
    ∷ basics (2 ∷ 2 ∷ 2 ∷ [])
    ∷ tights (2 ∷ 2 ∷ 2 ∷ [])
    ∷ verdict true true
    ∷ flows_in 0 (0 ∷ 2 ∷ [])
    ∷ flows_in 1 (1 ∷ [])
    ∷ []
    )
    ∷ point "set\t1\nflow\t10\t4\t0\t2\t1\t2\t3\n"
    (refused 0 0 0
    ∷ written
    ∷ sends 4
    ((0 ∷ 0 ∷ 1 ∷ 2 ∷ 0 ∷ 11 ∷ [])
    ∷ (1 ∷ 0 ∷ 1 ∷ 2 ∷ 1 ∷ 11 ∷ [])
    ∷ (2 ∷ 0 ∷ 2 ∷ 3 ∷ 0 ∷ 11 ∷ [])
    ∷ (3 ∷ 0 ∷ 2 ∷ 3 ∷ 1 ∷ 11 ∷ [])
    ∷ []
    )
    ∷ []
    )
    ∷ point "set\t1\nflow\t10\t3\t0\t2\t1\t2\t3\n"
    (refused 9 2 0
    ∷ []
    )
    ∷ point "set\t0\n"
    (refused 2 1 2
    ∷ []
    )
    ∷ point "set\t1\nflow\t10\t4\t0\t2\t1\t2\t1\n"
    (refused 0 0 0
    ∷ written
    ∷ basics (4 ∷ [])
    ∷ tights (4 ∷ [])
    ∷ verdict true true
    ∷ rounds 1
    ∷ margin 0 (pos 0)
    ∷ sends 4
    ((0 ∷ 0 ∷ 1 ∷ 2 ∷ 0 ∷ 11 ∷ [])
    ∷ (1 ∷ 0 ∷ 1 ∷ 2 ∷ 1 ∷ 11 ∷ [])
    ∷ (2 ∷ 0 ∷ 2 ∷ 1 ∷ 0 ∷ 11 ∷ [])
    ∷ (3 ∷ 0 ∷ 2 ∷ 1 ∷ 1 ∷ 11 ∷ [])
    ∷ []
    )
    ∷ bounds_c 0 (0 ∷ 0 ∷ 0 ∷ 4 ∷ 4 ∷ 4 ∷ 4 ∷ []) (pos 0)
    ∷ []
    )
    -- request 1: a loop beside another flow; a link that stands twice counts twice; 16 links between two nodes; equal neighbours, first and last
    ∷ point "set\t3\nflow\t20\t20\t0\t1\t1\t2\t3\t2\t1\nflow\t20\t20\t0\t1\t4\t2\n"
    (refused 0 0 0
    ∷ written
    ∷ basics (5 ∷ 5 ∷ [])
    ∷ tights (5 ∷ 5 ∷ [])
    ∷ verdict true true
    ∷ rounds 2
    ∷ sends 5
    ((0 ∷ 0 ∷ 1 ∷ 2 ∷ 0 ∷ 11 ∷ [])
    ∷ (1 ∷ 0 ∷ 2 ∷ 3 ∷ 0 ∷ 12 ∷ [])
    ∷ (2 ∷ 0 ∷ 3 ∷ 2 ∷ 0 ∷ 11 ∷ [])
    ∷ (3 ∷ 0 ∷ 2 ∷ 1 ∷ 0 ∷ 12 ∷ [])
    ∷ (4 ∷ 1 ∷ 4 ∷ 2 ∷ 0 ∷ 11 ∷ [])
    ∷ []
    )
    ∷ bounds_c 0 (0 ∷ 0 ∷ 0 ∷ 4 ∷ 5 ∷ 5 ∷ 20 ∷ []) (pos 15)
    ∷ bounds_c 1 (0 ∷ 0 ∷ 0 ∷ 1 ∷ 5 ∷ 5 ∷ 20 ∷ []) (pos 15)
    ∷ []
    )
    ∷ point "set\t3\nflow\t10\t6\t0\t1\t1\t2\t1\t2\nflow\t10\t10\t0\t1\t2\t9\n"
    (refused 0 0 0
    ∷ written
    ∷ basics (4 ∷ 4 ∷ [])
    ∷ tights (3 ∷ 4 ∷ [])
    ∷ verdict true true
    ∷ rounds 3
    ∷ report 3 ((3 ∷ 1 ∷ 2 ∷ 9 ∷ 0 ∷ 0 ∷ 12 ∷ []) ∷ []) ((1 ∷ 4 ∷ []) ∷ []) []
    ∷ []
    )
    ∷ point "set\t1\nflow\t64\t64\t0\t4\t1\t2\t1\t2\t1\t2\t1\t2\t1\t2\t1\t2\t1\t2\t1\t2\t1\n"
    (refused 0 0 0
    ∷ written
    ∷ verdict true true
    ∷ bounds_c 0 (0 ∷ 0 ∷ 0 ∷ 64 ∷ 64 ∷ 64 ∷ 64 ∷ []) (pos 0)
    ∷ []
    )
    ∷ point "set\t1\nflow\t10\t4\t0\t2\t1\t1\t2\n"
    (refused 8 2 7
    ∷ []
    )
    ∷ point "set\t1\nflow\t10\t4\t0\t2\t1\t2\t2\n"
    (refused 8 2 8
    ∷ []
    )
    -- ours: P3 and P10 as C is answered
    ∷ point "set\t15\nflow\t10\t1\t0\t1\t1\t2\nflow\t10\t1\t0\t1\t3\t4\nflow\t10\t1\t0\t1\t5\t6\nflow\t10\t1\t0\t1\t7\t8\nflow\t10\t1\t0\t1\t9\t10\n"
    (verdict_c (0 ∷ 0 ∷ 0 ∷ 0 ∷ 0 ∷ 1 ∷ [])
    ∷ bounds_c 4 (0 ∷ 0 ∷ 0 ∷ 1 ∷ 2 ∷ 2 ∷ 1 ∷ []) (negsuc 0)
    ∷ bounds_c 5 (13 ∷ 0 ∷ 0 ∷ 0 ∷ 0 ∷ 0 ∷ 0 ∷ []) (pos 0)
    ∷ []
    )
    ∷ point "set\t0\n"
    (verdict_c (2 ∷ 1 ∷ 2 ∷ 0 ∷ 0 ∷ 0 ∷ [])
    ∷ bounds_c 0 (2 ∷ 1 ∷ 2 ∷ 0 ∷ 0 ∷ 0 ∷ 0 ∷ []) (pos 0)
    ∷ bad_length 67 (2 ∷ 1 ∷ 2 ∷ 0 ∷ [])
    ∷ size_c (2 ∷ 1 ∷ 2 ∷ 0 ∷ 0 ∷ [])
    ∷ table_c (9 ∷ []) (2 ∷ 1 ∷ 2 ∷ 0 ∷ []) (9 ∷ [])
    ∷ writes "......" (2 ∷ 1 ∷ 0 ∷ 0 ∷ []) "......"
    ∷ plan ("refused\t2\t1\t2\n" ∷ [])
    ∷ []
    )
    -- ours: starts, a map with a gap, tries beside other flows, offsets, deliveries and their delays, a negative margin
    ∷ point "set\t5\nflow\t11\t11\t2\t2\t4\t1\t2\nflow\t9\t4\t5\t1\t1\t2\t3\nflow\t12\t6\t1\t3\t8\t9\n"
    (refused 0 0 0
    ∷ written
    ∷ basics (9 ∷ 7 ∷ 6 ∷ [])
    ∷ tights (9 ∷ 5 ∷ 6 ∷ [])
    ∷ verdict false false
    ∷ rounds 2
    ∷ margin 1 (negsuc 0)
    ∷ report 0 [] [] []
    ∷ report 3 ((3 ∷ 2 ∷ 8 ∷ 9 ∷ 2 ∷ 0 ∷ 13 ∷ []) ∷ (3 ∷ 0 ∷ 4 ∷ 1 ∷ 1 ∷ 1 ∷ 11 ∷ []) ∷ []) ((2 ∷ 3 ∷ []) ∷ []) []
    ∷ report 15
    ((15 ∷ 1 ∷ 2 ∷ 3 ∷ 0 ∷ 0 ∷ 13 ∷ []) ∷ (15 ∷ 2 ∷ 8 ∷ 9 ∷ 2 ∷ 1 ∷ 11 ∷ []) ∷ [])
    ((1 ∷ 2 ∷ []) ∷ (2 ∷ 3 ∷ []) ∷ [])
    []
    ∷ plan
    ("verdict\t0\t0\t2\n"
    ∷ "bound\t0\t4\t9\t9\t11\t2\n"
    ∷ "bound\t1\t2\t7\t5\t4\t-1\n"
    ∷ "bound\t2\t3\t6\t6\t6\t0\n"
    ∷ "send\t1\t2\t8\t9\t0\t13\n"
    ∷ "send\t2\t2\t8\t9\t1\t11\n"
    ∷ "send\t2\t0\t4\t1\t0\t13\n"
    ∷ "send\t3\t2\t8\t9\t2\t13\n"
    ∷ "send\t3\t0\t4\t1\t1\t11\n"
    ∷ "send\t4\t0\t1\t2\t0\t11\n"
    ∷ "send\t5\t1\t1\t2\t0\t13\n"
    ∷ "send\t6\t1\t2\t3\t0\t11\n"
    ∷ "send\t7\t0\t1\t2\t1\t13\n"
    ∷ []
    )
    ∷ []
    )
    -- ours: rounds that used old entries would be six
    ∷ point "set\t1\nflow\t11\t11\t0\t2\t4\t1\t2\nflow\t9\t4\t0\t1\t1\t2\t3\n"
    (basics (8 ∷ 6 ∷ [])
    ∷ tights (6 ∷ 2 ∷ [])
    ∷ verdict false true
    ∷ rounds 4
    ∷ []
    )
    -- ours: no flows; the refusals of a flow's line; input that is too long
    ∷ point "set\t1\n"
    (verdict true true
    ∷ rounds 1
    ∷ writes "......" (0 ∷ 0 ∷ 0 ∷ 6 ∷ []) "set\t1\n"
    ∷ writes "........" (0 ∷ 0 ∷ 0 ∷ 6 ∷ []) "set\t1\n.."
    ∷ writes "....." (10 ∷ 0 ∷ 0 ∷ 0 ∷ []) "....."
    ∷ line_of_flow 63 "flow\t10\t1\t0\t1\t1\t2\n" 0 0
    ∷ line_of_flow 64 "flow\t10\t1\t0\t1\t1\t2\n" 3 1
    ∷ line_of_flow 64 "flow\t0\t1\t0\t1\t1\t2\n" 3 1
    ∷ line_of_flow 64 "flow\t0\t1\t0\t1\t1\t2" 1 0
    ∷ line_of_flow 0 "flow\t0\t0\t0\t0\n" 4 2
    ∷ line_of_flow 0 "flow\t10\t0\t0\t0\n" 5 3
    ∷ line_of_flow 0 "flow\t10\t11\t0\t1\t1\t2\n" 5 3
    ∷ line_of_flow 0 "flow\t10\t10\t0\t0\n" 6 5
    ∷ line_of_flow 0 "flow\t10\t10\t0\t5\t1\t2\n" 6 5
    ∷ line_of_flow 0 "flow\t10\t10\t0\t4\t1\t2\n" 0 0
    ∷ line_of_flow 0 "flow\t10\t10\t0\t1\n" 7 0
    ∷ line_of_flow 0 "flow\t10\t10\t0\n" 1 0
    ∷ line_of_flow 0 "flow\t10\t10\t0\t1\t1\n" 7 0
    ∷ line_of_flow 0 "flow\t16\t16\t0\t1\t0\t1\t2\t3\t4\t5\t6\t7\t8\t9\t10\t11\t12\t13\t14\t15\t16\n" 0 0
    ∷ line_of_flow 0 "flow\t16\t16\t0\t1\t0\t1\t2\t3\t4\t5\t6\t7\t8\t9\t10\t11\t12\t13\t14\t15\t16\t16\n" 7 0
    ∷ line_of_flow 0 "flow\t10\t4\t0\t1\t1\t0\n" 0 0
    ∷ line_of_flow 0 "flow\t10\t4\t0\t1\t0\t0\n" 8 7
    ∷ line_of_flow 0 "flow\t10\t1\t0\t1\t1\t2\t2\n" 8 8
    ∷ line_of_flow 0 "flow\t64\t63\t0\t4\t1\t2\t1\t2\t1\t2\t1\t2\t1\t2\t1\t2\t1\t2\t1\t2\t1\n" 9 0
    ∷ line_of_flow 0 "flow\t64\t64\t0\t4\t1\t2\t1\t2\t1\t2\t1\t2\t1\t2\t1\t2\t1\t2\t1\t2\t1\t1\n" 7 0
    ∷ plan_of_zeros 16384 "refused\t1\t1\t1\n"
    ∷ plan_of_zeros 16385 "refused\t10\t0\t0\n"
    ∷ []
    )
    -- ours: P1 slot by slot for C, with the refusals 10 to 12; and records of many flows
    ∷ point "set\t3\nflow\t10\t8\t0\t1\t1\t2\t3\nflow\t20\t20\t0\t1\t4\t2\t5\n"
    (slot_c [] "......................" (0 ∷ 0 ∷ 0 ∷ 18 ∷ []) (1 ∷ 0 ∷ 0 ∷ 0 ∷ 1 ∷ []) "send\t0\t0\t1\t2\t0\t11\n...."
    ∷ slot_c [] "................." (10 ∷ 0 ∷ 0 ∷ 0 ∷ []) [] "................."
    ∷ slot_c (2 ∷ 1 ∷ 0 ∷ 0 ∷ 2 ∷ 1 ∷ []) "...................." (0 ∷ 0 ∷ 0 ∷ 20 ∷ []) (3 ∷ 1 ∷ 0 ∷ 0 ∷ 2 ∷ 2 ∷ [])
    "send\t258\t1\t2\t5\t0\t11\n"
    ∷ slot_c (255 ∷ 39 ∷ 107 ∷ 238 ∷ 2 ∷ 2 ∷ []) "." (0 ∷ 0 ∷ 0 ∷ 0 ∷ []) (0 ∷ 40 ∷ 107 ∷ 238 ∷ 2 ∷ 2 ∷ []) "."
    ∷ slot_c (0 ∷ 40 ∷ 107 ∷ 238 ∷ 2 ∷ 2 ∷ []) "." (11 ∷ 0 ∷ 0 ∷ 0 ∷ []) (0 ∷ 40 ∷ 107 ∷ 238 ∷ 2 ∷ 2 ∷ []) "."
    ∷ slot_c (0 ∷ 40 ∷ 107 ∷ 238 ∷ 3 ∷ 2 ∷ []) "." (12 ∷ 0 ∷ 0 ∷ 0 ∷ []) (0 ∷ 40 ∷ 107 ∷ 238 ∷ 3 ∷ 2 ∷ []) "."
    ∷ slot_c (1 ∷ 40 ∷ 107 ∷ 238 ∷ 2 ∷ 2 ∷ []) "." (12 ∷ 0 ∷ 0 ∷ 0 ∷ []) (1 ∷ 40 ∷ 107 ∷ 238 ∷ 2 ∷ 2 ∷ []) "."
    ∷ slot_c (0 ∷ 0 ∷ 0 ∷ 0 ∷ 0 ∷ 0 ∷ 1 ∷ []) "" (12 ∷ 0 ∷ 0 ∷ 0 ∷ []) (0 ∷ 0 ∷ 0 ∷ 0 ∷ 0 ∷ 0 ∷ 1 ∷ []) ""
    ∷ bad_length 67 (12 ∷ 0 ∷ 0 ∷ 0 ∷ [])
    ∷ bad_length 69 (12 ∷ 0 ∷ 0 ∷ 0 ∷ [])
    ∷ table_c (9 ∷ 9 ∷ 9 ∷ 9 ∷ 9 ∷ 9 ∷ 9 ∷ 9 ∷ 9 ∷ []) (0 ∷ 0 ∷ 0 ∷ 8 ∷ []) (2 ∷ 4 ∷ 2 ∷ 8 ∷ 2 ∷ 6 ∷ 6 ∷ 20 ∷ 9 ∷ [])
    ∷ table_c (9 ∷ 9 ∷ 9 ∷ 9 ∷ 9 ∷ 9 ∷ 9 ∷ []) (10 ∷ 0 ∷ 0 ∷ 0 ∷ []) (9 ∷ 9 ∷ 9 ∷ 9 ∷ 9 ∷ 9 ∷ 9 ∷ [])
    ∷ copies 64 0 0
    ∷ copies 65 3 66
    ∷ []
    )
    -- request 2: P1 with its lines; rooms; lines written and read
    ∷ point "set\t3\nflow\t10\t8\t0\t1\t1\t2\t3\nflow\t20\t20\t0\t1\t4\t2\t5\n"
    (loads 20
    ((0 ∷ 0 ∷ 0 ∷ 0 ∷ [])
    ∷ (1 ∷ 0 ∷ 1 ∷ 0 ∷ [])
    ∷ (2 ∷ 1 ∷ 0 ∷ 0 ∷ [])
    ∷ (3 ∷ 1 ∷ 1 ∷ 0 ∷ [])
    ∷ (10 ∷ 0 ∷ 0 ∷ 0 ∷ [])
    ∷ (11 ∷ 0 ∷ 1 ∷ 0 ∷ [])
    ∷ []
    )
    ∷ loading 0 20
    ∷ lines_c
    (0 ∷ 0 ∷ 0 ∷ 0 ∷ 1 ∷ 0 ∷ 1 ∷ 0 ∷ 2 ∷ 1 ∷ 0 ∷ 0 ∷ 3 ∷ 1 ∷ 1 ∷ 0 ∷ 10 ∷ 0 ∷ 0 ∷ 0 ∷ 11 ∷ 0 ∷ 1 ∷ 0 ∷ [])
    ".................................................."
    (0 ∷ 0 ∷ 50 ∷ [])
    "0\t0\t0\t0\n1\t0\t1\t0\n2\t1\t0\t0\n3\t1\t1\t0\n10\t0\t0\t0\n11\t0\t1\t0\n"
    ∷ lines_c (0 ∷ 2 ∷ 0 ∷ 1 ∷ 65535 ∷ 0 ∷ 10 ∷ 0 ∷ 7 ∷ 7 ∷ 7 ∷ []) "....................." (0 ∷ 0 ∷ 21 ∷ []) "0\t2\t0\t1\n65535\t0\t10\t0\n"
    ∷ lines_c (0 ∷ 2 ∷ 0 ∷ 1 ∷ 65535 ∷ 0 ∷ 10 ∷ 0 ∷ 7 ∷ 7 ∷ 7 ∷ []) "...................." (10 ∷ 0 ∷ 0 ∷ []) "...................."
    ∷ lines_c (3 ∷ 3 ∷ 3 ∷ 3 ∷ 3 ∷ 3 ∷ 3 ∷ 3 ∷ []) ".................." (0 ∷ 0 ∷ 16 ∷ []) "3\t3\t3\t3\n3\t3\t3\t3\n.."
    ∷ rows_c "0\t2\t0\t1\n65535\t0\t10\t0\n" (9 ∷ 9 ∷ 9 ∷ 9 ∷ 9 ∷ 9 ∷ 9 ∷ 9 ∷ 9 ∷ []) (0 ∷ 0 ∷ 8 ∷ []) (0 ∷ 2 ∷ 0 ∷ 1 ∷ 65535 ∷ 0 ∷ 10 ∷ 0 ∷ 9 ∷ [])
    ∷ rows_c "0\t2\t0\t1\n65535\t0\t10\t0\n" (9 ∷ 9 ∷ 9 ∷ 9 ∷ 9 ∷ 9 ∷ 9 ∷ []) (10 ∷ 0 ∷ 0 ∷ []) (9 ∷ 9 ∷ 9 ∷ 9 ∷ 9 ∷ 9 ∷ 9 ∷ [])
    ∷ rows_c "" [] (0 ∷ 0 ∷ 0 ∷ []) []
    ∷ rows_c
    "0\t0\t0\t1\n0\t0\t0\t2\n1\t0\t0\t0\n"
    (9 ∷ 9 ∷ 9 ∷ 9 ∷ 9 ∷ 9 ∷ 9 ∷ 9 ∷ 9 ∷ 9 ∷ 9 ∷ 9 ∷ [])
    (0 ∷ 0 ∷ 12 ∷ [])
    (0 ∷ 0 ∷ 0 ∷ 1 ∷ 0 ∷ 0 ∷ 0 ∷ 2 ∷ 1 ∷ 0 ∷ 0 ∷ 0 ∷ [])
    ∷ rows_c "0\t0\t0\t1\n0\t1\t1\t1\n" (9 ∷ 9 ∷ 9 ∷ 9 ∷ 9 ∷ 9 ∷ 9 ∷ 9 ∷ []) (1 ∷ 2 ∷ 0 ∷ []) (9 ∷ 9 ∷ 9 ∷ 9 ∷ 9 ∷ 9 ∷ 9 ∷ 9 ∷ [])
    ∷ rows_c "1\t0\t0\t1\n0\t1\t1\t2\n" (9 ∷ 9 ∷ 9 ∷ 9 ∷ 9 ∷ 9 ∷ 9 ∷ 9 ∷ []) (1 ∷ 2 ∷ 0 ∷ []) (9 ∷ 9 ∷ 9 ∷ 9 ∷ 9 ∷ 9 ∷ 9 ∷ 9 ∷ [])
    ∷ rows_c "0\t0\t0\t1\n0\t0\t0\n" [] (1 ∷ 2 ∷ 0 ∷ []) []
    ∷ rows_c "0\t0\t0\t0\t0\n" [] (1 ∷ 1 ∷ 0 ∷ []) []
    ∷ rows_c "0\t0\t0\t65536\n" [] (1 ∷ 1 ∷ 0 ∷ []) []
    ∷ rows_c "0\t0\t0\t0\t\n" [] (1 ∷ 1 ∷ 0 ∷ []) []
    ∷ rows_c "0\t0\t0\t0" [] (1 ∷ 1 ∷ 0 ∷ []) []
    ∷ rows_c "\n" [] (1 ∷ 1 ∷ 0 ∷ []) []
    ∷ channel_of 65535 11
    ∷ channel_of 65536 0
    ∷ channel_of 65537 0
    ∷ channel_of 0 0
    ∷ []
    )
    -- request 2: only the tightened test admits P2
    ∷ point "set\t3\nflow\t10\t3\t0\t1\t1\t2\t3\nflow\t20\t20\t0\t1\t4\t2\t5\n"
    (loads_to 12
    ((0 ∷ 0 ∷ 0 ∷ 0 ∷ [])
    ∷ (1 ∷ 0 ∷ 1 ∷ 0 ∷ [])
    ∷ (2 ∷ 1 ∷ 0 ∷ 0 ∷ [])
    ∷ (3 ∷ 1 ∷ 1 ∷ 0 ∷ [])
    ∷ (10 ∷ 0 ∷ 0 ∷ 0 ∷ [])
    ∷ (11 ∷ 0 ∷ 1 ∷ 0 ∷ [])
    ∷ []
    )
    ∷ loading 0 20
    ∷ []
    )
    -- request 2: neither admits P3, whatever its starts and periods
    ∷ point "set\t15\nflow\t10\t1\t0\t1\t1\t2\nflow\t10\t1\t0\t1\t3\t4\nflow\t10\t1\t0\t1\t5\t6\nflow\t10\t1\t0\t1\t7\t8\nflow\t10\t1\t0\t1\t9\t10\n"
    (size_c (14 ∷ 0 ∷ 0 ∷ 0 ∷ 0 ∷ [])
    ∷ frame ("refused\t14\t0\t0\n" ∷ [])
    ∷ []
    )
    ∷ point "set\t15\nflow\t10\t1\t3\t1\t1\t2\nflow\t65535\t1\t0\t1\t3\t4\nflow\t10\t1\t0\t1\t5\t6\nflow\t10\t1\t0\t1\t7\t8\nflow\t10\t1\t0\t1\t9\t10\n"
    (size_c (14 ∷ 0 ∷ 0 ∷ 0 ∷ 0 ∷ [])
    ∷ []
    )
    -- request 2: P7
    ∷ point "set\t3\nflow\t10\t10\t0\t1\t1\t2\nflow\t10\t10\t0\t1\t2\t3\nflow\t10\t10\t0\t1\t4\t5\n"
    (loads 10
    ((0 ∷ 0 ∷ 0 ∷ 0 ∷ [])
    ∷ (0 ∷ 2 ∷ 0 ∷ 1 ∷ [])
    ∷ (1 ∷ 1 ∷ 0 ∷ 0 ∷ [])
    ∷ []
    )
    ∷ []
    )
    -- request 2: F1, whose hyper-period is not the product of the periods
    ∷ point "set\t7\nflow\t4\t4\t0\t1\t1\t2\nflow\t6\t6\t0\t2\t2\t3\n"
    (loads 12
    ((0 ∷ 0 ∷ 0 ∷ 0 ∷ [])
    ∷ (1 ∷ 1 ∷ 0 ∷ 0 ∷ [])
    ∷ (2 ∷ 1 ∷ 1 ∷ 0 ∷ [])
    ∷ (4 ∷ 0 ∷ 0 ∷ 0 ∷ [])
    ∷ (6 ∷ 1 ∷ 0 ∷ 0 ∷ [])
    ∷ (7 ∷ 1 ∷ 1 ∷ 0 ∷ [])
    ∷ (8 ∷ 0 ∷ 0 ∷ 0 ∷ [])
    ∷ []
    )
    ∷ []
    )
    -- request 2: F2, P1 with three channels: each time the table comes round, its slots have other channels
    ∷ point "set\t7\nflow\t10\t8\t0\t1\t1\t2\t3\nflow\t20\t20\t0\t1\t4\t2\t5\n"
    (loads_to 12
    ((0 ∷ 0 ∷ 0 ∷ 0 ∷ [])
    ∷ (1 ∷ 0 ∷ 1 ∷ 0 ∷ [])
    ∷ (2 ∷ 1 ∷ 0 ∷ 0 ∷ [])
    ∷ (3 ∷ 1 ∷ 1 ∷ 0 ∷ [])
    ∷ (10 ∷ 0 ∷ 0 ∷ 0 ∷ [])
    ∷ (11 ∷ 0 ∷ 1 ∷ 0 ∷ [])
    ∷ []
    )
    ∷ loading 0 20
    ∷ channel_c 0 0 11
    ∷ channel_c 20 0 13
    ∷ channel_c 40 0 12
    ∷ channel_c 60 0 11
    ∷ []
    )
    -- request 2: rooms on either side of a table of one row
    ∷ point "set\t1\nflow\t2\t2\t0\t1\t1\t2\n"
    (size_c (0 ∷ 0 ∷ 0 ∷ 2 ∷ 4 ∷ [])
    ∷ frame ("0\t0\t0\t0\n" ∷ [])
    ∷ load_c (9 ∷ 9 ∷ 9 ∷ 9 ∷ []) (0 ∷ 0 ∷ 0 ∷ 2 ∷ 4 ∷ []) (0 ∷ 0 ∷ 0 ∷ 0 ∷ [])
    ∷ load_c (9 ∷ 9 ∷ 9 ∷ 9 ∷ 9 ∷ 9 ∷ 9 ∷ []) (0 ∷ 0 ∷ 0 ∷ 2 ∷ 4 ∷ []) (0 ∷ 0 ∷ 0 ∷ 0 ∷ 9 ∷ 9 ∷ 9 ∷ [])
    ∷ load_c (9 ∷ 9 ∷ 9 ∷ []) (10 ∷ 0 ∷ 0 ∷ 0 ∷ 0 ∷ []) (9 ∷ 9 ∷ 9 ∷ [])
    ∷ []
    )
    -- request 2: no flows
    ∷ point "set\t1\n"
    (loads 1 []
    ∷ load_c [] (0 ∷ 0 ∷ 0 ∷ 1 ∷ 0 ∷ []) []
    ∷ frame []
    ∷ []
    )
    -- request 2: 15 before 16; the nearest hyper-periods on both sides of the limit
    ∷ point "set\t3\nflow\t65535\t400\t5\t1\t1\t2\t3\nflow\t2\t2\t0\t1\t8\t9\n"
    (size_c (15 ∷ 0 ∷ 0 ∷ 0 ∷ 0 ∷ [])
    ∷ []
    )
    ∷ point "set\t3\nflow\t65535\t400\t0\t1\t1\t2\t3\nflow\t2\t2\t0\t1\t8\t9\n"
    (loading 16 131070
    ∷ frame ("refused\t16\t0\t0\n" ∷ [])
    ∷ []
    )
    ∷ point "set\t3\nflow\t65535\t400\t0\t1\t1\t2\t3\nflow\t5\t5\t0\t1\t8\t9\n"
    (loading 0 65535
    ∷ []
    )
    ∷ point "set\t3\nflow\t32769\t400\t0\t1\t1\t2\t3\nflow\t2\t2\t0\t1\t8\t9\n"
    (loading 16 65538
    ∷ []
    )
    -- request 2: a start in the second flow; the reader's refusals come first
    ∷ point "set\t3\nflow\t10\t8\t0\t1\t1\t2\t3\nflow\t20\t20\t1\t1\t4\t2\t5\n"
    (size_c (15 ∷ 0 ∷ 0 ∷ 0 ∷ 0 ∷ [])
    ∷ load_c (9 ∷ []) (15 ∷ 0 ∷ 0 ∷ 0 ∷ 0 ∷ []) (9 ∷ [])
    ∷ []
    )
    ∷ point "set\t3\nflow\t10\t8\t5\t1\t1\t2\t2\n"
    (load_c (9 ∷ []) (8 ∷ 2 ∷ 8 ∷ 0 ∷ 0 ∷ []) (9 ∷ [])
    ∷ frame ("refused\t8\t2\t8\n" ∷ [])
    ∷ []
    )
    -- request 3: texts without a bad field, and the first bad field of others
    ∷ point ""
    (refused 1 1 0
    ∷ []
    )
    ∷ point "\n"
    (refused 1 1 1
    ∷ []
    )
    ∷ point "set"
    (refused 1 1 0
    ∷ []
    )
    ∷ point "set\tx\t4\n"
    (refused 1 1 2
    ∷ []
    )
    ∷ point "set\t3\t4\n"
    (refused 1 1 3
    ∷ []
    )
    ∷ point "set\t3\n\n"
    (refused 1 2 1
    ∷ []
    )
    ∷ point "set\t3\nflow\t10\t8\t0\t1\t1\t2"
    (refused 1 2 0
    ∷ []
    )
    ∷ point "set\t3\nflow\t10\t8\t0\t1\t1\t2\t1\t2\t1\t2\t1\t2\t1\t2\t1\t2\t1\t2\t1\t2\t1\t2\t1\t2\t1\t2\t1\t2\t1\t2\t1\t2\t1\t2\t1\t2\t1\t2\t1\t2\t1\t2\t1\t2\tx\n"
    (refused 1 2 46
    ∷ plan ("refused\t1\t2\t46\n" ∷ [])
    ∷ []
    )
    ∷ point "set\t3\nflow\t10\t8\t0\t1\t1\t2\t1\t2\t1\t2\t1\t2\t1\t2\t1\t2\t1\t2\t1\t2\t1\t2\t1\t2\t1\t2\t1\t2\t1\t2\t1\t2\t1\t2\t1\t2\t1\t2\t1\t2\t1\t2\t1\t2\n"
    (refused 7 2 0
    ∷ []
    )
    -- request 4: P1 and P5 with fixed priority; X1 and X2, the same two flows in either order; X3, flows after the first over its deadline; X4, where
    -- the bound of l counts; X5, where n is rounded up; no flows; what is refused
    ∷ point "set\t3\nflow\t10\t8\t0\t1\t1\t2\t3\nflow\t20\t20\t0\t1\t4\t2\t5\n"
    (fixed_bounds (2 ∷ 8 ∷ []) (1 ∷ 1 ∷ [])
    ∷ fixed_plan
    ("fixed\t1\t2\n"
    ∷ "bound\t0\t2\t2\t8\t1\n"
    ∷ "bound\t1\t2\t8\t20\t1\n"
    ∷ "send\t0\t0\t1\t2\t0\t11\n"
    ∷ "send\t1\t0\t2\t3\t0\t12\n"
    ∷ "send\t2\t1\t4\t2\t0\t11\n"
    ∷ "send\t3\t1\t2\t5\t0\t12\n"
    ∷ "send\t10\t0\t1\t2\t0\t11\n"
    ∷ "send\t11\t0\t2\t3\t0\t12\n"
    ∷ []
    )
    ∷ []
    )
    ∷ point "set\t1\nflow\t10\t2\t0\t1\t1\t2\nflow\t10\t2\t0\t1\t3\t4\n"
    (fixed_bounds (1 ∷ 2 ∷ []) (1 ∷ 1 ∷ [])
    ∷ fixed_verdict true 2
    ∷ []
    )
    ∷ point "set\t1\nflow\t10\t10\t0\t1\t1\t2\t3\nflow\t10\t2\t0\t1\t4\t5\n"
    (tights (3 ∷ 1 ∷ [])
    ∷ verdict false true
    ∷ fixed_bounds (2 ∷ 3 ∷ []) (1 ∷ 1 ∷ [])
    ∷ fixed_report 1 ((1 ∷ 0 ∷ 2 ∷ 3 ∷ 0 ∷ 0 ∷ 11 ∷ []) ∷ []) ((0 ∷ 2 ∷ []) ∷ []) (1 ∷ [])
    ∷ fixed_plan
    ("fixed\t0\t2\n"
    ∷ "bound\t0\t2\t2\t10\t1\n"
    ∷ "bound\t1\t1\t3\t2\t1\n"
    ∷ "send\t0\t0\t1\t2\t0\t11\n"
    ∷ "send\t1\t0\t2\t3\t0\t11\n"
    ∷ "send\t10\t0\t1\t2\t0\t11\n"
    ∷ "send\t11\t0\t2\t3\t0\t11\n"
    ∷ []
    )
    ∷ fixed_slot_c [] "...................." (0 ∷ 0 ∷ 0 ∷ 18 ∷ []) (1 ∷ 0 ∷ 0 ∷ 0 ∷ 1 ∷ []) "send\t0\t0\t1\t2\t0\t11\n.."
    ∷ fixed_slot_c [] "................." (10 ∷ 0 ∷ 0 ∷ 0 ∷ []) [] "................."
    ∷ []
    )
    ∷ point "set\t1\nflow\t10\t2\t0\t1\t4\t5\nflow\t10\t10\t0\t1\t1\t2\t3\n"
    (tights (1 ∷ 3 ∷ [])
    ∷ fixed_bounds (1 ∷ 3 ∷ []) (1 ∷ 1 ∷ [])
    ∷ fixed_verdict true 2
    ∷ fixed_report 0 ((0 ∷ 0 ∷ 4 ∷ 5 ∷ 0 ∷ 0 ∷ 11 ∷ []) ∷ []) ((0 ∷ 1 ∷ []) ∷ []) []
    ∷ fixed_report 1 ((1 ∷ 1 ∷ 1 ∷ 2 ∷ 0 ∷ 0 ∷ 11 ∷ []) ∷ []) [] []
    ∷ fixed_report 2 ((2 ∷ 1 ∷ 2 ∷ 3 ∷ 0 ∷ 0 ∷ 11 ∷ []) ∷ []) ((1 ∷ 3 ∷ []) ∷ []) []
    ∷ fixed_verdict_c (0 ∷ 0 ∷ 0 ∷ 1 ∷ 2 ∷ [])
    ∷ fixed_bounds_c 1 (0 ∷ 0 ∷ 0 ∷ 2 ∷ 3 ∷ 10 ∷ 1 ∷ [])
    ∷ fixed_bounds_c 2 (13 ∷ 0 ∷ 0 ∷ 0 ∷ 0 ∷ 0 ∷ 0 ∷ [])
    ∷ []
    )
    ∷ point "set\t15\nflow\t10\t1\t0\t1\t1\t2\nflow\t10\t1\t0\t1\t3\t4\nflow\t10\t1\t0\t1\t5\t6\nflow\t10\t1\t0\t1\t7\t8\nflow\t10\t1\t0\t1\t9\t10\nflow\t10\t9\t0\t1\t11\t12\n"
    (fixed_bounds (1 ∷ 1 ∷ 1 ∷ 1 ∷ 2 ∷ 0 ∷ []) (1 ∷ 1 ∷ 1 ∷ 1 ∷ 1 ∷ 0 ∷ [])
    ∷ fixed_verdict false 5
    ∷ fixed_report 0
    ((0 ∷ 0 ∷ 1 ∷ 2 ∷ 0 ∷ 0 ∷ 11 ∷ [])
    ∷ (0 ∷ 1 ∷ 3 ∷ 4 ∷ 0 ∷ 1 ∷ 12 ∷ [])
    ∷ (0 ∷ 2 ∷ 5 ∷ 6 ∷ 0 ∷ 2 ∷ 13 ∷ [])
    ∷ (0 ∷ 3 ∷ 7 ∷ 8 ∷ 0 ∷ 3 ∷ 14 ∷ [])
    ∷ []
    )
    ((0 ∷ 1 ∷ []) ∷ (1 ∷ 1 ∷ []) ∷ (2 ∷ 1 ∷ []) ∷ (3 ∷ 1 ∷ []) ∷ [])
    (4 ∷ [])
    ∷ fixed_bounds_c 5 (0 ∷ 0 ∷ 0 ∷ 1 ∷ 0 ∷ 9 ∷ 0 ∷ [])
    ∷ []
    )
    ∷ point "set\t7\nflow\t24\t2\t0\t2\t1\t2\nflow\t4\t4\t0\t2\t2\t3\nflow\t24\t4\t2\t1\t3\t4\n"
    (fixed_bounds (2 ∷ 4 ∷ 5 ∷ []) (1 ∷ 1 ∷ 1 ∷ [])
    ∷ fixed_verdict false 3
    ∷ fixed_report 5 ((5 ∷ 1 ∷ 2 ∷ 3 ∷ 1 ∷ 0 ∷ 13 ∷ []) ∷ []) ((1 ∷ 2 ∷ []) ∷ []) (2 ∷ [])
    ∷ []
    )
    ∷ point "set\t1\nflow\t3\t2\t1\t1\t1\t2\nflow\t2\t2\t3\t1\t2\t3\n"
    (fixed_bounds (1 ∷ 2 ∷ []) (1 ∷ 1 ∷ [])
    ∷ fixed_verdict true 2
    ∷ fixed_report 8 ((8 ∷ 1 ∷ 2 ∷ 3 ∷ 0 ∷ 0 ∷ 11 ∷ []) ∷ []) ((1 ∷ 2 ∷ []) ∷ []) []
    ∷ []
    )
    -- ours: the two orders' lines have different lengths
    ∷ point "set\t1\nflow\t10\t10\t0\t1\t10\t20\t30\nflow\t10\t2\t0\t1\t4\t5\n"
    (fixed_slot_c [] "...................." (0 ∷ 0 ∷ 0 ∷ 20 ∷ []) (1 ∷ 0 ∷ 0 ∷ 0 ∷ 1 ∷ []) "send\t0\t0\t10\t20\t0\t11\n"
    ∷ slot_c [] "...................." (0 ∷ 0 ∷ 0 ∷ 18 ∷ []) (1 ∷ 0 ∷ 0 ∷ 0 ∷ 0 ∷ 1 ∷ []) "send\t0\t1\t4\t5\t0\t11\n.."
    ∷ []
    )
    ∷ point "set\t1\n"
    (fixed_verdict true 0
    ∷ fixed_plan ("fixed\t1\t0\n" ∷ [])
    ∷ []
    )
    ∷ point "set\t0\n"
    (fixed_verdict_c (2 ∷ 1 ∷ 2 ∷ 0 ∷ 0 ∷ [])
    ∷ fixed_bounds_c 0 (2 ∷ 1 ∷ 2 ∷ 0 ∷ 0 ∷ 0 ∷ 0 ∷ [])
    ∷ fixed_plan ("refused\t2\t1\t2\n" ∷ [])
    ∷ []
    )
    ∷ []

pub every_point : T (every points)
unfolding every points point all_hold holds same? same_signed fault_is written_row slot_row offset_rows delivery_rows report_holds send_rows_to flows_of rows same_rows bytes bytes_of same lines ended fields all_digits value_from is_number all_numbers values_of well_formed numbers_of decimal_in decimal tabbed decimals line_of repeat_at flow_fault flows_fault record_fault flow_of with_flow first_line_fault flow_line_fault first_breaking first_line_field flow_line_field read_flows set_of read_lines read_text flow_lines text_of write_fault write_answer write_into conflict_work share over_others bound_with basic_bound value_at deadlines lowered round_to rounds_in reached tight_bound admits verdict_of bounds_fault bounds_of ready next_count insert ordered place placed_with channels_to radio_channel send_of sends_from count_with delivered_with deliveries_of dropped_with next_with bad_state step_fault step_with run_with state_bytes state_of send_lines slot_lines_with slot_fault_with slot_state_with slot_buffer_with bound_lines run_lines_with plan_of print_text bound_after some_over judge_next fixed_to fixed_bound judged fixed_verdict_of fixed_bounds_of fixed_bound_lines fixed_of fixed_verdict_of_reading fixed_bounds_of_reading fixed_verdict_for_c fixed_bounds_for_c fixed_verdict_row fixed_bounds_row verdict_of_reading bounds_of_reading slot_answer_with bounds_rows table_fault table_answer table_after verdict_for_c bounds_for_c slot_for_c_with all_bounds_for_c size_of_reading superframe_of_reading superframe_after size_for_c superframe_for_c write_table_for_c read_table_for_c channel_for_c multiple_from lcm hyper_to rows_from rows_to_with flat size_fault superframe_fault size_answer superframe_answer superframe_into row_lines rows_in write_table_answer write_table_into row_formed row_of above lines_fault read_table_fault read_table_answer read_table_into superframe_text frame_row table_row lines_row rows_row verdict_row bounds_answer_row sum_to any_to all_to used any_of meet list_to filter_to ones ones_in
every_point = tt
