-- Request 2: what is promised of the superframe that devices repeat. It is said of the run's slots and reports, and in the second half of the bytes
-- that a C host and the program `superframe` give. What holds of a table's lines stands in `Superframe` of document.
use mathlib.Core.{Bool.{true, cond}, List.{List, [], ◌∷◌, map}, Path.{◌≡◌}}
use Rattle.std.specs.Prelude.{ℕ, ◌*◌, ◌/◌, ◌%◌, ◌≤◌, ◌<◌}
use lib.{Dec.{eqb}, ListN.{length, get_or, take}}
use Rattle.model.specs.declared.{answers.Send.{Send}, kinds.FlowSet.{FlowSet}}
use Rattle.model.specs.{Refusals.{good}, Limits.{most_channels, last_slot}, Sums.{sum_to}, Sets.{flow_at, used}}
use Rattle.document.specs.Text.{line_of}
use Rattle.document.specs.Reader.{record_fault, read_text}
use Rattle.document.specs.Delay.{ways, period, work_at}
use Rattle.document.specs.Machine.{ahead, link_of, try_of, radio_channel, sends_at, no_send, filled, run_of, step_of}
use Rattle.document.specs.Program.{most_input, send_word}
use Rattle.document.specs.Superframe.{hyper, superframe, flat, rising, rows_of, row_lines, superframe_text, read_table_into, write_table_into}
use Rattle.document.specs.ForC.{superframe_for_c, superframe_after, channel_for_c, read_table_for_c, write_table_for_c}
use Rattle.promise.specs.Promise.{Admitted, report, set_in, answer_at, buffer_at, lines_length}

-- the four numbers of a row
abbrev pub slot_of : List ℕ → ℕ
slot_of r = get_or r 0 0

abbrev pub flow_of : List ℕ → ℕ
flow_of r = get_or r 1 0

abbrev pub number_of : List ℕ → ℕ
number_of r = get_or r 2 0

abbrev pub offset_of : List ℕ → ℕ
offset_of r = get_or r 3 0

-- the rows of a table that stand at slot u
unfoldable pub rows_of_slot : ℕ → List (List ℕ) → List (List ℕ)
rows_of_slot u [] = []
rows_of_slot u (r ∷ rs) = cond (eqb (slot_of r) u) (r ∷ rows_of_slot u rs) (rows_of_slot u rs)

-- the two ends of the link that a row's transmission goes over, and its try
abbrev pub ends_of : FlowSet → List ℕ → List ℕ
ends_of s r = link_of (flow_at s (flow_of r)) (number_of r)

abbrev pub attempt_of : FlowSet → List ℕ → ℕ
attempt_of s r = try_of (flow_at s (flow_of r)) (number_of r)

-- the transmission that a row stands for in slot t; its channel is that of the true slot
abbrev pub send_of_row : FlowSet → ℕ → List ℕ → Send
send_of_row s t r =
    record {
      slot = record { 0 = t };
      flow = flow_of r;
      from = get_or (ends_of s r) 0 0;
      to = get_or (ends_of s r) 1 0;
      attempt = attempt_of s r;
      offset = offset_of r;
      channel = radio_channel s.map.0 t (offset_of r);
    }

-- what the table of h slots has for slot t
abbrev pub sends_by_table : FlowSet → List (List ℕ) → ℕ → ℕ → List Send
sends_by_table s table h t = map (send_of_row s t) (rows_of_slot (t % h) table)

-- all starts are 0
abbrev pub FromZero : FlowSet → Type 0
FromZero s = (k : ℕ) → k < s.count → (flow_at s k).start ≡ 0

-- the hyper-period is the least number that every period divides
pub record LeastCommon (s : FlowSet) : Type 0 where
  pub positive : 0 < hyper s
  pub divided : (k : ℕ) → k < s.count → hyper s % period s k ≡ 0
  pub least : (x : ℕ) → 0 < x → ((k : ℕ) → k < s.count → x % period s k ≡ 0) → hyper s ≤ x

-- slot t of the run sends what the table has at t mod hyper-period, and so the slot's report says
pub record RepeatsIn (s : FlowSet) (t : ℕ) : Type 0 where
  pub sends : sends_at s (run_of s t).last ≡ sends_by_table s (superframe s) (hyper s) t
  pub count : (report step_of s t).sends ≡ length (sends_by_table s (superframe s) (hyper s) t)
  pub list : (report step_of s t).sent ≡ filled most_channels no_send (sends_by_table s (superframe s) (hyper s) t)

-- how many rows the table has
abbrev pub row_count : FlowSet → ℕ
row_count s = sum_to (λ k. hyper s / period s k * work_at s k) s.count

-- the shape of a table: its rows rise strictly; each is four numbers, a slot below h, a flow, a number below its C, an offset below m; those of
-- one slot have the offsets 0, 1, 2 ..
pub record Shaped (s : FlowSet) (table : List (List ℕ)) (h : ℕ) : Type 0 where
  pub rises : rising table ≡ true
  pub four : (i : ℕ) → i < length table → length (get_or table i []) ≡ 4
  pub slots : (i : ℕ) → i < length table → slot_of (get_or table i []) < h
  pub flows : (i : ℕ) → i < length table → flow_of (get_or table i []) < s.count
  pub numbers : (i : ℕ) → i < length table → number_of (get_or table i []) < work_at s (flow_of (get_or table i []))
  pub offsets : (i : ℕ) → i < length table → offset_of (get_or table i []) < ways s
  pub places : (u p : ℕ) → p < length (rows_of_slot u table) → offset_of (get_or (rows_of_slot u table) p []) ≡ p

-- All of it, of a set: the table repeats where all starts are 0, admitted or not, however long its hyper-period; how long it is, is said of an admitted
-- set, and its shape and the most rows that it can have of any.
pub record Repeated (s : FlowSet) : Type 0 where
  pub least : LeastCommon s
  pub most : length (superframe s) ≤ hyper s * ways s
  pub repeats : FromZero s → (t : ℕ) → t < last_slot → RepeatsIn s t
  pub length : FromZero s → Admitted s → hyper s ≤ last_slot → length (superframe s) ≡ row_count s
  pub shape : hyper s ≤ last_slot → Shaped s (superframe s) (hyper s)

-- It holds of every accepted set,
abbrev pub Repeats : Type 0
Repeats = (s : FlowSet) → good (record_fault (used s)).refusal ≡ true → Repeated (used s)

-- and of every text that the reader accepts.
abbrev pub TextRepeats : Type 0
TextRepeats = (text : List ℕ) → good (read_text text).fault.refusal ≡ true → Repeated (set_in text)

-- What C calls. The numbers that `rembasuk_superframe` leaves in a lent table, and their rows,
abbrev pub loaded_numbers : List ℕ → List ℕ → List ℕ
loaded_numbers text table = take (superframe_for_c text (length table)).numbers (superframe_after (read_text text) table)

abbrev pub loaded : List ℕ → List ℕ → List (List ℕ)
loaded text table = rows_of (loaded_numbers text table)

-- the `send` line of a row in slot t, with the channel that `rembasuk_channel` answers,
abbrev pub line_of_row : FlowSet → ℕ → List ℕ → List ℕ
line_of_row s t r =
    line_of send_word
    (t ∷ flow_of r ∷ get_or (ends_of s r) 0 0 ∷ get_or (ends_of s r) 1 0 ∷ attempt_of s r ∷ channel_for_c s.map.0 t (offset_of r) ∷ [])

-- and the lines that the table has for slot t.
abbrev pub lines_by_table : List ℕ → List ℕ → ℕ → List ℕ
lines_by_table text table t =
    flat (map (line_of_row (set_in text) t) (rows_of_slot (t % (superframe_for_c text (length table)).hyper) (loaded text table)))

-- Where `rembasuk_superframe` refuses nothing, call t of `rembasuk_slot` gives the `send` lines of the rows that stand at t mod hyper in the lent
-- table; and the program prints the lines of that table.
abbrev pub RepeatsForC : Type 0
RepeatsForC = (text table : List ℕ) → (superframe_for_c text (length table)).refusal ≡ 0
    → (lent : ℕ → List ℕ) → ((t : ℕ) → lines_length ≤ length (lent t)) → (t : ℕ) → t < last_slot
    → take (answer_at ahead text lent t).length (buffer_at ahead text lent t) ≡ lines_by_table text table t

abbrev pub ProgramPrints : Type 0
ProgramPrints = (text table : List ℕ) → (superframe_for_c text (length table)).refusal ≡ 0 → length text ≤ most_input
    → superframe_text text ≡ row_lines (loaded text table)

-- The loaded table goes through lines unharmed: the bytes that `rembasuk_table_write` leaves of it in a buffer with room for them,
abbrev pub loaded_lines : List ℕ → List ℕ → List ℕ → List ℕ
loaded_lines text table buffer =
    take (write_table_for_c (loaded_numbers text table) (length buffer)).length (write_table_into (loaded_numbers text table) buffer)

-- `rembasuk_table_read` reads into any table with room for it, and they are the same numbers.
abbrev pub LoadedAgain : Type 0
LoadedAgain = (text table buffer other : List ℕ) → (superframe_for_c text (length table)).refusal ≡ 0
    → (write_table_for_c (loaded_numbers text table) (length buffer)).refusal ≡ 0 → length (loaded_numbers text table) ≤ length other
    → ((read_table_for_c (loaded_lines text table buffer) (length other)).refusal ≡ 0)
    × (take (read_table_for_c (loaded_lines text table buffer) (length other)).numbers (read_table_into (loaded_lines text table buffer) other)
    ≡ loaded_numbers text table)
