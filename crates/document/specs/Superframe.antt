-- Document 02, request 2: the superframe. The hyper-period, the table of one hyper-period and what refuses it; then a table's lines, written
-- and read; then what the program prints.
-- A row of a table is four numbers: slot, flow, transmission number (from 0 in its packet), offset. A set here is one without the entries that
-- don't count (`used`).
use mathlib.Core.{Path.{◌≡◌}, Bool.{Bool, true, not, ◌&&◌, ◌||◌, cond}, List.{List, [], ◌∷◌, ◌++◌, map}}
use Rattle.std.specs.Prelude.{ℕ, zero, suc, ◌+◌, ◌-◌, ◌*◌, ◌/◌, ◌%◌, ◌≤◌, ◌<◌, min, max}
use lib.{Dec.{ltb, eqb}, ListN.{length, get_or, take, drop}}
use Rattle.model.specs.declared.kinds.{FlowSet.{FlowSet}, State.{State}}
use Rattle.model.specs.declared.answers.{Fault.{Fault}, Reading.{Reading}, Tabled.{Tabled}, Written.{Written}}
use Rattle.model.specs.declared.answers.Refusal.TheVariants.{BadForm, NoRoom, NotAdmitted, LateStart, LongHyperPeriod}
use Rattle.model.specs.{Refusals.{good, fault_at, no_fault, or_else, refused_table}, Sums.{any_to}, Sets.{flow_at, used}}
use Rattle.document.specs.{Text.{lines, ended, fields, all_numbers, values_of, decimal, line_of}, Reader.{record_fault, read_text, wrote, refused_writing}}
use Rattle.document.specs.{Delay.{period, verdict_of}, Machine.{Priority, ahead, placed_with, had_at, run_with}, Program.{most_input, refused_line}}

-- the first of the n + 1 multiples of a from j·a on that b divides, else the last of them
unfoldable pub multiple_from : ℕ → ℕ → ℕ → ℕ → ℕ
multiple_from a b j zero = j * a
multiple_from a b j (suc n) = cond (eqb (j * a % b) 0) (j * a) (multiple_from a b (j + 1) n)

-- the least common multiple of two: the first multiple of the larger that the smaller divides; it comes no later than their product
unfoldable pub lcm : ℕ → ℕ → ℕ
lcm a b = multiple_from (max a b) (min a b) 1 (min a b - 1)

-- of the periods of flows 0 .. n − 1; 1 with no flows
unfoldable pub hyper_to : FlowSet → ℕ → ℕ
hyper_to s zero = 1
hyper_to s (suc n) = lcm (hyper_to s n) (period s n)

-- the hyper-period
abbrev pub hyper : FlowSet → ℕ
hyper s = hyper_to s s.count

-- the rows of a slot: each placed flow with its transmission's number, at offsets 0, 1, 2 .. in the order in which they were placed
unfoldable pub rows_from : FlowSet → State → ℕ → List ℕ → List (List ℕ)
rows_from s st o [] = []
rows_from s st o (k ∷ ks) = (st.slot.0 ∷ k ∷ had_at s st k ∷ o ∷ []) ∷ rows_from s st (o + 1) ks

abbrev pub rows_with : Priority → FlowSet → State → List (List ℕ)
rows_with first s st = rows_from s st 0 (placed_with first s st)

-- the rows of the first n slots of the run from the fresh state, with any order of priority
unfoldable pub rows_to_with : Priority → FlowSet → ℕ → List (List ℕ)
rows_to_with first s zero = []
rows_to_with first s (suc n) = rows_to_with first s n ++ rows_with first s (run_with first s n).last

-- with document 01's order
abbrev pub rows_at : FlowSet → State → List (List ℕ)
rows_at = rows_with ahead

abbrev pub rows_to : FlowSet → ℕ → List (List ℕ)
rows_to = rows_to_with ahead

-- the superframe: every transmission of one hyper-period
abbrev pub superframe : FlowSet → List (List ℕ)
superframe s = rows_to s (hyper s)

-- rows as the numbers of a lent buffer, one row after the other
unfoldable pub flat : List (List ℕ) → List ℕ
flat [] = []
flat (r ∷ rs) = r ++ flat rs

-- the longest hyper-period that is loaded
abbrev pub most_hyper : ℕ
most_hyper = 65536

-- neither of document 01's two tests admits
abbrev pub neither_admits : FlowSet → Bool
neither_admits s = not ((verdict_of s).basic || (verdict_of s).tightened)

-- some flow starts at another slot than 0
abbrev pub starts_late : FlowSet → Bool
starts_late s = any_to (λ k. ltb 0 (flow_at s k).start) s.count

-- the set's own refusals, then 14, 15, 16
unfoldable pub size_fault : FlowSet → Fault
size_fault s =
    or_else (record_fault s)
    (cond (neither_admits s) (fault_at NotAdmitted 0)
    (cond (starts_late s) (fault_at LateStart 0)
    (cond (ltb most_hyper (hyper s)) (fault_at LongHyperPeriod 0) no_fault)))

-- and then 10, for a buffer that is shorter than the table
unfoldable pub superframe_fault : FlowSet → ℕ → Fault
superframe_fault s room = or_else (size_fault s) (cond (ltb room (length (flat (superframe s)))) (fault_at NoRoom 0) no_fault)

-- the answer: how many slots and how many numbers the table has; nothing of it on a refusal
abbrev pub tabled : FlowSet → Fault → Tabled
tabled s f = cond (good f.refusal) (record { fault = f; hyper = hyper s; numbers = length (flat (superframe s)) }) (refused_table f)

unfoldable pub size_answer : FlowSet → Tabled
size_answer s = tabled s (size_fault s)

unfoldable pub superframe_answer : FlowSet → ℕ → Tabled
superframe_answer s room = tabled s (superframe_fault s room)

-- numbers at the start of a lent table, whose further numbers stay
abbrev pub at_start : List ℕ → List ℕ → List ℕ
at_start new old = new ++ drop (length new) old

-- the lent table afterwards; a refusal changes nothing
unfoldable pub superframe_into : FlowSet → List ℕ → List ℕ
superframe_into s table = cond (good (superframe_fault s (length table)).refusal) (at_start (flat (superframe s)) table) table

-- a row as a line: four numbers, no word, parted by tabs, ended by LF
abbrev pub row_line : List ℕ → List ℕ
row_line r = line_of (decimal (get_or r 0 0)) (drop 1 r)

unfoldable pub row_lines : List (List ℕ) → List ℕ
row_lines [] = []
row_lines (r ∷ rs) = row_line r ++ row_lines rs

-- the first n rows of a lent table, and all its whole rows: up to three numbers left over don't count
unfoldable pub rows_in : ℕ → List ℕ → List (List ℕ)
rows_in zero l = []
rows_in (suc n) l = take 4 l ∷ rows_in n (drop 4 l)

abbrev pub rows_of : List ℕ → List (List ℕ)
rows_of table = rows_in (length table / 4) table

-- writing takes any table, and refuses 10 alone; the lines stand at the buffer's start, and its further bytes stay
unfoldable pub write_table_answer : List ℕ → ℕ → Written
write_table_answer table room =
    cond (ltb room (length (row_lines (rows_of table)))) (refused_writing (fault_at NoRoom 0)) (wrote (length (row_lines (rows_of table))))

unfoldable pub write_table_into : List ℕ → List ℕ → List ℕ
write_table_into table buffer =
    cond (ltb (length buffer) (length (row_lines (rows_of table)))) buffer (at_start (row_lines (rows_of table)) buffer)

-- the form of a line: four numbers, ended by LF
unfoldable pub row_formed : List ℕ → Bool
row_formed l = all_numbers (fields l) && eqb (length (fields l)) 4 && ended l

-- the row of a line of this form
unfoldable pub row_of : List ℕ → List ℕ
row_of l = values_of (fields l)

-- row r is above row q: by slot, then offset; every row is above [], which stands before the first
unfoldable pub above : List ℕ → List ℕ → Bool
above [] r = true
above (t ∷ q) r = ltb t (get_or r 0 0) || (eqb t (get_or r 0 0) && ltb (get_or q 2 0) (get_or r 3 0))

-- rows rise strictly, after row q
unfoldable pub rising_from : List ℕ → List (List ℕ) → Bool
rising_from q [] = true
rising_from q (r ∷ rs) = above q r && rising_from r rs

abbrev pub rising : List (List ℕ) → Bool
rising rs = rising_from [] rs

-- the first of these lines, numbered from n on, that has not this form or does not rise above the row before it
unfoldable pub lines_fault : ℕ → List ℕ → List (List ℕ) → Fault
lines_fault n q [] = no_fault
lines_fault n q (l ∷ ls) = cond (row_formed l && above q (row_of l)) (lines_fault (n + 1) (row_of l) ls) (fault_at BadForm n)

-- the rows of a text
abbrev pub rows_of_text : List ℕ → List (List ℕ)
rows_of_text text = map row_of (lines text)

-- reading: 1 with the line for form or order, then 10; a table that was read has no hyper-period
abbrev pub form_fault : List ℕ → Fault
form_fault text = lines_fault 1 [] (lines text)

unfoldable pub read_table_fault : List ℕ → ℕ → Fault
read_table_fault text room = or_else (form_fault text) (cond (ltb room (length (flat (rows_of_text text)))) (fault_at NoRoom 0) no_fault)

unfoldable pub read_table_answer : List ℕ → ℕ → Tabled
read_table_answer text room =
    cond (good (read_table_fault text room).refusal) (record { fault = no_fault; hyper = 0; numbers = length (flat (rows_of_text text)) })
    (refused_table (read_table_fault text room))

unfoldable pub read_table_into : List ℕ → List ℕ → List ℕ
read_table_into text table = cond (good (read_table_fault text (length table)).refusal) (at_start (flat (rows_of_text text)) table) table

-- a table of rows of four numbers of 16 bits
abbrev pub SixteenBits : List (List ℕ) → Type 0
SixteenBits table = (i : ℕ) → i < length table → (length (get_or table i []) ≡ 4) × ((j : ℕ) → get_or (get_or table i []) j 0 ≤ 65535)

-- what is written of a rising table of 16-bit numbers is read as this table, and an accepted text that is read and written has the same bytes
pub record LinesAgain : Type 0 where
  pub read : (table : List (List ℕ)) → SixteenBits table → rising table ≡ true
      → (form_fault (row_lines table) ≡ no_fault) × (rows_of_text (row_lines table) ≡ table)
  pub written : (text : List ℕ) → good (form_fault text).refusal ≡ true → row_lines (rows_of_text text) ≡ text

-- what the program prints: the lines of the superframe, or the refusal's; input that is too long is not read
abbrev pub size_fault_read : Reading → Fault
size_fault_read r = or_else r.fault (size_fault (used r.set))

abbrev pub superframe_lines : Reading → List ℕ
superframe_lines r = cond (good (size_fault_read r).refusal) (row_lines (superframe (used r.set))) (refused_line (size_fault_read r))

unfoldable pub superframe_text : List ℕ → List ℕ
superframe_text input = cond (ltb most_input (length input)) (refused_line (fault_at NoRoom 0)) (superframe_lines (read_text input))
