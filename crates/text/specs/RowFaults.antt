-- The refusal of the first line by its row, rules 1 and 2; that of a flow line, rules 1 and 3 to 9, and the flow that its numbers make. And what
-- the field of a refusal is found from.
use Rattle.std.specs.Prelude.{ℕ, ◌+◌, ◌-◌, Bool, cond, Option, Some, None, Result, Ok, Err, List, length, take, drop, ◌==◌, nat_le, slice_index}
use Rattle.model.specs.declared.answers.Refusal.{Refusal}
use Rattle.model.specs.declared.answers.Refusal.TheVariants.{BadForm}
use Rattle.document.specs.Reader.{map_fault, repeat_at, flow_fault, pad}
use Rattle.document.specs.BadField.{breaks_first, breaks_flow, bad_field, field_of}
use Rattle.document.specs.Text.{flow_word}
use Rattle.text.specs.Row.{row_in}
use Rattle.model.specs.declared.answers.Fault.{Fault}
use Rattle.text.specs.declared.line.Row.{Row}
use Rattle.model.specs.declared.kinds.Flow.{Flow}
use Rattle.model.specs.Limits.{most_nodes}
use Rattle.model.specs.declared.kinds.FlowSet.{FlowSet}
use Rattle.model.specs.Refusals.{fault_in, good}
use Rattle.model.specs.Sets.{blank_set}

-- the first line's refusal
abbrev pub first_row_fault : Option Row → Refusal
first_row_fault (Some r) = cond (r.count == 1) (map_fault (slice_index r.numbers 0)) BadForm
first_row_fault None = BadForm

-- the number at this place of a row
abbrev pub number_at : Row → ℕ → ℕ
number_at r i = slice_index r.numbers i

-- a row's nodes, filled up with zeros
abbrev pub nodes_of : List ℕ → List ℕ
nodes_of ns = pad most_nodes (drop 4 ns)

-- the nodes of a row, as far as the array holds them
abbrev pub row_nodes : Row → List ℕ
row_nodes r = take (r.count - 4) (nodes_of r.numbers)

-- the refusal of the line of flow number k
abbrev pub flow_row_fault : ℕ → Option Row → Refusal
flow_row_fault k (Some r) =
    cond (nat_le 4 r.count)
    (flow_fault k (number_at r 0) (number_at r 1) (number_at r 3) (r.count - 4) (row_nodes r))
    BadForm
flow_row_fault k None = BadForm

-- the row that there is, if it is good, or this error
abbrev pub row_or : {E : Type 0} → Bool → E → Option Row → Result Row E
row_or b e (Some r) = cond b (Ok r) (Err e)
row_or b e None = Err e

-- the row of the first line, or its refusal
abbrev pub first_read : Option Row → Result Row Refusal
first_read r = row_or (good (first_row_fault r)) (first_row_fault r) r

-- the place of the first node of a row that equals the one just before it
abbrev pub row_repeat : Option Row → ℕ
row_repeat (Some r) = repeat_at (row_nodes r)
row_repeat None = 0

-- the first field that breaks the form of a text's first line; an empty text has none
abbrev pub first_bad : List ℕ → ℕ
first_bad s = cond (length s == 0) 0 (bad_field breaks_first s)

-- the flow of a row's numbers, with n nodes
abbrev pub flow_with : List ℕ → ℕ → Flow
flow_with ns n =
    record {
      period = record { 0 = slice_index ns 0 };
      deadline = record { 0 = slice_index ns 1 };
      start = slice_index ns 2;
      tries = slice_index ns 3;
      nodes = n;
      route = nodes_of ns;
    }

-- the flow of a row
abbrev pub flow_of_row : Row → Flow
flow_of_row r = flow_with r.numbers (r.count - 4)

-- the set of a map and no flows
abbrev pub set_with : ℕ → FlowSet
set_with m = record { map = record { 0 = m }; count = 0; flows = blank_set.flows }

-- what the line of flow number k is read as, t the text from its place on: its row, or what refuses it, with its field
abbrev pub flow_row_refused : ℕ → Option Row → List ℕ → Fault
flow_row_refused k r t = fault_in (flow_row_fault k r) (k + 2) (field_of (flow_row_fault k r) (bad_field breaks_flow t) (row_repeat r))

abbrev pub flow_read : ℕ → ℕ → List ℕ → Result Row Fault
flow_read k at t = row_or (good (flow_row_fault k (row_in flow_word at t))) (flow_row_refused k (row_in flow_word at t) t) (row_in flow_word at t)
