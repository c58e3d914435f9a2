-- Document 01, "Refusal numbers" 1 to 9, the reader, the record check and the writer. What request 3 adds to a refusal of the reader, the
-- field, is computed beside the refusal: no rule asks for it.
use mathlib.Core.{Path.{◌≡◌}, Bool.{true, false, ◌&&◌, ◌||◌, cond}, List.{List, [], ◌∷◌, ◌++◌}}
use Rattle.std.specs.Prelude.{ℕ, zero, suc, ◌+◌, ◌-◌, ◌*◌, ◌≤◌, ◌<◌}
use lib.{Dec.{leb, ltb, eqb}, ListN.{length, get_or, take, drop, set, replicate}}
use Rattle.model.specs.declared.kinds.{Flow.{Flow}, FlowSet.{FlowSet}}
use Rattle.model.specs.declared.answers.{Fault.{Fault}, Reading.{Reading}, Written.{Written}, Refusal.{Refusal}}
use Rattle.model.specs.declared.answers.Refusal.TheVariants.{Nothing, BadForm, NoChannel, TooManyFlows, BadPeriod, BadDeadline, BadTries, BadRoute, EqualNeighbours, TooMuchWork, NoRoom}
use Rattle.model.specs.{Limits.{most_flows, most_nodes}, Refusals.{good, fault_in, fault_at, no_fault, or_else}, Sets.{flow_at, blank_flow, blank_set, used, SameSet}}
use Rattle.document.specs.{Text.{set_word, flow_word, lines, well_formed, numbers_of, line_of}, BadField.{breaks_first, breaks_flow, bad_field, field_of}}

-- rule 2
abbrev pub map_fault : ℕ → Refusal
map_fault m = cond (eqb m 0) NoChannel Nothing

-- rule 8: the place of the first node that equals the one just before it, the route's length where there is none
unfoldable pub repeat_at : List ℕ → ℕ
repeat_at [] = 0
repeat_at (x ∷ []) = 1
repeat_at (x ∷ y ∷ r) = cond (eqb x y) 1 (suc (repeat_at (y ∷ r)))

-- rules 3 to 9 in their order, of the flow that is number k, with period t, deadline d, tries c and this route of n nodes
unfoldable pub flow_fault : ℕ → ℕ → ℕ → ℕ → ℕ → List ℕ → Refusal
flow_fault k t d c n r =
    cond (leb most_flows k) TooManyFlows
    (cond (eqb t 0) BadPeriod
    (cond (eqb d 0 || ltb t d) BadDeadline
    (cond (eqb c 0 || ltb 4 c) BadTries
    (cond (ltb n 2 || ltb most_nodes n) BadRoute
    (cond (ltb (repeat_at r) (length r)) EqualNeighbours
    (cond (ltb d ((n - 1) * c)) TooMuchWork Nothing))))))

-- the same of a flow of a record
abbrev pub record_flow_fault : ℕ → Flow → Refusal
record_flow_fault k f = flow_fault k f.period.0 f.deadline.0 f.tries f.nodes f.route

-- the first fault of the n flows from number k on, with its line
unfoldable pub flows_fault : FlowSet → ℕ → ℕ → Fault
flows_fault s k zero = no_fault
flows_fault s k (suc n) = or_else (fault_at (record_flow_fault k (flow_at s k)) (k + 2)) (flows_fault s (k + 1) n)

-- the record check: line by line as the set's text would be, the map's line 1, flow k's line k + 2
unfoldable pub record_fault : FlowSet → Fault
record_fault s = or_else (fault_at (map_fault s.map.0) 1) (flows_fault s 0 s.count)

-- a list filled up with zeros to n numbers
abbrev pub pad : ℕ → List ℕ → List ℕ
pad n l = take n (l ++ replicate n 0)

-- the flow of a line's numbers: T, D, a, κ, then the nodes
unfoldable pub flow_of : List ℕ → Flow
flow_of vs =
    record {
      period = record { 0 = get_or vs 0 0 };
      deadline = record { 0 = get_or vs 1 0 };
      start = get_or vs 2 0;
      tries = get_or vs 3 0;
      nodes = length vs - 4;
      route = pad most_nodes (drop 4 vs);
    }

-- the set with one flow more
unfoldable pub with_flow : FlowSet → Flow → FlowSet
with_flow s f = record { map = s.map; count = s.count + 1; flows = set s.flows s.count f }

-- the lowest of 1 to 9 that applies to the first line
unfoldable pub first_line_fault : List ℕ → Refusal
first_line_fault l = cond (well_formed set_word l && eqb (length (numbers_of l)) 1) (map_fault (get_or (numbers_of l) 0 0)) BadForm

-- and to the line of flow number k
unfoldable pub flow_line_fault : ℕ → List ℕ → Refusal
flow_line_fault k l =
    cond (well_formed flow_word l && leb 4 (length (numbers_of l)))
    (flow_fault k (get_or (numbers_of l) 0 0) (get_or (numbers_of l) 1 0) (get_or (numbers_of l) 3 0) (length (numbers_of l) - 4) (drop 4 (numbers_of l)))
    BadForm

-- request 3: the field that is bad, in the first line and in the line of flow number k
unfoldable pub first_line_field : List ℕ → ℕ
first_line_field l = field_of (first_line_fault l) (bad_field breaks_first l) 0

unfoldable pub flow_line_field : ℕ → List ℕ → ℕ
flow_line_field k l = field_of (flow_line_fault k l) (bad_field breaks_flow l) (repeat_at (drop 4 (numbers_of l)))

-- a refused reading returns the blank set
abbrev pub refused_reading : Refusal → ℕ → ℕ → Reading
refused_reading r n f = record { fault = fault_in r n f; set = blank_set }

abbrev pub accepted : FlowSet → Reading
accepted s = record { fault = no_fault; set = s }

-- line by line, after the flows of s; the first faulty line decides
unfoldable pub read_flows : FlowSet → List (List ℕ) → Reading
read_flows s [] = accepted s
read_flows s (l ∷ ls) =
    elim (good (flow_line_fault s.count l)) [
      | true ↦ read_flows (with_flow s (flow_of (numbers_of l))) ls
      | false ↦ refused_reading (flow_line_fault s.count l) (s.count + 2) (flow_line_field s.count l)
    ]

-- the set of the first line
unfoldable pub set_of : List ℕ → FlowSet
set_of l = record { map = record { 0 = get_or (numbers_of l) 0 0 }; count = 0; flows = blank_set.flows }

unfoldable pub read_lines : List (List ℕ) → Reading
read_lines [] = refused_reading BadForm 1 0
read_lines (l ∷ ls) =
    elim (good (first_line_fault l)) [
      | true ↦ read_flows (set_of l) ls
      | false ↦ refused_reading (first_line_fault l) 1 (first_line_field l)
    ]

-- the reader's answer to a text
unfoldable pub read_text : List ℕ → Reading
read_text s = read_lines (lines s)

-- the writer: a flow's numbers in their order, and the lines of the flows
abbrev pub flow_numbers : Flow → List ℕ
flow_numbers f = f.period.0 ∷ f.deadline.0 ∷ f.start ∷ f.tries ∷ f.route

unfoldable pub flow_lines : List Flow → List ℕ
flow_lines [] = []
flow_lines (f ∷ fs) = line_of flow_word (flow_numbers f) ++ flow_lines fs

-- a set's text
unfoldable pub text_of : FlowSet → List ℕ
text_of s = line_of set_word (s.map.0 ∷ []) ++ flow_lines s.flows

-- n bytes stand in a lent buffer; a refusal writes none
abbrev pub wrote : ℕ → Written
wrote n = record { fault = no_fault; length = n }

abbrev pub refused_writing : Fault → Written
refused_writing f = record { fault = f; length = 0 }

-- what the writer may not write, with a buffer of this length: the record's fault, then 10
unfoldable pub write_fault : FlowSet → ℕ → Fault
write_fault s room = or_else (record_fault s) (cond (ltb room (length (text_of s))) (fault_at NoRoom 0) no_fault)

-- the writer's answer; the buffer then begins with the text, and a refusal leaves it alone
unfoldable pub write_answer : FlowSet → ℕ → Written
write_answer s room = record { fault = write_fault s room; length = cond (good (write_fault s room).refusal) (length (text_of s)) 0 }

unfoldable pub write_into : FlowSet → List ℕ → List ℕ
write_into s buffer = cond (good (write_fault s (length buffer)).refusal) (text_of s ++ drop (length (text_of s)) buffer) buffer

-- all entries beyond the last flow and beyond a route's end are 0
pub record Zeroed (t : FlowSet) : Type 0 where
  pub long : length t.flows ≡ most_flows
  pub beyond : (k : ℕ) → t.count ≤ k → k < most_flows → flow_at t k ≡ blank_flow
  pub routes : (k j : ℕ) → k < t.count → (flow_at t k).nodes ≤ j → get_or (flow_at t k).route j 0 ≡ 0

-- a set's text is read, without a fault, as the same set, and the entries that don't count are 0
pub record ReadAgain (s : FlowSet) : Type 0 where
  pub no_fault_law : good (read_text (text_of (used s))).fault.refusal ≡ true
  pub same_set : SameSet (read_text (text_of (used s))).set s
  pub others_zero : Zeroed (read_text (text_of (used s))).set
