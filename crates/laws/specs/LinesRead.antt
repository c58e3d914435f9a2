-- The reader goes on after a line that no rule refuses and stops at the first other one. It names no line above 66, however long the text is: a 65th
-- flow's line is refused, whatever it has.
use Rattle.std.specs.Prelude.{◌≡◌, refl, Bool, true, false, ◌&&◌, cond, List, [], ◌∷◌, ℕ, ◌+◌, ◌≤◌, ◌<◌, leb, length}
use Rattle.std.proofs.lemmas.Bool.{false≢true}
use Rattle.std.proofs.Common.{arith, leb-false}
use Rattle.model.specs.declared.kinds.FlowSet.{FlowSet}
use Rattle.model.specs.declared.answers.Refusal.{Refusal}
use Rattle.model.specs.declared.answers.Refusal.TheVariants.{BadForm, TooManyFlows}
use Rattle.model.specs.Limits.{most_flows}
use Rattle.model.specs.Refusals.{good}
use Rattle.document.specs.Text.{flow_word, lines, well_formed, numbers_of}
use Rattle.document.specs.Reader.{flow_fault, flow_of, with_flow, first_line_fault, flow_line_fault, first_line_field, flow_line_field, refused_reading, read_flows, set_of, read_lines, read_text}

-- a line of a flow, after the flows of s
pub read_good : (s : FlowSet) (l : List ℕ) (ls : List (List ℕ)) → good (flow_line_fault s.count l) ≡ true
    → read_flows s (l ∷ ls) ≡ read_flows (with_flow s (flow_of (numbers_of l))) ls
unfolding read_flows
read_good s l ls e = rw (read_flows, e)

pub read_bad : (s : FlowSet) (l : List ℕ) (ls : List (List ℕ)) → good (flow_line_fault s.count l) ≡ false
    → read_flows s (l ∷ ls) ≡ refused_reading (flow_line_fault s.count l) (s.count + 2) (flow_line_field s.count l)
unfolding read_flows
read_bad s l ls e = rw (read_flows, e)

-- the first line
pub first_good : (l : List ℕ) (ls : List (List ℕ)) → good (first_line_fault l) ≡ true → read_lines (l ∷ ls) ≡ read_flows (set_of l) ls
unfolding read_lines
first_good l ls e = rw (read_lines, e)

pub first_bad_law : (l : List ℕ) (ls : List (List ℕ)) → good (first_line_fault l) ≡ false
    → read_lines (l ∷ ls) ≡ refused_reading (first_line_fault l) 1 (first_line_field l)
unfolding read_lines
first_bad_law l ls e = rw (read_lines, e)

-- a line that is not refused is one of at most 64 flows
below_most : (k : ℕ) (l : List ℕ) → good (flow_line_fault k l) ≡ true → k < most_flows
unfolding flow_line_fault flow_fault
below_most k l h = leb-false most_flows k (go (well_formed flow_word l && leb 4 (length (numbers_of l))) (leb most_flows k) _ h)
  where
    go : (b a : Bool) (y : Refusal) → good (cond b (cond a TooManyFlows y) BadForm) ≡ true → a ≡ false
    go true true y h = absurd (false≢true h)
    go true false y h = refl
    go false a y h = absurd (false≢true h)

-- the last line that is ever judged
abbrev pub last_line : ℕ
last_line = most_flows + 2

flows_line_le : (s : FlowSet) (ls : List (List ℕ)) → s.count ≤ most_flows → (read_flows s ls).fault.line ≤ last_line
unfolding read_flows with_flow
flows_line_le s [] h = omega arith
flows_line_le s (l ∷ ls) h = go (good (flow_line_fault s.count l)) refl (flows_line_le (with_flow s (flow_of (numbers_of l))) ls)
  where
    go : (b : Bool) → good (flow_line_fault s.count l) ≡ b
        → (s.count + 1 ≤ most_flows → (read_flows (with_flow s (flow_of (numbers_of l))) ls).fault.line ≤ last_line)
        → (read_flows s (l ∷ ls)).fault.line ≤ last_line
    go true e on = rw (read_good s l ls e) (on (omega (arith, below_most s.count l e)))
    go false e on = rw (read_bad s l ls e) (omega arith)

lines_line_le : (ls : List (List ℕ)) → (read_lines ls).fault.line ≤ last_line
unfolding read_lines set_of
lines_line_le [] = omega arith
lines_line_le (l ∷ ls) = go (good (first_line_fault l)) refl
  where
    go : (b : Bool) → good (first_line_fault l) ≡ b → (read_lines (l ∷ ls)).fault.line ≤ last_line
    go true e = rw (first_good l ls e) (flows_line_le (set_of l) ls (omega arith))
    go false e = rw (first_bad_law l ls e) (omega arith)

pub read_line_le : (text : List ℕ) → (read_text text).fault.line ≤ last_line
unfolding read_text
read_line_le text = lines_line_le (lines text)
