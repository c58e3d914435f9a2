-- Document 01, "The flow set": how long an accepted text can be.
use Rattle.std.specs.Prelude.{◌≡◌, ℕ, ◌≤◌, true, List, [], ◌∷◌, length, replicate, refl}
use Rattle.std.proofs.Common.{arith}
use Rattle.std.proofs.lemmas.List.{get_or-replicate}
use Rattle.model.specs.declared.kinds.Flow.{Flow}
use Rattle.model.specs.declared.kinds.FlowSet.{FlowSet}
use Rattle.model.specs.Limits.{most_flows, most_nodes}
use Rattle.model.specs.Refusals.{good}
use Rattle.model.specs.Sets.{no_flow, used, any_of}
use Rattle.document.specs.Reader.{repeat_at, flow_fault, flows_fault, record_fault, flow_lines, read_text, text_of}
use Rattle.document.specs.Text.{decimal_in, decimal, tabbed, decimals, line_of}
use Rattle.text.specs.ReadThenWritten.{longest_text}
use Rattle.text.specs.WrittenLines.{small}
use Rattle.text.specs.HeldByCode.{HeldRecord}
use Rattle.text.specs.RoundTrip.{read_again}
use Rattle.text.proofs.ReadThenWritten.{read_length}

-- (iii) the longest accepted text has 8,138 bytes
pub at_most : (s : List ℕ) → good (read_text s).fault.refusal ≡ true → length s ≤ longest_text
at_most = read_length

-- and so has no text of a set that passes the record check more
pub text_most : (s : FlowSet) → HeldRecord s → good (record_fault (used s)).refusal ≡ true → length (text_of (used s)) ≤ longest_text
text_most s st h = at_most (text_of (used s)) (read_again s st h).no_fault_law

-- and one has as many: each number as long as it may be
long_flow : Flow
long_flow =
    record {
      period = record { 0 = 65535 };
      deadline = record { 0 = 65535 };
      start = 65535;
      tries = 4;
      nodes = most_nodes;
      route = 10000 ∷ 10001 ∷ 10002 ∷ 10003 ∷ 10004 ∷ 10005 ∷ 10006 ∷ 10007 ∷ 10008 ∷ 10009 ∷ 10010 ∷ 10011 ∷ 10012 ∷ 10013 ∷ 10014 ∷ 10015 ∷ 10016 ∷ [];
    }

long_set : FlowSet
long_set = record { map = record { 0 = 65535 }; count = most_flows; flows = replicate most_flows long_flow }

long_held : HeldRecord long_set
unfolding long_set long_flow small
long_held =
    record {
      flows_are = refl;
      map_fits = omega arith;
      flow_is = λ k h. rw (get_or-replicate most_flows k long_flow no_flow h) record { route_is = refl; numbers_fit = refl };
    }

long_good : good (record_fault (used long_set)).refusal ≡ true
unfolding long_set long_flow record_fault flows_fault flow_fault repeat_at any_of used
long_good = refl

long_length : length (text_of (used long_set)) ≡ longest_text
unfolding long_set long_flow text_of used flow_lines line_of tabbed decimals decimal decimal_in
long_length = refl

pub attained : (s : List ℕ) × (length s ≡ longest_text) × (good (read_text s).fault.refusal ≡ true)
attained = (text_of (used long_set), long_length, (read_again long_set long_held long_good).no_fault_law)
