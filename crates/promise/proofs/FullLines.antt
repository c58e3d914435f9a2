-- An admitted set that needs all 576 bytes. Its last 16 flows, with two-digit numbers and five-digit nodes, are released in slot 1,000,000,100, and
-- the ten before them are due before it. So no count of the state matters there: every state at that slot has those lines, the run's too.
use Rattle.std.specs.Prelude.{◌≡◌, Bool, true, not, ◌&&◌, cond, ℕ, zero, suc, ◌+◌, ◌-◌, ◌*◌, ◌%◌, ◌<◌, ltb, eqb, length, get_or, take}
use Rattle.std.proofs.Math.Path.{refl, ap, ap₂}
use Rattle.std.proofs.Common.{sym, ◌∙◌, add-zero, arith, length-append}
use mathlib.Core.List.{List, [], ◌∷◌, ◌++◌}
use Rattle.std.specs.Int.Count.{ones, ones_in}
use Rattle.model.specs.declared.kinds.{Flow.{Flow}, FlowSet.{FlowSet}, State.{State}}
use Rattle.model.specs.declared.answers.Send.{Send}
use Rattle.model.specs.Refusals.{good}
use Rattle.model.specs.Sums.{sum_to, all_to}
use Rattle.model.specs.Sets.{used, any_of, meet}
use Rattle.document.specs.Text.{same, lines, ended, fields, all_digits, value_from, is_number, all_numbers, values_of, well_formed, numbers_of, decimal_in, decimal, tabbed, decimals, line_of}
use Rattle.document.specs.Reader.{repeat_at, flow_fault, flows_fault, record_fault, flow_of, with_flow, first_line_fault, flow_line_fault, read_flows, set_of, read_lines, read_text}
use Rattle.document.specs.Machine.{channels, ready, insert, ordered, place, channels_to, radio_channel, send_of, sends_from, sends_at, placed_at, placed_with, ahead, ready_at, clash_at}
use Rattle.document.specs.Delay.{conflict_work, share, over_others, bound_with, basic_bound, admits, verdict_of}
use Rattle.document.specs.Program.{send_word, send_numbers, send_lines}
use Rattle.std.proofs.Common.{eqb-true}
use Rattle.laws.specs.Rounds.{same_eq}
use Rattle.promise.specs.Promise.{line_length, lines_length, set_in, NoFewer}
use Rattle.promise.specs.DeadlineOrder.{deadline_order}
use Rattle.promise.specs.RunStates.{state_slot}
use Rattle.promise.specs.TextHeld.{text_passes}
use Rattle.promise.specs.Calls.{state_in, sent_in}
use Rattle.promise.proofs.Calls.{less_refused}
use Rattle.promise.proofs.Demand.{all_each}
use Rattle.promise.specs.FullLines.{rare_flows, often_flows, crowded_text}

-- the same as a record
unfoldable rare : ℕ → List Flow
rare zero = []
rare (suc n) = record { period = record { 0 = 200 }; deadline = record { 0 = 100 }; start = 0; tries = 1; nodes = 2; route = 1 ∷ 2 ∷ [] } ∷ rare n

unfoldable often : ℕ → List Flow
often zero = []
often (suc n) =
    record { period = record { 0 = 100 }; deadline = record { 0 = 100 }; start = 0; tries = 1; nodes = 2; route = (10000 + n) ∷ (20000 + n) ∷ [] }
    ∷ often n

unfoldable crowded_set : FlowSet
crowded_set = record { map = record { 0 = 65535 }; count = 26; flows = rare 10 ++ often 16 }

abbrev some_state : List ℕ → State
some_state sent = record { slot = record { 0 = 1000000100 }; sent = sent }

read : good (read_text crowded_text).fault.refusal ≡ true
unfolding rare_flows often_flows crowded_text same lines ended fields all_digits value_from is_number all_numbers values_of well_formed numbers_of decimal_in decimal tabbed decimals line_of repeat_at flow_fault flows_fault record_fault flow_of with_flow first_line_fault flow_line_fault read_flows set_of read_lines read_text any_of
read = refl

set_is : set_in crowded_text ≡ crowded_set
unfolding rare_flows often_flows crowded_text same lines ended fields all_digits value_from is_number all_numbers values_of well_formed numbers_of decimal_in decimal tabbed decimals line_of repeat_at flow_fault flows_fault record_fault flow_of with_flow first_line_fault flow_line_fault read_flows set_of read_lines read_text any_of used rare often crowded_set
set_is = refl

-- k, k + 1, .. , n numbers in all
unfoldable from : ℕ → ℕ → List ℕ
from k zero = []
from k (suc n) = k ∷ from (suc k) n

from_next : (k n : ℕ) → from k n ++ ((k + n) ∷ []) ≡ from k (suc n)
unfolding from
from_next k zero = ap (λ (x : ℕ). x ∷ []) (add-zero k)
from_next k (suc n) =
    let e : k + suc n ≡ suc k + n = omega arith in
    ap (λ (l : List ℕ). k ∷ l) (ap (λ (x : ℕ). from (suc k) n ++ (x ∷ [])) e ∙ from_next (suc k) n)

-- the ready ones in their order are listed, if each is put after those before it
order_all : (first : ℕ → ℕ → Bool) (ready? : ℕ → Bool) (a n : ℕ) → ordered first ready? a ≡ []
    → ((i : ℕ) → i < n → same (cond (ready? (a + i)) (insert first (a + i) (from a i)) (from a i)) (from a (suc i)) ≡ true)
    → ordered first ready? (a + n) ≡ from a n
unfolding ordered from
order_all first ready? a zero z h = rw (add-zero a) z
order_all first ready? a (suc n) z h =
    let e : a + suc n ≡ suc (a + n) = omega arith in
    rw (e, order_all first ready? a n z (λ i l. h i (omega arith))) (same_eq _ _ (h n (omega arith)))

-- and placed, if each finds a channel and no conflict
place_one_law : (m : ℕ) (clash : ℕ → ℕ → Bool) (placed : List ℕ) (k : ℕ) (ks : List ℕ)
    → (ltb (length placed) m && not (any_of (clash k) placed)) ≡ true → place m clash placed (k ∷ ks) ≡ place m clash (placed ++ (k ∷ [])) ks
unfolding place
place_one_law m clash placed k ks h = ap (λ (b : Bool). place m clash (cond b (placed ++ (k ∷ [])) placed) ks) h

place_all : (m : ℕ) (clash : ℕ → ℕ → Bool) (a n j : ℕ)
    → ((i : ℕ) → i < n + j → (ltb (length (from a i)) m && not (any_of (clash (a + i)) (from a i))) ≡ true)
    → place m clash (from a n) (from (a + n) j) ≡ from a (n + j)
unfolding place from
place_all m clash a n zero h = ap (from a) (sym (add-zero n))
place_all m clash a n (suc j) h =
    let e : suc (a + n) ≡ a + suc n = omega arith in
    let f : suc n + j ≡ n + suc j = omega arith in
    place_one_law m clash (from a n) (a + n) (from (suc (a + n)) j) (h n (omega arith))
    ∙ ap (λ (l : List ℕ). place m clash l (from (suc (a + n)) j)) (from_next a n)
    ∙ ap (λ (k : ℕ). place m clash (from a (suc n)) (from k j)) e
    ∙ place_all m clash a (suc n) j (λ i l. h i (omega arith))
    ∙ ap (from a) f

-- as many lines as these, if each has 36 bytes
lines_all : (s : FlowSet) (st : State) (k o n : ℕ)
    → ((i : ℕ) → i < n → length (line_of send_word (send_numbers (send_of s st (k + i) (o + i)))) ≡ line_length)
    → length (send_lines (sends_from s st o (from k n))) ≡ n * line_length
unfolding send_lines sends_from from
lines_all s st k o zero h = refl
lines_all s st k o (suc n) h =
    let x = rw (add-zero k, add-zero o) at (h 0 (omega arith)) in
    let y = lines_all s st (suc k) (o + 1) n next in
    simp length-append (omega arith)
  where
    next : (i : ℕ) → i < n → length (line_of send_word (send_numbers (send_of s st (suc k + i) (o + 1 + i)))) ≡ line_length
    next i l =
        let a : suc k + i ≡ k + suc i = omega arith in
        let b : o + 1 + i ≡ o + suc i = omega arith in
        rw (a, b) (h (suc i) (omega arith))

-- the numbers of line i, and its length
abbrev numbers_at : ℕ → List ℕ
numbers_at i = 1000000100 ∷ (10 + i) ∷ (10015 - i) ∷ (20015 - i) ∷ 0 ∷ get_or (from 11 16) ((1000000100 + (0 + i)) % 16) 0 ∷ []

all_long : all_to (λ i. eqb (length (line_of send_word (numbers_at i))) line_length) 16 ≡ true
unfolding from all_to decimal_in decimal tabbed decimals line_of
all_long = refl

numbers_long : (i : ℕ) → i < 16 → length (line_of send_word (numbers_at i)) ≡ line_length
numbers_long i h = eqb-true _ line_length (all_each (λ i. eqb (length (line_of send_word (numbers_at i))) line_length) 16 all_long i h)

-- the channels of the whole map
channels_are : channels 65535 ≡ from 11 16
unfolding channels_to from
channels_are = refl

radio_is : (t o : ℕ) → radio_channel 65535 t o ≡ get_or (from 11 16) ((t + o) % 16) 0
unfolding radio_channel ones ones_in
radio_is t o = ap (λ (l : List ℕ). get_or l ((t + o) % 16) 0) channels_are

-- the numbers of a send but for its channel
abbrev first_five : Send → List ℕ
first_five x = x.slot.0 ∷ x.flow ∷ x.from ∷ x.to ∷ x.attempt ∷ []

-- What is computed of the set, in any state at that slot: the ten are not ready; each of the 16 goes after those before it, finds a channel and
-- no conflict, and has a line of 36 bytes.
module _ (sent : List ℕ) where
  abbrev earlier : ℕ → ℕ → Bool
  earlier = ahead crowded_set (some_state sent)

  abbrev is_ready : ℕ → Bool
  is_ready = ready_at crowded_set (some_state sent)

  abbrev goes_last : ℕ → Bool
  goes_last i = same (cond (is_ready (10 + i)) (insert earlier (10 + i) (from 10 i)) (from 10 i)) (from 10 (suc i))

  abbrev is_free : ℕ → Bool
  is_free i = ltb (length (from 10 i)) 16 && not (any_of (clash_at crowded_set (some_state sent) (10 + i)) (from 10 i))

  abbrev is_sent : ℕ → Bool
  is_sent i = same (first_five (send_of crowded_set (some_state sent) (10 + i) (0 + i))) (take 5 (numbers_at i))

  computed : (ordered earlier is_ready 10 ≡ []) × (all_to goes_last 16 ≡ true) × (all_to is_free 16 ≡ true) × (all_to is_sent 16 ≡ true)
  unfolding rare often crowded_set from all_to same insert ready ordered any_of meet send_of
  computed = (refl, refl, refl, refl)

  placed_are : placed_at crowded_set (some_state sent) ≡ from 10 16
  unfolding placed_with crowded_set from ones ones_in
  placed_are =
      ap (place 16 (clash_at crowded_set (some_state sent)) []) (order_all earlier is_ready 10 16 computed.0 (all_each goes_last 16 computed.1))
      ∙ place_all 16 (clash_at crowded_set (some_state sent)) 10 0 16 (all_each is_free 16 computed.2)

  send_is : (i : ℕ) → i < 16 → send_numbers (send_of crowded_set (some_state sent) (10 + i) (0 + i)) ≡ numbers_at i
  unfolding crowded_set send_of
  send_is i h =
      ap₂ (λ (l : List ℕ) (c : ℕ). l ++ (c ∷ []))
      (same_eq (first_five (send_of crowded_set (some_state sent) (10 + i) (0 + i))) (take 5 (numbers_at i)) (all_each is_sent 16 computed.3 i h))
      (radio_is 1000000100 (0 + i))

  send_long : (i : ℕ) → i < 16 → length (line_of send_word (send_numbers (send_of crowded_set (some_state sent) (10 + i) (0 + i)))) ≡ line_length
  send_long i h = ap (λ (l : List ℕ). length (line_of send_word l)) (send_is i h) ∙ numbers_long i h

  all_lines : length (send_lines (sends_at crowded_set (some_state sent))) ≡ lines_length
  all_lines =
      omega (
        arith,
        ap (λ (l : List ℕ). length (send_lines (sends_from crowded_set (some_state sent) 0 l))) placed_are,
        lines_all crowded_set (some_state sent) 10 0 16 send_long,
      )

-- So it is in every state at that slot, the run's too, and a call with less room is refused.
full_lines : (st : State) → st.slot.0 ≡ 1000000100 → length (send_lines (sends_at (set_in crowded_text) st)) ≡ lines_length
full_lines st e =
    ap (λ (s : FlowSet). length (send_lines (sends_at s st))) set_is
    ∙ ap (λ (n : ℕ). length (send_lines (sends_at crowded_set (record { slot = record { 0 = n }; sent = st.sent })))) e
    ∙ all_lines st.sent

-- and both tests admit it
admitted : (verdict_of crowded_set).basic ≡ true
unfolding rare often crowded_set flow_fault flows_fault record_fault repeat_at conflict_work share over_others bound_with basic_bound admits verdict_of sum_to all_to any_of meet ones ones_in
admitted = refl

text_admitted : (verdict_of (set_in crowded_text)).basic ≡ true
text_admitted = ap (λ (s : FlowSet). (verdict_of s).basic) set_is ∙ admitted

run_lines_law : length (send_lines (sent_in ahead crowded_text 1000000100)) ≡ lines_length
run_lines_law =
    full_lines (state_in ahead crowded_text 1000000100)
    (state_slot deadline_order (set_in crowded_text) (text_passes crowded_text read) 1000000100 (omega arith))

pub no_fewer : NoFewer
no_fewer = less_refused crowded_text read text_admitted 1000000100 (omega arith) run_lines_law
