-- Machines that document 01 excludes, each its own machine with one thing changed: what is placed, or what is reported.
use Rattle.std.specs.Prelude.{true, false, ◌&&◌, cond, List, [], map, ◌≡◌, refl, ℕ, ◌+◌, ◌-◌, ltb, eqb}
use Rattle.model.specs.declared.kinds.FlowSet.{FlowSet}
use Rattle.model.specs.declared.kinds.State.{State}
use Rattle.model.specs.declared.answers.Send.{Send}
use Rattle.model.specs.declared.answers.Stepped.{Stepped}
use Rattle.model.specs.Limits.{first_channel, most_flows}
use Rattle.model.specs.Refusals.{no_fault}
use Rattle.model.specs.Sets.{flow_at, memb, list_to, filter_to}
use Rattle.document.specs.Delay.{ways, work_at}
use Rattle.document.specs.Machine.{released, next_count, count_at, had_at, ready_at, due_at, ahead, ordered, place, clash_at, placed_at, sends_from, deliveries_of, stepped, step_if, step_of, count_with, delivered_with, dropped_with, next_with}

-- it moves to the next slot, sends nothing and drops nothing
unfoldable pub idle : FlowSet → State → Stepped
idle s st = stepped no_fault (record { slot = record { 0 = st.slot.0 + 1 }; sent = st.sent }) [] [] []

-- document 01's before slot n, and idle from then on
unfoldable pub tiring : ℕ → FlowSet → State → Stepped
tiring n s st = cond (ltb st.slot.0 n) (step_of s st) (idle s st)

-- document 01's with another choice of the flows that are placed
abbrev afterwards : (FlowSet → State → List ℕ) → FlowSet → State → ℕ → ℕ
afterwards placed s st k = next_count (flow_at s k) st.slot.0 (count_at st k) (memb k (placed s st))

unfoldable pub choosing : (FlowSet → State → List ℕ) → FlowSet → State → Stepped
choosing placed s st =
    stepped no_fault
    (record { slot = record { 0 = st.slot.0 + 1 }; sent = list_to (λ k. cond (ltb k s.count) (afterwards placed s st k) 0) most_flows })
    (sends_from s st 0 (placed s st))
    (deliveries_of s st (filter_to (λ k. memb k (placed s st) && eqb (had_at s st k + 1) (work_at s k)) s.count))
    (filter_to (λ k. released (flow_at s k) st.slot.0 && eqb (st.slot.0 + 1) (due_at s st k) && ltb (afterwards placed s st k) (work_at s k)) s.count)

-- with document 01's choice it is document 01's machine
pub choosing_own : (s : FlowSet) (st : State) → choosing placed_at s st ≡ step_if s st true
unfolding choosing next_with count_with delivered_with dropped_with
choosing_own s st = refl

-- conflicts are not looked at
abbrev pub reckless : FlowSet → State → Stepped
reckless = choosing (λ s st. place (ways s) (λ k l. false) [] (ordered (ahead s st) (ready_at s st) s.count))

-- nor is the number of channels
abbrev pub crowded : FlowSet → State → Stepped
crowded = choosing (λ s st. place most_flows (clash_at s st) [] (ordered (ahead s st) (ready_at s st) s.count))

-- the latest deadline goes first
abbrev pub backward : FlowSet → State → Stepped
backward = choosing (λ s st. place (ways s) (clash_at s st) [] (ordered (λ k l. ahead s st l k) (ready_at s st) s.count))

-- document 01's with its transmissions reported otherwise
unfoldable pub altering : (Send → Send) → FlowSet → State → Stepped
altering h s st =
    record {
      fault = (step_of s st).fault;
      next = (step_of s st).next;
      sends = (step_of s st).sends;
      sent = map h (step_of s st).sent;
      deliveries = (step_of s st).deliveries;
      delivered = (step_of s st).delivered;
      drops = (step_of s st).drops;
      dropped = (step_of s st).dropped;
    }

-- the same transmission in another slot
abbrev redated : Send → (slot : ℕ) → Send
redated x t =
    record { slot = record { 0 = t }; flow = x.flow; from = x.from; to = x.to; attempt = x.attempt; offset = x.offset; channel = x.channel }

-- or over another link, as another try, on another channel
abbrev resent : Send → (from to attempt channel : ℕ) → Send
resent x a b c d = record { slot = x.slot; flow = x.flow; from = a; to = b; attempt = c; offset = x.offset; channel = d }

-- all on the first channel; each on the next channel; from a node to itself; all from one node; all to one node; P7's third flow to its first one's
-- sender; backwards; to another node; as the next try; P8's second link before its first; in the next slot
abbrev pub crossed : FlowSet → State → Stepped
crossed = altering (λ x. resent x x.from x.to x.attempt first_channel)

abbrev pub strayed : FlowSet → State → Stepped
strayed = altering (λ x. resent x x.from x.to x.attempt (x.channel + 1))

abbrev pub looped : FlowSet → State → Stepped
looped = altering (λ x. resent x x.from x.from x.attempt x.channel)

abbrev pub fanned : FlowSet → State → Stepped
fanned = altering (λ x. resent x 9 x.to x.attempt x.channel)

abbrev pub gathered : FlowSet → State → Stepped
gathered = altering (λ x. resent x x.from 9 x.attempt x.channel)

abbrev pub answered : FlowSet → State → Stepped
answered = altering (λ x. resent x x.from (cond (eqb x.to 5) 1 x.to) x.attempt x.channel)

abbrev pub turned : FlowSet → State → Stepped
turned = altering (λ x. resent x x.to x.from x.attempt x.channel)

abbrev pub misled : FlowSet → State → Stepped
misled = altering (λ x. resent x x.from (x.to + 1) x.attempt x.channel)

abbrev pub mistried : FlowSet → State → Stepped
mistried = altering (λ x. resent x x.from x.to (x.attempt + 1) x.channel)

abbrev pub hurried : FlowSet → State → Stepped
hurried = altering (λ x. resent x (3 - x.from) (5 - x.to) x.attempt x.channel)

abbrev pub misdated : FlowSet → State → Stepped
misdated = altering (λ x. redated x (x.slot.0 + 1))
