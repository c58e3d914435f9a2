-- Document 01, "The slot machine", rule by rule, for any order of priority in rule 4; document 01's own comes last, under the names that
-- the rest of the planner uses. Request 4's order stands beside it. A set here is one without the entries that don't count (`used`); t is a slot,
-- n the count that the state holds for a flow.
use mathlib.Core.{Bool.{Bool, true, false, not, ◌&&◌, ◌||◌, cond}, List.{List, [], ◌∷◌, ◌++◌}}
use Rattle.std.specs.Prelude.{ℕ, zero, suc, ◌+◌, ◌-◌, ◌*◌, ◌/◌, ◌%◌, ◌^◌}
use lib.{Count.{ones}, Dec.{leb, ltb, eqb}, ListN.{length, get_or, take, replicate}}
use Rattle.model.specs.declared.kinds.{Flow.{Flow}, FlowSet.{FlowSet}, State.{State}, Order.{Order}, Order.TheVariants.{Deadline, Number}}
use Rattle.model.specs.declared.answers.{Fault.{Fault}, Send.{Send}, Delivery.{Delivery}, Stepped.{Stepped}, Ran.{Ran}}
use Rattle.model.specs.declared.answers.Refusal.TheVariants.{AtLastSlot, BadState}
use Rattle.model.specs.{Limits.{first_channel, most_channels, most_flows, last_slot}, Refusals.{good, fault_at, no_fault, or_else}, Sums.{bit, any_to}}
use Rattle.model.specs.Sets.{work, flow_at, fresh_state, any_of, memb, meet, list_to, filter_to}
use Rattle.document.specs.{Reader.{record_fault}, Delay.{ways, work_at, link}}

-- 1. packet j is released at a + j·T
abbrev pub release : Flow → ℕ → ℕ
release f j = f.start + j * f.period.0

abbrev pub released : Flow → ℕ → Bool
released f t = leb f.start t

-- the latest packet in slot t, its release and its absolute deadline
abbrev pub packet_at : Flow → ℕ → ℕ
packet_at f t = (t - f.start) / f.period.0

abbrev pub release_at : Flow → ℕ → ℕ
release_at f t = release f (packet_at f t)

abbrev pub deadline_at : Flow → ℕ → ℕ
deadline_at f t = release_at f t + f.deadline.0

-- 2. in its release slot a packet has had no transmission, whatever count the state holds
abbrev pub had : Flow → ℕ → ℕ → ℕ
had f t n = cond (eqb t (release_at f t)) 0 n

unfoldable pub ready : Flow → ℕ → ℕ → Bool
ready f t n = released f t && ltb t (deadline_at f t) && ltb (had f t n) (work f)

-- the next count: one more if it was placed; before a flow's first release its count stays
unfoldable pub next_count : Flow → ℕ → ℕ → Bool → ℕ
next_count f t n placed = cond (released f t) (had f t n + bit placed) n

-- 3. transmission i goes over link i / κ; its try is i mod κ
abbrev pub link_of : Flow → ℕ → List ℕ
link_of f i = link f (i / f.tries)

abbrev pub try_of : Flow → ℕ → ℕ
try_of f i = i % f.tries

-- what the state says of flow k
abbrev pub count_at : State → ℕ → ℕ
count_at st k = get_or st.sent k 0

abbrev pub had_at : FlowSet → State → ℕ → ℕ
had_at s st k = had (flow_at s k) st.slot.0 (count_at st k)

abbrev pub ready_at : FlowSet → State → ℕ → Bool
ready_at s st k = ready (flow_at s k) st.slot.0 (count_at st k)

abbrev pub due_at : FlowSet → State → ℕ → ℕ
due_at s st k = deadline_at (flow_at s k) st.slot.0

abbrev pub link_at : FlowSet → State → ℕ → List ℕ
link_at s st k = link_of (flow_at s k) (had_at s st k)

-- 4. an order of priority says of two flows, in a state of a set, whether the first one's packet is taken before the other's
abbrev pub Priority : Type 0
Priority = FlowSet → State → ℕ → ℕ → Bool

-- document 01's order: earlier absolute deadline, then lower flow number
abbrev pub ahead : Priority
ahead s st k l = ltb (due_at s st k) (due_at s st l) || (eqb (due_at s st k) (due_at s st l) && ltb k l)

-- request 4's order: lower flow number alone
abbrev pub lower : Priority
lower s st k l = ltb k l

-- the order that each case of the machine's argument stands for
abbrev pub order_of : Order → Priority
order_of Deadline = ahead
order_of Number = lower

-- k put before the first that it goes ahead of
unfoldable pub insert : (ℕ → ℕ → Bool) → ℕ → List ℕ → List ℕ
insert first k [] = k ∷ []
insert first k (l ∷ ls) = cond (first k l) (k ∷ l ∷ ls) (l ∷ insert first k ls)

-- the ready ones of flows 0 .. n − 1 in their order
unfoldable pub ordered : (ℕ → ℕ → Bool) → (ℕ → Bool) → ℕ → List ℕ
ordered first ready? zero = []
ordered first ready? (suc n) = cond (ready? n) (insert first n (ordered first ready? n)) (ordered first ready? n)

-- one is placed if fewer than m are placed and its link shares no node with a placed link; otherwise it is passed over and the next
-- is looked at
unfoldable pub place : ℕ → (ℕ → ℕ → Bool) → List ℕ → List ℕ → List ℕ
place m clash placed [] = placed
place m clash placed (k ∷ ks) = place m clash (cond (ltb (length placed) m && not (any_of (clash k) placed)) (placed ++ (k ∷ [])) placed) ks

abbrev pub clash_at : FlowSet → State → ℕ → ℕ → Bool
clash_at s st k l = meet (link_at s st k) (link_at s st l)

-- the flows whose packets are placed in the state's slot, in the order in which they were
unfoldable pub placed_with : Priority → FlowSet → State → List ℕ
placed_with first s st = place (ways s) (clash_at s st) [] (ordered (first s st) (ready_at s st) s.count)

-- 5. the map's channels in rising order
unfoldable pub channels_to : ℕ → ℕ → List ℕ
channels_to m zero = []
channels_to m (suc i) = channels_to m i ++ cond (eqb (m / 2 ^ i % 2) 1) ((first_channel + i) ∷ []) []

abbrev pub channels : ℕ → List ℕ
channels m = channels_to m most_channels

-- the radio channel is the one at place (t + offset) mod m among them
unfoldable pub radio_channel : ℕ → ℕ → ℕ → ℕ
radio_channel m t offset = get_or (channels m) ((t + offset) % ones m) 0

-- the transmission of flow k at this offset
unfoldable pub send_of : FlowSet → State → ℕ → ℕ → Send
send_of s st k offset =
    record {
      slot = st.slot;
      flow = k;
      from = get_or (link_at s st k) 0 0;
      to = get_or (link_at s st k) 1 0;
      attempt = try_of (flow_at s k) (had_at s st k);
      offset = offset;
      channel = radio_channel s.map.0 st.slot.0 offset;
    }

-- placed packets get offsets 0, 1, 2 .. in that order
unfoldable pub sends_from : FlowSet → State → ℕ → List ℕ → List Send
sends_from s st o [] = []
sends_from s st o (k ∷ ks) = send_of s st k o ∷ sends_from s st (o + 1) ks

abbrev pub sends_with : Priority → FlowSet → State → List Send
sends_with first s st = sends_from s st 0 (placed_with first s st)

-- the next count of flow k
unfoldable pub count_with : Priority → FlowSet → State → ℕ → ℕ
count_with first s st k = next_count (flow_at s k) st.slot.0 (count_at st k) (memb k (placed_with first s st))

-- 6. delivered in the slot of its transmission C − 1
unfoldable pub delivered_with : Priority → FlowSet → State → ℕ → Bool
delivered_with first s st k = memb k (placed_with first s st) && eqb (had_at s st k + 1) (work_at s k)

-- its delay is that slot − release + 1
unfoldable pub deliveries_of : FlowSet → State → List ℕ → List Delivery
deliveries_of s st [] = []
deliveries_of s st (k ∷ ks) =
    record { flow = k; delay = record { 0 = st.slot.0 - release_at (flow_at s k) st.slot.0 + 1 } } ∷ deliveries_of s st ks

-- still short after the last slot before its absolute deadline: dropped there
unfoldable pub dropped_with : Priority → FlowSet → State → ℕ → Bool
dropped_with first s st k =
    released (flow_at s k) st.slot.0 && eqb (st.slot.0 + 1) (due_at s st k) && ltb (count_with first s st k) (work_at s k)

-- t + 1, and each flow's next count; beyond the last flow they stay 0
unfoldable pub next_with : Priority → FlowSet → State → State
next_with first s st =
    record {
      slot = record { 0 = st.slot.0 + 1 };
      sent = list_to (λ k. cond (ltb k s.count) (count_with first s st k) 0) most_flows;
    }

-- 12: a slot above the last, a count above its flow's C, or one not 0 beyond the last flow
unfoldable pub bad_state : FlowSet → State → Bool
bad_state s st =
    ltb last_slot st.slot.0 || any_to (λ k. ltb (cond (ltb k s.count) (work_at s k) 0) (count_at st k)) most_flows

-- the set's own refusals, then 12, then 11
unfoldable pub step_fault : FlowSet → State → Fault
step_fault s st =
    or_else (record_fault s)
    (cond (bad_state s st) (fault_at BadState 0) (cond (leb last_slot st.slot.0) (fault_at AtLastSlot 0) no_fault))

-- arrays hold their entries and then blank ones
abbrev pub filled {ℓ} : {A : Type ℓ} → ℕ → A → List A → List A
filled n d l = take n (l ++ replicate n d)

abbrev pub no_send : Send
no_send = record { slot = record { 0 = 0 }; flow = 0; from = 0; to = 0; attempt = 0; offset = 0; channel = 0 }

abbrev pub no_delivery : Delivery
no_delivery = record { flow = 0; delay = record { 0 = 0 } }

-- a slot's answer, made of its sends, deliveries and drops
abbrev pub stepped : Fault → State → List Send → List Delivery → List ℕ → Stepped
stepped f next ss ds xs =
    record {
      fault = f;
      next = next;
      sends = length ss;
      sent = filled most_channels no_send ss;
      deliveries = length ds;
      delivered = filled most_channels no_delivery ds;
      drops = length xs;
      dropped = filled most_flows 0 xs;
    }

-- a refused step returns the state it was given and an empty slot
abbrev pub step_if_with : Priority → FlowSet → State → Bool → Stepped
step_if_with first s st true =
    stepped no_fault (next_with first s st) (sends_with first s st)
    (deliveries_of s st (filter_to (delivered_with first s st) s.count))
    (filter_to (dropped_with first s st) s.count)
step_if_with first s st false = stepped (step_fault s st) st [] [] []

-- one step of the machine
unfoldable pub step_with : Priority → FlowSet → State → Stepped
step_with first s st = step_if_with first s st (good (step_fault s st).refusal)

-- a run of n steps from the fresh state, as far as the last slot, where a step changes nothing
abbrev pub run_more : Ran → Stepped → Ran
run_more r a =
    record { fault = r.fault; last = a.next; delivered = r.delivered + a.deliveries; dropped = r.dropped + a.drops }

unfoldable pub run_with : Priority → FlowSet → ℕ → Ran
run_with first s zero = record { fault = record_fault s; last = fresh_state; delivered = 0; dropped = 0 }
run_with first s (suc n) = run_more (run_with first s n) (step_with first s (run_with first s n).last)

-- document 01's machine: all of the above with its own order
abbrev pub placed_at : FlowSet → State → List ℕ
placed_at = placed_with ahead

abbrev pub sends_at : FlowSet → State → List Send
sends_at = sends_with ahead

abbrev pub count_after : FlowSet → State → ℕ → ℕ
count_after = count_with ahead

abbrev pub delivered_at : FlowSet → State → ℕ → Bool
delivered_at = delivered_with ahead

abbrev pub dropped_at : FlowSet → State → ℕ → Bool
dropped_at = dropped_with ahead

abbrev pub next_state : FlowSet → State → State
next_state = next_with ahead

abbrev pub step_if : FlowSet → State → Bool → Stepped
step_if = step_if_with ahead

abbrev pub step_of : FlowSet → State → Stepped
step_of = step_with ahead

abbrev pub run_of : FlowSet → ℕ → Ran
run_of = run_with ahead
