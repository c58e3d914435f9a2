-- A slot from arrays as a whole: what is looked at, chosen and answered is the machine's step.
use Rattle.std.specs.Prelude.{◌≡◌, refl, Bool, true, false, ◌&&◌, ◌||◌, cond, leb, ltb, eqb, take, replicate}
use Rattle.std.proofs.Math.Path.{sym, ap, ap₂}
use Rattle.std.proofs.Common.{◌∙◌, add-zero, mul-zero, arith, ltb-true, lt-ltb, le-ltb, eqb-true, length-take-le, get_or-take}
use mathlib.Core.List.{List, []}
use Prim.Native.Nat.{ℕ, ◌+◌, ◌-◌, ◌/◌, ◌%◌, ◌≤◌, ◌<◌, zero-le}
use Rattle.std.proofs.Math.Decide.{dec_le}
use Rattle.std.proofs.Math.ListN.{length, get_or}
use Rattle.model.specs.declared.kinds.ChannelMap.{ChannelMap}
use Rattle.model.specs.declared.kinds.Flow.{Flow}
use Rattle.model.specs.declared.kinds.FlowSet.{FlowSet}
use Rattle.model.specs.declared.kinds.State.{State}
use Rattle.model.specs.declared.kinds.Order.{Order}
use Rattle.model.specs.Limits.{last_slot, most_channels, most_flows}
use Rattle.model.specs.declared.answers.Send.{Send}
use Rattle.model.specs.declared.answers.Delivery.{Delivery}
use Rattle.model.specs.declared.answers.Fault.{Fault}
use Rattle.model.specs.declared.answers.Stepped.{Stepped}
use Rattle.model.specs.Refusals.{good, no_fault}
use Rattle.document.specs.Reader.{record_fault}
use Rattle.model.specs.Sums.{bit}
use Rattle.model.specs.Sets.{fresh_state, flow_at, used, any_of, memb, meet, filter_to, work}
use Rattle.document.specs.Delay.{ways, work_at}
use Rattle.document.specs.Machine.{release_at, deadline_at, count_at, had_at, ready_at, due_at, link_of, try_of, link_at, radio_channel, send_of, ordered, order_of, place, deliveries_of, filled, no_send, no_delivery, bad_state, next_with, Priority, delivered_with, dropped_with, placed_with, sends_with, step_if_with, run_with}
use Rattle.laws.specs.Accepted.{accepted}
use Rattle.laws.specs.TestAnswers.{work_le_most}
use Rattle.laws.specs.Used.{used_map, used_count, used_flow}
use Rattle.laws.specs.SumLaws.{any_ext, and_l, and_r}
use Rattle.machine.specs.ArrayLists.{Through, through_all, through_none, bit_one, get_or_zeros, filter_none}
use Rattle.model.specs.Releases.{release_back}
use Rattle.machine.specs.LentArrays.{Numbers, Links, Packets, no_numbers, packets_of}
use Rattle.machine.specs.PacketNumbers.{due_in, due_by, had_by, ahead_by, keys_by, ready_by, PacketsHold, had_is, ready_work, ready_if, used_none, accepted_count}
use Rattle.machine.specs.ReadyOrder.{Each, each_at, each_wide, waiting_each, ordered_each, ordered_in, keep, keep_all, ReadyInOrder, FlowsTo}
use Rattle.machine.specs.PlacedChoice.{Choice, choice_by, link_by, clash_of, ordered_by, placed_by, place_ext, placed_each, placed_ready, delivered_le}
use Rattle.machine.specs.LinkColumns.{Routes, RoutesTo, routes_none, link_in, LinksThere, PlacedLinks, link_is, link_in_route}
use Rattle.machine.specs.States.{bad_by, most_count, GoodState, had_le, count_after_le, fresh_good, good_not_bad, next_good, next_slot, step_with_good, run_none, run_with_next}
use Rattle.promise.specs.Reports.{sends_length}
use Rattle.machine.specs.SlotAnswers.{send_by, sends_of, sends_by, delivered_by, delivered_to, deliveries_by, delivery_array, length_deliveries, dropped_by, dropped_to, count_by, deliveries_by_law, delivered_by_law, dropped_by_law, after_by, next_by, MarkedDelayed}

-- an accepted set's numbers in arrays, each within its bounds
pub record AfterNumbers (s : FlowSet) (numbers : Numbers) : Type 0 where
  pub good_set : good (record_fault (used s)).refusal ≡ true
  pub starts : (k : ℕ) → get_or numbers.start k 0 ≡ (flow_at (used s) k).start
  pub periods : (k : ℕ) → get_or numbers.period k 0 ≡ (flow_at (used s) k).period.0
  pub deadlines : (k : ℕ) → get_or numbers.deadline k 0 ≡ (flow_at (used s) k).deadline.0
  pub works : (k : ℕ) → get_or numbers.work k 0 ≡ work_at (used s) k
  pub small_start : (k : ℕ) → get_or numbers.start k 0 ≤ 65535
  pub small_period : (k : ℕ) → get_or numbers.period k 0 ≤ 65535
  pub small_deadline : (k : ℕ) → get_or numbers.deadline k 0 ≤ 65535

zero_both : (b : Bool) → ◌≡◌ {A = ℕ} (cond b 0 0) 0
zero_both true = refl
zero_both false = refl

-- no flow: no deadline and no count
none_due : (t : ℕ) → due_in 0 0 0 t ≡ 0
none_due t = rw (mul-zero ((t - 0) / 0))

-- beyond the last flow there is no deadline and no count
pub none_packet : (s : FlowSet) (st : State) → GoodState (used s) st → (k : ℕ) → s.count ≤ k
    → (due_at (used s) st k ≡ 0) × (had_at (used s) st k ≡ 0) × (count_at st k ≡ 0)
none_packet s st g k d =
    let w : most_count (used s) k ≡ 0 = rw (le-ltb k (used s).count (rw (used_count s) d)) in
    let n : count_at st k ≡ 0 = omega (arith, g.counts k) in (
      ap (λ (f : Flow). deadline_at f st.slot.0) (used_none s k d) ∙ none_due st.slot.0,
      rw n (zero_both (eqb st.slot.0 (release_at (flow_at (used s) k) st.slot.0))),
      n,
    )

-- arrays hold the packets if each flow's absolute deadline and what its packet has had are its numbers', and beyond the last flow there is none
pub packets_hold : (s : FlowSet) (st : State) (numbers : Numbers) (due sent : List ℕ) → AfterNumbers s numbers → GoodState (used s) st
    → ((k : ℕ) → k < s.count → get_or due k 0 ≡ due_by numbers.start numbers.period numbers.deadline st.slot.0 k)
    → ((k : ℕ) → k < s.count → get_or sent k 0 ≡ had_by due numbers.deadline st.slot.0 st.sent k)
    → ((k : ℕ) → s.count ≤ k → (get_or due k 0 ≡ 0) × (get_or sent k 0 ≡ count_at st k))
    → PacketsHold (used s) st (packets_of numbers.start due sent numbers.work) numbers.deadline
packets_hold s st numbers due sent n g a b c = record { starts = n.starts; dues = dues; hads = hads; works = n.works; deadlines = n.deadlines }
  where
    dues : (k : ℕ) → get_or due k 0 ≡ due_at (used s) st k
    dues k = elim (dec_le s.count k) [
      | yes d ↦ (c k d).0 ∙ sym (none_packet s st g k d).0
      | no d ↦ a k (omega arith) ∙ rw (n.starts k, n.periods k, n.deadlines k)
    ]

    hads : (k : ℕ) → get_or sent k 0 ≡ had_at (used s) st k
    hads k = elim (dec_le s.count k) [
      | yes d ↦ (c k d).1 ∙ (none_packet s st g k d).2 ∙ sym (none_packet s st g k d).1
      | no d ↦ b k (omega arith) ∙ rw (dues k, n.deadlines k) (had_is (flow_at (used s) k) st.slot.0 (count_at st k))
    ]

-- an answer without a fault
abbrev pub answer_of : State → ℕ → List Send → ℕ → List Delivery → ℕ → List ℕ → Stepped
answer_of next n list dn ds xn xs =
    record { fault = no_fault; next = next; sends = n; sent = list; deliveries = dn; delivered = ds; drops = xn; dropped = xs }

answer_ext : (a b : State) → a ≡ b → {n m : ℕ} → n ≡ m → {l k : List Send} → l ≡ k → {dn dm : ℕ} → dn ≡ dm → {ds es : List Delivery} → ds ≡ es
    → {xn xm : ℕ} → xn ≡ xm → {xs ys : List ℕ} → xs ≡ ys → answer_of a n l dn ds xn xs ≡ answer_of b m k dm es xm ys
answer_ext a b p q r d e x y i = answer_of (p i) (q i) (r i) (d i) (e i) (x i) (y i)

-- all that a slot's answer is made from
pub record AfterOrder (by : Order) (s : FlowSet) (st : State) (p : Packets) (deadline order : List ℕ) (waiting : ℕ) : Type 0 where
  pub good_set : good (record_fault (used s)).refusal ≡ true
  pub good_state : GoodState (used s) st
  pub before_last : st.slot.0 < last_slot
  pub packets : PacketsHold (used s) st p deadline
  pub in_order : keep (ready_by p st.slot.0) (take waiting order) ≡ ordered_by by (used s) st.slot.0 p
  pub low : FlowsTo order waiting
  pub few : waiting ≤ most_flows
  pub long_order : length order ≡ most_flows
  pub long_sent : length p.sent ≡ most_flows
  pub small : (k : ℕ) → get_or deadline k 0 ≤ 65535

module _ (by : Order) (s : FlowSet) (st : State) (p : Packets) (deadline order : List ℕ) (waiting : ℕ) (r : AfterOrder by s st p deadline order waiting) where
  -- a count is at most C, which is at most 64
  work_at_small : (k : ℕ) → k < s.count → work_at (used s) k ≤ 64
  work_at_small k h = work_le_most (used s) (accepted (used s) r.good_set) k (rw (used_count s) h)

  -- beyond the last flow a count is 0
  pub none_sent : (k : ℕ) → s.count ≤ k → get_or p.sent k 0 ≡ 0
  none_sent k d = r.packets.hads k ∙ (none_packet s st r.good_state k d).1

  -- a count is at most 64
  pub sent_le : (k : ℕ) → get_or p.sent k 0 ≤ 64
  sent_le k = elim (dec_le s.count k) [
    | yes d ↦ omega (arith, none_sent k d)
    | no d ↦
        let w = g.counts k in
        let l : most_count (used s) k ≡ work_at (used s) k = rw (lt-ltb k (used s).count (rw (used_count s) (omega arith))) in
        let h = had_le (eqb st.slot.0 (release_at (flow_at (used s) k) st.slot.0)) (count_at st k) in
        omega (arith, w, l, h, work_at_small k (omega arith), r.packets.hads k)
  ]
    where
      g : GoodState (used s) st
      g = r.good_state

  module _ (links : Links) (w : Routes s links) where
    -- the ready are short of their C, so their links are those of the arrays
    pub ready_short : LinksThere p.sent p.work links
    ready_short k h = link_in_route s links r.good_set w p.sent k (rw (r.packets.works k) at h)

    -- rule 4's choice by the links of the arrays
    pub placed_is : choice_by (ways (used s)) st.slot.0 p (link_in p.sent links) order waiting ≡ placed_with (order_of by) (used s) st
    placed_is =
        ap (place (ways (used s)) (clash_of (link_in p.sent links)) []) r.in_order
        ∙ place_ext Short (ways (used s)) (clash_of (link_in p.sent links)) (clash_of (link_by (used s) p.sent))
        (λ k l a b. ap₂ meet (link_is s links r.good_set w p.sent k a) (link_is s links r.good_set w p.sent l b)) [] _ tt
        (each_wide Ready Short short (ordered_by by (used s) st.slot.0 p)
        (ordered_each (ahead_by (keys_by by p.due)) (ready_by p st.slot.0) (used s).count))
        ∙ placed_by by (used s) st p deadline r.packets
      where
        Ready : ℕ → Type 0
        Ready k = (k < (used s).count) × (ready_by p st.slot.0 k ≡ true)

        Short : ℕ → Type 0
        Short k = get_or p.sent k 0 < work_at (used s) k

        short : (k : ℕ) → Ready k → Short k
        short k e = rw (r.packets.works k) at (ready_work p st.slot.0 k e.1)

  -- the order of priority
  abbrev first : Priority
  first = order_of by

  -- the placed packets in arrays
  module _ (chosen marked : List ℕ) (n : ℕ) (c : Choice (placed_with first (used s) st) chosen marked n) where
    module _ (links : Links) (w : Routes s links) where
      -- the placed are flows of the set, short of their C
      abbrev Short : ℕ → Type 0
      Short k = (k < s.count) × (get_or p.sent k 0 < work_at (used s) k)

      each_short : Each Short (placed_with first (used s) st)
      each_short =
          each_wide (λ j. (j < (used s).count) × (ready_at (used s) st j ≡ true)) Short
          (λ k b. (rw (used_count s) at b.0, rw (r.packets.hads k) (ready_if (flow_at (used s) k) st.slot.0 (count_at st k) b.1).2))
          (placed_with first (used s) st) (placed_each first (used s) st)

      pub placed_short : PlacedLinks p.sent links chosen n
      placed_short i h =
          let l : length (take n chosen) ≡ n = length-take-le n chosen (omega (arith, c.few, c.long_chosen)) in
          let b = rw (get_or-take n chosen i 0 h) at (each_at Short (take n chosen) (rw c.list each_short) i (rw l h)) in
          (omega (arith, b.0, accepted_count s r.good_set), link_in_route s links r.good_set w p.sent (get_or chosen i 0) b.1)

      -- and what they send is what the machine sends
      send_is : (k o : ℕ) → Short k → send_by s.map.0 st.slot links p.sent k o ≡ send_of (used s) st k o
      unfolding send_of
      send_is k o h =
          ap (λ (l : List ℕ). made s.map.0 l (get_or p.sent k 0 % get_or links.tries k 0))
          (link_is s links r.good_set w p.sent k h.1 ∙ ap (link_of (flow_at (used s) k)) (r.packets.hads k))
          ∙ ap₂ (λ (m : ChannelMap) (a : ℕ). made m.0 (link_at (used s) st k) a) (sym (used_map s)) tried
        where
          made : ℕ → List ℕ → ℕ → Send
          made m l a =
              record {
                slot = st.slot;
                flow = k;
                from = get_or l 0 0;
                to = get_or l 1 0;
                attempt = a;
                offset = o;
                channel = radio_channel m st.slot.0 o;
              }

          tried : get_or p.sent k 0 % get_or links.tries k 0 ≡ try_of (flow_at (used s) k) (had_at (used s) st k)
          tried = ap₂ (λ (x y : ℕ). x % y) (r.packets.hads k) (w.tries_are k h.0 ∙ ap (λ (f : Flow). f.tries) (sym (used_flow s k h.0)))

      pub sends_is : sends_of (send_by s.map.0 st.slot links p.sent) 0 (take n chosen) ≡ sends_with first (used s) st
      sends_is =
          ap (sends_of (send_by s.map.0 st.slot links p.sent) 0) c.list
          ∙ sends_by Short (used s) st (send_by s.map.0 st.slot links p.sent) send_is 0 (placed_with first (used s) st) each_short

    pub sent_small : (k : ℕ) → count_by p.sent marked k ≤ 64
    sent_small k = elim (dec_le s.count k) [
      | yes d ↦ omega (arith, none_sent k d, c.marks k, bit_one (memb k (placed_with first (used s) st)))
      | no d ↦
          let a = after_by (used s) st p deadline r.packets first chosen marked n c k in
          omega (arith, a, count_after_le first (used s) st r.good_state k (rw (used_count s) (omega arith)), work_at_small k (omega arith))
    ]

    -- a marked packet was released and its deadline is to come
    pub marked_delayed : MarkedDelayed st.slot.0 deadline p.due marked
    marked_delayed k e =
        let f = flow_at (used s) k in
        let t = st.slot.0 in
        let m : memb k (placed_with first (used s) st) ≡ true = one (memb k (placed_with first (used s) st)) (sym (c.marks k) ∙ e) in
        let w = ready_if f t (count_at st k) (placed_ready first (used s) st k m).1 in
        let b = release_back f.start f.period.0 t w.0 in
        rw (r.packets.dues k)
        (rw (r.packets.deadlines k)
        (record {
          released = omega arith;
          begun = omega arith;
          in_time = w.1;
          small = rw (r.packets.deadlines k) at (r.small k);
          slot_le = omega (arith, r.before_last);
        }))
      where
        one : (b : Bool) → bit b ≡ 1 → b ≡ true
        one true h = refl
        one false h = absurd (omega arith)

    -- there is room for all deliveries
    pub delivered_few : length (delivered_to p.sent p.work marked s.count) ≤ most_channels
    delivered_few =
        let e = delivered_by_law (used s) st p deadline r.packets first chosen marked n c in
        let l : length (take n chosen) ≡ n = length-take-le n chosen (omega (arith, c.few, c.long_chosen)) in
        rw e (omega (arith, delivered_le first (used s) st s.count, ap length c.list, c.few))

    -- the flows whose packets are delivered and dropped, and the next state
    abbrev delivered : List ℕ
    delivered = delivered_to p.sent p.work marked s.count

    abbrev dropped : List ℕ
    dropped = dropped_to st.slot.0 p marked s.count

    abbrev next_state_law : List ℕ → State
    next_state_law counts = record { slot = record { 0 = st.slot.0 + 1 }; sent = counts }

    -- the arrays' answer is the step's
    pub slot_answer : (list : List Send) (dn : ℕ) (ds : List Delivery) (xn : ℕ) (xs counts : List ℕ)
        → list ≡ filled most_channels no_send (sends_with first (used s) st)
        → dn ≡ length delivered → ds ≡ delivery_array st.slot.0 deadline p.due delivered
        → xn ≡ length dropped → xs ≡ filled most_flows 0 dropped
        → Through (count_by p.sent marked) s.count p.sent counts
        → answer_of (next_state_law counts) n list dn ds xn xs ≡ step_if_with first (used s) st true
    unfolding next_with
    slot_answer list dn ds xn xs counts a b d e f g =
        let u : FlowSet = used s in
        let q = used_count s in
        let flows : List ℕ = filter_to (delivered_with first u st) u.count in
        let sn : n ≡ length (sends_with first u st) =
        sym (length-take-le n chosen (omega (arith, c.few, c.long_chosen))) ∙ ap length c.list ∙ sym (sends_length u st 0 (placed_with first u st)) in
        let ks : delivered ≡ flows = ap₂ filter_to (delivered_by_law u st p deadline r.packets first chosen marked n c) (sym q) in
        let dd : deliveries_by st.slot.0 deadline p.due delivered ≡ deliveries_of u st flows =
        ap (deliveries_by st.slot.0 deadline p.due) ks ∙ deliveries_by_law u st p deadline r.packets flows in
        let dl : length delivered ≡ length (deliveries_of u st flows) = sym (length_deliveries st.slot.0 deadline p.due delivered) ∙ ap length dd in
        let xx : dropped ≡ filter_to (dropped_with first u st) u.count =
        ap₂ filter_to (dropped_by_law u st p deadline r.packets first chosen marked n c) (sym q) in
        let nn : counts ≡ (next_with first u st).sent =
        next_by u st p deadline r.packets first chosen marked n c counts r.long_sent (λ k h. none_sent k (rw q at h)) (through_all _ _ _ _ _ (sym q) g) in
        answer_ext (next_state_law counts) (next_with first u st) (ap next_state_law nn)
        sn a (b ∙ dl) (d ∙ ap (filled most_channels no_delivery) dd) (e ∙ ap length xx) (f ∙ ap (filled most_flows 0) xx)

-- a blank array whose first entries are f's reads as f, where f is 0 beyond them
through_blank : (f : ℕ → ℕ) (n m : ℕ) (new : List ℕ) → Through f n (replicate m 0) new → ((k : ℕ) → n ≤ k → f k ≡ 0) → (k : ℕ) → get_or new k 0 ≡ f k
through_blank f n m new h z k = elim (dec_le n k) [
  | yes d ↦ h.above k d ∙ get_or_zeros m k ∙ sym (z k d)
  | no d ↦ h.below k (omega arith)
]

-- the first n flows' numbers are put in their places
pub record FlowsPut (s : FlowSet) (n count : ℕ) (numbers : Numbers) (links : Links) : Type 0 where
  pub count_is : count ≡ s.count
  pub starts : Through (λ j. (flow_at (used s) j).start) n (replicate most_flows 0) numbers.start
  pub periods : Through (λ j. (flow_at (used s) j).period.0) n (replicate most_flows 0) numbers.period
  pub deadlines : Through (λ j. (flow_at (used s) j).deadline.0) n (replicate most_flows 0) numbers.deadline
  pub works : Through (λ j. work_at (used s) j) n (replicate most_flows 0) numbers.work
  pub small_period : (j : ℕ) → get_or numbers.period j 0 ≤ 65535
  pub small_deadline : (j : ℕ) → get_or numbers.deadline j 0 ≤ 65535
  pub long_tries : length links.tries ≡ most_flows
  pub long_routes : length links.routes ≡ most_flows
  pub links_are : RoutesTo s n links.tries links.routes

pub flows_none : (s : FlowSet) (count : ℕ) (links : Links) → count ≡ s.count → length links.tries ≡ most_flows → length links.routes ≡ most_flows
    → FlowsPut s 0 count no_numbers links
flows_none s count links e f g =
    record {
      count_is = e;
      starts = through_none _ _;
      periods = through_none _ _;
      deadlines = through_none _ _;
      works = through_none _ _;
      small_period = λ j. omega (arith, get_or_zeros most_flows j);
      small_deadline = λ j. omega (arith, get_or_zeros most_flows j);
      long_tries = f;
      long_routes = g;
      links_are = routes_none _ _ _;
    }

-- the arrays that `Columns::take` fills are the set's numbers
pub after_numbers : (s : FlowSet) (numbers : Numbers) → good (record_fault (used s)).refusal ≡ true
    → Through (λ k. (flow_at (used s) k).start) s.count (replicate most_flows 0) numbers.start
    → Through (λ k. (flow_at (used s) k).period.0) s.count (replicate most_flows 0) numbers.period
    → Through (λ k. (flow_at (used s) k).deadline.0) s.count (replicate most_flows 0) numbers.deadline
    → Through (λ k. work_at (used s) k) s.count (replicate most_flows 0) numbers.work
    → ((k : ℕ) → get_or numbers.start k 0 ≤ 65535) → ((k : ℕ) → get_or numbers.period k 0 ≤ 65535) → ((k : ℕ) → get_or numbers.deadline k 0 ≤ 65535)
    → AfterNumbers s numbers
after_numbers s numbers g a b c d e f h =
    record {
      good_set = g;
      starts = through_blank _ s.count most_flows numbers.start a (λ k h. ap (λ (f : Flow). f.start) (used_none s k h));
      periods = through_blank _ s.count most_flows numbers.period b (λ k h. ap (λ (f : Flow). f.period.0) (used_none s k h));
      deadlines = through_blank _ s.count most_flows numbers.deadline c (λ k h. ap (λ (f : Flow). f.deadline.0) (used_none s k h));
      works = through_blank _ s.count most_flows numbers.work d (λ k h. ap work (used_none s k h));
      small_start = e;
      small_period = f;
      small_deadline = h;
    }

-- 12 by arrays
pub bad_by_law : (s : FlowSet) (st : State) (numbers : Numbers) → AfterNumbers s numbers → bad_by st.slot.0 st.sent numbers.work ≡ bad_state (used s) st
unfolding bad_state
bad_by_law s st numbers n =
    ap (λ (b : Bool). ltb last_slot st.slot.0 || b)
    (any_ext (λ k. ltb (get_or numbers.work k 0) (count_at st k)) (λ k. ltb (most_count (used s) k) (count_at st k)) most_flows
    (λ k h. ap (λ (x : ℕ). ltb x (count_at st k)) (most k)))
  where
    most : (k : ℕ) → get_or numbers.work k 0 ≡ most_count (used s) k
    most k = elim (dec_le s.count k) [
      | yes d ↦ n.works k ∙ ap work (used_none s k d) ∙ rw (le-ltb k (used s).count (rw (used_count s) d))
      | no d ↦ n.works k ∙ rw (lt-ltb k (used s).count (rw (used_count s) (omega arith)))
    ]

-- a slot without a ready packet changes the counts alone
pub record Idle (st : State) (sent : List ℕ) (a : Stepped) : Type 0 where
  pub next_is : a.next ≡ record { slot = record { 0 = st.slot.0 + 1 }; sent = sent }
  pub none_delivered : a.deliveries ≡ 0
  pub none_dropped : a.drops ≡ 0

pub idle_slot : (by : Order) (s : FlowSet) (st : State) (p : Packets) (deadline order : List ℕ) (waiting : ℕ) → AfterOrder by s st p deadline order waiting
    → ordered_by by (used s) st.slot.0 p ≡ [] → Idle st p.sent (step_if_with (order_of by) (used s) st true)
unfolding place any_of
idle_slot by s st p deadline order waiting r none =
    let b : List ℕ = replicate most_flows 0 in
    let h : List ℕ = replicate most_channels 0 in
    let c : Choice (placed_with (order_of by) (used s) st) h b 0 =
    rw (← placed_by by (used s) st p deadline r.packets, none)
    (record { list = refl; marks = get_or_zeros most_flows; few = zero-le; long_chosen = refl; long_marked = refl }) in
    let d : delivered_to p.sent p.work b s.count ≡ [] =
    filter_none (delivered_by p.sent p.work b) s.count (λ k l. rw (get_or_zeros most_flows k)) in
    let x : dropped_to st.slot.0 p b s.count ≡ [] =
    filter_none (dropped_by st.slot.0 p b) s.count (λ k l. not_dropped k l (dropped_by st.slot.0 p b k) refl) in
    let e = slot_answer by s st p deadline order waiting r h b 0 c _ _ _ _ _ p.sent refl refl refl refl refl
    (record { long = refl; below = λ k l. rw (get_or_zeros most_flows k, add-zero); above = λ k l. refl }) in
    record {
      next_is = ap (λ (a : Stepped). a.next) (sym e);
      none_delivered = ap (λ (a : Stepped). a.deliveries) (sym e) ∙ ap length d;
      none_dropped = ap (λ (a : Stepped). a.drops) (sym e) ∙ ap length x;
    }
  where
    not_dropped : (k : ℕ) → k < s.count → (b : Bool) → dropped_by st.slot.0 p (replicate most_flows 0) k ≡ b → b ≡ false
    not_dropped k l false e = refl
    not_dropped k l true e =
        let t = st.slot.0 in
        let a = leb (get_or p.start k 0) t in
        let q = eqb (t + 1) (get_or p.due k 0) in
        let short : Bool = ltb (count_by p.sent (replicate most_flows 0) k) (get_or p.work k 0) in
        let w = and_l (a && q) short e in
        let i : count_by p.sent (replicate most_flows 0) k < get_or p.work k 0 = ltb-true _ _ (and_r (a && q) short e) in
        let u = eqb-true (t + 1) (get_or p.due k 0) (and_r a q w) in
        let v = lt-ltb (get_or p.sent k 0) (get_or p.work k 0) (omega (arith, get_or_zeros most_flows k)) in
        let y : ready_by p t k ≡ true = rw (and_l a q w, lt-ltb t (get_or p.due k 0) (omega arith), v) in
        let z = ordered_in (ahead_by (keys_by by p.due)) (ready_by p t) (used s).count k (rw (used_count s) l) y in
        absurd (omega (arith, ap length none))

-- what the releases and the deadlines of a flow ask of its numbers
pub numbers_fit : (s : FlowSet) (numbers : Numbers) → AfterNumbers s numbers → (k : ℕ) → k < s.count → 0 < get_or numbers.period k 0
numbers_fit s numbers n k h = rw (n.periods k) ((accepted (used s) n.good_set).flow k (rw (used_count s) h)).period_pos

-- once the ready packets are in their order, all is there that the slot's answer is made from
pub after_order : (by : Order) (s : FlowSet) (st : State) (numbers : Numbers) (due due' sent' old order : List ℕ) (waiting : ℕ) → AfterNumbers s numbers
    → GoodState (used s) st → st.slot.0 < last_slot → ((k : ℕ) → s.count ≤ k → get_or due k 0 ≡ 0)
    → Through (due_by numbers.start numbers.period numbers.deadline st.slot.0) s.count due due'
    → Through (had_by due' numbers.deadline st.slot.0 st.sent) s.count st.sent sent'
    → ReadyInOrder s.count st.slot.0 (keys_by by due') (packets_of numbers.start due' sent' numbers.work) old order waiting
    → AfterOrder by s st (packets_of numbers.start due' sent' numbers.work) numbers.deadline order waiting
after_order by s st numbers due due' sent' old order waiting n g h z a b l =
    record {
      good_set = n.good_set;
      good_state = g;
      before_last = h;
      packets = packets_hold s st numbers due' sent' n g a.below b.below (λ k d. (a.above k d ∙ z k d, b.above k d));
      in_order = ap (keep ready) l.in_order ∙ keep_all ready ready_order all ∙ ap (ordered (ahead_by (keys_by by due')) ready) (sym (used_count s));
      low = λ i h. omega (arith, (each i h).0, accepted_count s n.good_set);
      few = l.few;
      long_order = l.long;
      long_sent = b.long ∙ g.long;
      small = n.small_deadline;
    }
  where
    ready : ℕ → Bool
    ready = ready_by (packets_of numbers.start due' sent' numbers.work) st.slot.0

    ready_order : List ℕ
    ready_order = ordered (ahead_by (keys_by by due')) ready s.count

    all : Each (λ k. ready k ≡ true) ready_order
    all = each_wide (λ k. (k < s.count) × (ready k ≡ true)) (λ k. ready k ≡ true) (λ k e. e.1) ready_order
        (ordered_each (ahead_by (keys_by by due')) ready s.count)

    each : (i : ℕ) → i < waiting → (get_or order i 0 < s.count) × (ready (get_or order i 0) ≡ true)
    each = waiting_each (ahead_by (keys_by by due')) ready s.count order waiting (omega (arith, l.few, l.long)) l.in_order

-- a run as far as slot t
pub record RanTo (by : Order) (s : FlowSet) (fault : Fault) (st : State) (delivered dropped t : ℕ) : Type 0 where
  pub run_is : run_with (order_of by) (used s) t ≡ record { fault = fault; last = st; delivered = delivered; dropped = dropped }
  pub good_state : GoodState (used s) st
  pub slot_is : st.slot.0 ≡ t

pub ran_none : (by : Order) (s : FlowSet) (fault : Fault) (st : State) → fault ≡ record_fault (used s) → st ≡ fresh_state → RanTo by s fault st 0 0 0
ran_none by s fault st e f =
    rw (e, f) (record { run_is = run_none (order_of by) (used s); good_state = fresh_good (used s); slot_is = refl })

-- one slot more
pub ran_next : (by : Order) (s : FlowSet) (fault : Fault) (st : State) (d x t : ℕ) → good (record_fault (used s)).refusal ≡ true → t < last_slot
    → RanTo by s fault st d x t → (next : State) (e o : ℕ) → let answer = step_if_with (order_of by) (used s) st true in
    answer.next ≡ next → answer.deliveries ≡ e → answer.drops ≡ o → RanTo by s fault next (d + e) (x + o) (t + 1)
ran_next by s fault st d x t g l r next e o a b c =
    let u : FlowSet = used s in
    let h : st.slot.0 < last_slot = rw r.slot_is l in
    let i = step_with_good (order_of by) u st g (good_not_bad u st r.good_state) h in
    let k : run_with (order_of by) u (t + 1) ≡ record { fault = fault; last = next; delivered = d + e; dropped = x + o } =
    run_with_next (order_of by) u t ∙ rw r.run_is (rw i (rw (a, b, c))) in
    record {
      run_is = k;
      good_state = rw (← a) (next_good (order_of by) u st r.good_state h);
      slot_is = rw (← a) (next_slot (order_of by) u st ∙ rw r.slot_is);
    }

pub ran_idle : (by : Order) (s : FlowSet) (fault : Fault) (st : State) (d x t : ℕ) → good (record_fault (used s)).refusal ≡ true → t < last_slot
    → RanTo by s fault st d x t → (sent : List ℕ) → Idle st sent (step_if_with (order_of by) (used s) st true)
    → RanTo by s fault (record { slot = record { 0 = t + 1 }; sent = sent }) d x (t + 1)
ran_idle by s fault st d x t g l r sent i =
    let n : (step_if_with (order_of by) (used s) st true).next ≡ record { slot = record { 0 = t + 1 }; sent = sent } =
    i.next_is ∙ ap (λ (y : ℕ). record { slot = record { 0 = y + 1 }; sent = sent }) r.slot_is in
    let w = ran_next by s fault st d x t g l r (record { slot = record { 0 = t + 1 }; sent = sent }) 0 0 n i.none_delivered i.none_dropped in
    rw (add-zero d, add-zero x) at w
