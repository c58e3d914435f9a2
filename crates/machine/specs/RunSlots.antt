-- A run goes from slot to slot with its arrays: the order of the packets holds until the next release, and a slot needs no more than how many
-- are delivered and dropped, and each flow's next count.
use Rattle.std.specs.Prelude.{◌≡◌, refl, ◌⊎◌, Bool, true, ◌&&◌, List, [], ℕ, ◌+◌, ◌≤◌, ◌<◌, leb, ltb, length, get_or, take}
use Rattle.std.proofs.Math.Path.{sym, ap}
use Rattle.std.proofs.Common.{ap₂, ◌∙◌, inl, inr, zero-le, le_refl, arith, ltb-true, lt-ltb, leb-true, le-leb}
use Rattle.model.specs.declared.kinds.FlowSet.{FlowSet}
use Rattle.model.specs.declared.kinds.State.{State}
use Rattle.model.specs.declared.kinds.Order.{Order}
use Rattle.model.specs.declared.answers.Fault.{Fault}
use Rattle.model.specs.declared.answers.Stepped.{Stepped}
use Rattle.model.specs.Limits.{last_slot, most_channels, most_flows}
use Rattle.model.specs.Sets.{memb, used}
use Rattle.model.specs.Sums.{bit}
use Rattle.document.specs.Delay.{ways}
use Rattle.document.specs.Machine.{had_at, order_of, ordered, place, placed_with}
use Rattle.laws.specs.Accepted.{accepted, ones_pos}
use Rattle.laws.specs.Members.{memb_empty}
use Rattle.laws.specs.SumLaws.{and_l, and_r}
use Rattle.laws.specs.Used.{used_count}
use Rattle.machine.specs.ArrayLists.{Through}
use Rattle.machine.specs.LentArrays.{Numbers, Links, Packets, packets_of, RunArrays, run_arrays_of, releases_in, packets_in}
use Rattle.machine.specs.PacketNumbers.{ahead_by, keys_by, ready_by, accepted_count}
use Rattle.machine.specs.ReadyOrder.{keep, keep_ordered, waiting_each}
use Rattle.machine.specs.PlacedChoice.{Choice, choice_by, clash_of, link_by, ordered_by, place_some, placed_by, placed_ready}
use Rattle.machine.specs.LinkColumns.{Routes, link_in}
use Rattle.machine.specs.SlotAnswers.{delivered_to, dropped_to, count_by}
use Rattle.machine.specs.SlotByColumns.{AfterNumbers, AfterOrder, placed_is, slot_answer, idle_slot, RanTo, ran_next, ran_idle}
use Rattle.machine.specs.NextReleases.{NextReleases, NoneBefore, release_started, Released, packets_after_releases, releases_next}

-- every ready packet is among the waiting, which are in their order
abbrev pub WaitingInOrder : Order → ℕ → ℕ → Packets → List ℕ → ℕ → Type 0
WaitingInOrder by count t p order waiting =
    (old : ℕ → Bool) × (take waiting order ≡ ordered (ahead_by (keys_by by p.due)) old count) × ((k : ℕ) → k < count → ready_by p t k ≡ true → old k ≡ true)

-- just before slot t: no release comes before the soonest, and until then the packets wait in their order
pub record BeforeReleases (by : Order) (s : FlowSet) (t : ℕ) (numbers : Numbers) (run : RunArrays) : Type 0 where
  pub turns : NextReleases s t numbers run.due run.next
  pub soon : NoneBefore s.count run.soonest run.next
  pub in_order : t < run.soonest → WaitingInOrder by s.count t (packets_in numbers run) run.order run.waiting
  pub long_due : length run.due ≡ most_flows
  pub long_next : length run.next ≡ most_flows
  pub long_order : length run.order ≡ most_flows
  pub few : run.waiting ≤ most_flows

-- slot t with its releases made
pub record AfterReleases (by : Order) (count t : ℕ) (numbers : Numbers) (before after : RunArrays) : Type 0 where
  pub released : Released count t numbers.period numbers.deadline (releases_in before) (releases_in after)
  pub soon : NoneBefore count after.soonest after.next
  pub in_order : WaitingInOrder by count t (packets_in numbers after) after.order after.waiting
  pub long_order : length after.order ≡ most_flows
  pub few : after.waiting ≤ most_flows

abbrev pub state_at : ℕ → List ℕ → State
state_at t sent = record { slot = record { 0 = t }; sent = sent }

-- the flows that a state's slot places are the first of an array, and each has had one transmission more after it
pub record PlacedIn (by : Order) (s : FlowSet) (st : State) (counts chosen : List ℕ) (placed : ℕ) : Type 0 where
  pub list : take placed chosen ≡ placed_with (order_of by) (used s) st
  pub one_more : (k : ℕ) → memb k (placed_with (order_of by) (used s) st) ≡ true → get_or counts k 0 ≡ had_at (used s) st k + 1
  pub few : placed ≤ most_channels
  pub long : length chosen ≡ most_channels

-- what a slot places and counts in which packets wait
pub record AfterSlot (count t m : ℕ) (p : Packets) (links : Links) (order : List ℕ) (waiting : ℕ) (counts : List ℕ) (delivered dropped left : ℕ)
    (chosen : List ℕ) (placed : ℕ) : Type 0 where
  pub marked : List ℕ
  pub choice : Choice (choice_by m t p (link_in p.sent links) order waiting) chosen marked placed
  pub delivered_is : delivered ≡ length (delivered_to p.sent p.work marked count)
  pub dropped_is : dropped ≡ length (dropped_to t p marked count)
  pub counted : Through (count_by p.sent marked) count p.sent counts
  pub left_is : (left ≡ waiting) ⊎ ((left ≡ 0) × (placed ≡ 0))

-- an accepted set has a channel
some_way : (s : FlowSet) (numbers : Numbers) → AfterNumbers s numbers → 0 < ways (used s)
some_way s numbers n = ones_pos (used s).map.0 (accepted (used s) n.good_set).some_channel

module _ (by : Order) (s : FlowSet) (t : ℕ) (numbers : Numbers) (n : AfterNumbers s numbers) (before : RunArrays) (a : BeforeReleases by s t numbers before)
    (fault : Fault) (delivered dropped : ℕ) (run : RanTo by s fault (state_at t before.sent) delivered dropped t) (l : t < last_slot)
    (after : RunArrays) (w : AfterReleases by s.count t numbers before after) where
  -- the packets of the slot
  abbrev p : Packets
  p = packets_in numbers after

  -- all is there that the slot's answer is made from
  pub order_after_releases : AfterOrder by s (state_at t before.sent) p numbers.deadline after.order after.waiting
  order_after_releases =
      record {
        good_set = n.good_set;
        good_state = run.good_state;
        before_last = l;
        packets = packets_after_releases s (state_at t before.sent) numbers _ _ _ n run.good_state a.turns w.released;
        in_order = ap (keep new) w.in_order.1 ∙ keep_ordered (keys_by by after.due) w.in_order.0 new s.count w.in_order.2
            ∙ ap (ordered (ahead_by (keys_by by after.due)) new) (sym (used_count s));
        low = λ i h. omega (arith, (each i h).0, accepted_count s n.good_set);
        few = w.few;
        long_order = w.long_order;
        long_sent = w.released.sents.long ∙ run.good_state.long;
        small = n.small_deadline;
      }
    where
      new : ℕ → Bool
      new = ready_by p t

      each : (i : ℕ) → i < after.waiting → (get_or after.order i 0 < s.count) × (w.in_order.0 (get_or after.order i 0) ≡ true)
      each =
          waiting_each (ahead_by (keys_by by after.due)) w.in_order.0 s.count after.order after.waiting
          (omega (arith, w.few, w.long_order)) w.in_order.1

  next_releases : NextReleases s (t + 1) numbers after.due after.next
  next_releases = releases_next s (state_at t before.sent) numbers _ _ _ n run.good_state a.turns w.released

  -- a packet that is ready in the next slot, if that has no release, was ready in this one
  still : (counts : List ℕ) (k : ℕ) → k < s.count → get_or after.sent k 0 ≤ get_or counts k 0 → t + 1 < after.soonest
      → ready_by (packets_of numbers.start after.due counts numbers.work) (t + 1) k ≡ true → ready_by p t k ≡ true
  still counts k h c m e =
      let A : Bool = leb (get_or numbers.start k 0) (t + 1) in
      let B : Bool = ltb (t + 1) (get_or after.due k 0) in
      let C : Bool = ltb (get_or counts k 0) (get_or numbers.work k 0) in
      let x = and_l (A && B) C e in
      let d = ltb-true (t + 1) (get_or after.due k 0) (and_r A B x) in
      let g = ltb-true (get_or counts k 0) (get_or numbers.work k 0) (and_r (A && B) C e) in
      let f = release_started _ _ _ _ _ _ (next_releases.turn k h) (omega (arith, w.soon k h)) (leb-true _ _ (and_l A B x)) in
      let begun = le-leb (get_or numbers.start k 0) t (omega arith) in
      let in_time = lt-ltb t (get_or after.due k 0) (omega arith) in
      let short = lt-ltb (get_or after.sent k 0) (get_or numbers.work k 0) (omega arith) in
      rw (begun, in_time, short)

  -- so they wait in their order on
  pub before_next_releases : (counts : List ℕ) (left : ℕ) → ((k : ℕ) → k < s.count → get_or after.sent k 0 ≤ get_or counts k 0) → left ≤ most_flows
      → WaitingInOrder by s.count t p after.order left
      → BeforeReleases by s (t + 1) numbers (run_arrays_of after.due after.next counts after.order after.soonest left)
  before_next_releases counts left c f m =
      record {
        turns = next_releases;
        soon = w.soon;
        in_order = λ h. (m.0, m.1, λ k b e. m.2 k b (still counts k b (c k b) h e));
        long_due = w.released.dues.long ∙ a.long_due;
        long_next = w.released.nexts.long ∙ a.long_next;
        long_order = w.long_order;
        few = f;
      }

  -- a slot in which no packet waits
  none_ordered : after.waiting ≡ 0 → ordered_by by (used s) t p ≡ []
  unfolding keep
  none_ordered e = sym order_after_releases.in_order ∙ ap (λ (z : ℕ). keep (ready_by p t) (take z after.order)) e

  none_placed : after.waiting ≡ 0 → placed_with (order_of by) (used s) (state_at t before.sent) ≡ []
  unfolding place
  none_placed e =
      sym (placed_by by (used s) (state_at t before.sent) p numbers.deadline order_after_releases.packets)
      ∙ ap (place (ways (used s)) (clash_of (link_by (used s) after.sent)) []) (none_ordered e)

  pub run_idle : after.waiting ≡ 0 → (chosen : List ℕ) → length chosen ≡ most_channels
      → RanTo by s fault (state_at (t + 1) after.sent) delivered dropped (t + 1) × BeforeReleases by s (t + 1) numbers after
      × PlacedIn by s (state_at t before.sent) after.sent chosen 0
  run_idle e chosen long =
      let r = order_after_releases in
      let none = none_placed e in
      let idle = idle_slot by s (state_at t before.sent) p numbers.deadline after.order after.waiting r (none_ordered e) in (
        ran_idle by s fault (state_at t before.sent) delivered dropped t n.good_set l run after.sent idle,
        before_next_releases after.sent after.waiting (λ k h. le_refl _) w.few w.in_order,
        record { list = sym none; one_more = λ k h. absurd (memb_empty k (rw none at h)); few = zero-le; long = long },
      )

  -- and one in which some wait
  module _ (links : Links) (q : Routes s links) (counts : List ℕ) (e x left : ℕ) (chosen : List ℕ) (placed : ℕ)
      (c : AfterSlot s.count t (ways (used s)) p links after.order after.waiting counts e x left chosen placed) where
    placed_by_slot : Choice (placed_with (order_of by) (used s) (state_at t before.sent)) chosen c.marked placed
    placed_by_slot =
        rw (placed_is by s (state_at t before.sent) p numbers.deadline after.order after.waiting order_after_releases links q) at c.choice

    waiting_left : (left ≡ after.waiting) ⊎ ((left ≡ 0) × (placed ≡ 0)) → WaitingInOrder by s.count t p after.order left
    waiting_left (inl h) = rw h w.in_order
    waiting_left (inr h) =
        let r = order_after_releases in
        let new : ℕ → Bool = ready_by p t in
        let z : choice_by (ways (used s)) t p (link_in after.sent links) after.order after.waiting ≡ [] =
        sym c.choice.list ∙ ap (λ (y : ℕ). take y chosen) h.1 in
        let none = sym r.in_order ∙ place_some (ways (used s)) _ _ (some_way s numbers n) z in
        (new, ap (λ (y : ℕ). take y after.order) h.0 ∙ sym none ∙ ap (ordered (ahead_by (keys_by by after.due)) new) (used_count s), λ k b y. y)

    pub run_placed : RanTo by s fault (state_at (t + 1) counts) (delivered + e) (dropped + x) (t + 1)
        × BeforeReleases by s (t + 1) numbers (run_arrays_of after.due after.next counts after.order after.soonest left)
        × PlacedIn by s (state_at t before.sent) counts chosen placed
    run_placed =
        let st : State = state_at t before.sent in
        let r = order_after_releases in
        let y = placed_by_slot in
        let b = slot_answer by s st p numbers.deadline after.order after.waiting r chosen c.marked placed y
        _ e _ x _ counts refl c.delivered_is refl c.dropped_is refl c.counted in (
          ran_next by s fault st delivered dropped t n.good_set l run (state_at (t + 1) counts) e x
              (ap (λ (z : Stepped). z.next) (sym b)) (ap (λ (z : Stepped). z.deliveries) (sym b)) (ap (λ (z : Stepped). z.drops) (sym b)),
          before_next_releases counts left (λ k h. omega (arith, c.counted.below k h)) (few_left c.left_is) (waiting_left c.left_is),
          record {
            list = y.list;
            one_more = λ k h.
                c.counted.below k (rw (used_count s) at (placed_ready (order_of by) (used s) st k h).0)
                ∙ ap₂ (λ (a b : ℕ). a + b) (r.packets.hads k) (y.marks k ∙ ap bit h);
            few = y.few;
            long = y.long_chosen;
          },
        )
      where
        few_left : (left ≡ after.waiting) ⊎ ((left ≡ 0) × (placed ≡ 0)) → left ≤ most_flows
        few_left (inl h) = omega (arith, w.few)
        few_left (inr h) = omega (arith, h.0)
