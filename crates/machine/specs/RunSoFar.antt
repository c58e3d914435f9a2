-- A run on its way: its arrays just before a slot, for any set whose numbers they are, and what a slot makes of them.
use Rattle.std.specs.Prelude.{◌≡◌, refl, List, ℕ, ◌+◌, ◌≤◌, ◌<◌, get_or, length, replicate}
use Rattle.std.proofs.Common.{sym, ap, ◌∙◌, zero-le, arith, add-zero}
use Rattle.std.specs.Int.Count.{ones}
use Rattle.model.specs.declared.kinds.ChannelMap.{ChannelMap}
use Rattle.model.specs.declared.kinds.FlowSet.{FlowSet}
use Rattle.model.specs.declared.kinds.Order.{Order}
use Rattle.model.specs.declared.answers.Fault.{Fault}
use Rattle.model.specs.Limits.{last_slot, most_channels, most_flows}
use Rattle.document.specs.Reader.{record_fault}
use Rattle.model.specs.Sets.{used}
use Rattle.laws.specs.Used.{used_map}
use Rattle.machine.specs.ArrayLists.{Through, get_or_zeros}
use Rattle.machine.specs.LentArrays.{Numbers, Links, RunArrays, run_arrays_of, packets_in}
use Rattle.machine.specs.PacketNumbers.{due_by}
use Rattle.machine.specs.LinkColumns.{Routes}
use Rattle.machine.specs.SlotByColumns.{AfterNumbers, AfterOrder, RanTo, ran_none}
use Rattle.machine.specs.NextReleases.{release_at_start}
use Rattle.machine.specs.RunSlots.{BeforeReleases, AfterReleases, AfterSlot, PlacedIn, state_at, order_after_releases, run_idle, run_placed}

-- what a run counts: the packets delivered and dropped so far
pub record Counts : Type 0 where
  pub delivered : ℕ
  pub dropped : ℕ

abbrev pub counts_of : ℕ → ℕ → Counts
counts_of delivered dropped = record { delivered = delivered; dropped = dropped }

-- a run of a set just before slot t
pub record RunSoFar (by : Order) (s : FlowSet) (fault : Fault) (count m t : ℕ) (counts : Counts) (numbers : Numbers) (links : Links)
    (run : RunArrays) : Type 0 where
  pub count_is : count ≡ s.count
  pub ways_is : m ≡ ones (used s).map.0
  pub ways_le : m ≤ most_channels
  pub set_numbers : AfterNumbers s numbers
  pub set_links : Routes s links
  pub before_releases : BeforeReleases by s t numbers run
  pub ran : RanTo by s fault (state_at t run.sent) counts.delivered counts.dropped t

-- an accepted set's run before its first slot
pub run_before_first : (by : Order) (s : FlowSet) (fault : Fault) (count m : ℕ) (numbers : Numbers) (links : Links) (due : List ℕ) → count ≡ s.count → m ≡ ones s.map.0
    → m ≤ most_channels → AfterNumbers s numbers → Routes s links → fault ≡ record_fault (used s) → length numbers.start ≡ most_flows
    → Through (due_by numbers.start numbers.period numbers.deadline 0) count (replicate most_flows 0) due
    → RunSoFar by s fault count m 0 (counts_of 0 0) numbers links (run_arrays_of due numbers.start (replicate most_flows 0) (replicate most_flows 0) 0 0)
run_before_first by s fault count m numbers links due e w l p q f n d =
    record {
      count_is = e;
      ways_is = w ∙ ap (λ (c : ChannelMap). ones c.0) (sym (used_map s));
      ways_le = l;
      set_numbers = p;
      set_links = q;
      before_releases = record {
        turns = record {
          turn = λ k h. rw (d.below k (omega (arith, h, e))) (release_at_start (get_or numbers.start k 0) (get_or numbers.period k 0) (get_or numbers.deadline k 0));
          none = λ k h. d.above k (omega (arith, h, e)) ∙ get_or_zeros most_flows k;
        };
        soon = λ k h. zero-le;
        in_order = λ h. absurd (omega arith);
        long_due = d.long;
        long_next = n;
        long_order = refl;
        few = zero-le;
      };
      ran = ran_none _ _ _ _ f refl;
    }

-- some set's run is on its way
pub record RunOfSome (by : Order) (count m t : ℕ) (numbers : Numbers) (links : Links) (run : RunArrays) : Type 0 where
  pub set : FlowSet
  pub fault : Fault
  pub counts : Counts
  pub run_so_far : RunSoFar by set fault count m t counts numbers links run

module _ (by : Order) (s : FlowSet) (fault : Fault) (count m t : ℕ) (counts : Counts) (numbers : Numbers) (links : Links) (before : RunArrays)
    (u : RunSoFar by s fault count m t counts numbers links before) (l : t < last_slot)
    (after : RunArrays) (w : AfterReleases by count t numbers before after) where
  releases_made : AfterReleases by s.count t numbers before after
  releases_made = rw (← u.count_is) w

  -- once its releases are made, all is there that a slot's answer is made from
  pub slot_order : AfterOrder by s (state_at t before.sent) (packets_in numbers after) numbers.deadline after.order after.waiting
  slot_order = order_after_releases by s t numbers u.set_numbers before u.before_releases fault _ _ u.ran l after releases_made

  -- the run after the slot
  one_slot_more : (d x : ℕ) (run : RunArrays) → RanTo by s fault (state_at (t + 1) run.sent) d x (t + 1) → BeforeReleases by s (t + 1) numbers run
      → RunSoFar by s fault count m (t + 1) (counts_of d x) numbers links run
  one_slot_more d x run r b =
      record {
        count_is = u.count_is;
        ways_is = u.ways_is;
        ways_le = u.ways_le;
        set_numbers = u.set_numbers;
        set_links = u.set_links;
        before_releases = b;
        ran = r;
      }

  -- a slot in which no packet waits
  pub slot_idle : after.waiting ≡ 0 → (chosen : List ℕ) → length chosen ≡ most_channels
      → RunSoFar by s fault count m (t + 1) (counts_of (counts.delivered + 0) (counts.dropped + 0)) numbers links after
      × PlacedIn by s (state_at t before.sent) after.sent chosen 0
  slot_idle e chosen long =
      let q = run_idle by s t numbers u.set_numbers before u.before_releases fault _ _ u.ran l after releases_made e chosen long in
      (one_slot_more _ _ after (rw (add-zero counts.delivered, add-zero counts.dropped) q.0) q.1, q.2)

  -- and one in which some wait
  pub slot_placed : (sent : List ℕ) (e x left : ℕ) (chosen : List ℕ) (placed : ℕ)
      → AfterSlot count t m (packets_in numbers after) links after.order after.waiting sent e x left chosen placed
      → RunSoFar by s fault count m (t + 1) (counts_of (counts.delivered + e) (counts.dropped + x)) numbers links
      (run_arrays_of after.due after.next sent after.order after.soonest left)
      × PlacedIn by s (state_at t before.sent) sent chosen placed
  slot_placed sent e x left chosen placed c =
      let p = packets_in numbers after in
      let a : AfterSlot s.count t m p links after.order after.waiting sent e x left chosen placed = rw (← u.count_is) c in
      let b : AfterSlot s.count t (ones (used s).map.0) p links after.order after.waiting sent e x left chosen placed = rw (← u.ways_is) a in
      let q = run_placed by s t numbers u.set_numbers before u.before_releases fault _ _ u.ran l after releases_made
      links u.set_links sent e x left chosen placed b in
      (one_slot_more _ _ _ q.0 q.1, q.2)

-- one slot of a run: for any set whose numbers these are, what was so far is so far after the slot, with what it delivered and dropped; and the
-- placed flows are the first of an array
abbrev pub SlotRuns : Order → ℕ → ℕ → ℕ → Numbers → Links → RunArrays → RunArrays → ℕ → ℕ → List ℕ → ℕ → Type 0
SlotRuns by count m t numbers links before after delivered dropped chosen placed =
    (s : FlowSet) (fault : Fault) (c : Counts) → RunSoFar by s fault count m t c numbers links before
    → RunSoFar by s fault count m (t + 1) (counts_of (c.delivered + delivered) (c.dropped + dropped)) numbers links after
    × PlacedIn by s (state_at t before.sent) after.sent chosen placed

-- all slots of a run from the first: for any set whose numbers these are, the run over this number of slots ends with these counts
abbrev pub SlotsRun : Order → ℕ → ℕ → ℕ → Numbers → Links → RunArrays → List ℕ → ℕ → ℕ → Type 0
SlotsRun by slots count m numbers links before sent delivered dropped =
    (s : FlowSet) (fault : Fault) → RunSoFar by s fault count m 0 (counts_of 0 0) numbers links before
    → RanTo by s fault (state_at slots sent) delivered dropped slots
