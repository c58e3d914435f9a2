-- `run_slot` makes the slot's releases and, where packets wait, counts the slot. Assumes nothing.
use Rattle.machine.specs.SlotByColumns.{sent_le, ready_short}
use Rattle.machine.specs.RunSoFar.{slot_order, slot_idle, slot_placed}
use native.Mathlib.Omega.{arith}
use borrow.Author.Rules.{rules}
use Rattle.machine.proofs.runs.run_slot.Goals as goal

pub release_packets-requires : goal.release_packets-requires
release_packets-requires c =
    let u = c.requires.1.run_so_far in
    let a = u.before_releases in
    record {
      t_le_last_slot = (omega (arith, c.requires.0), a.few);
      none_before = λ k h. a.soon k (omega (arith, h, u.count_is));
      waiting_in_order = λ h. rw u.count_is (a.in_order h);
    }

pub returns-then-run-eq0 : goal.returns-then-run-eq0
returns-then-run-eq0 c = λ s fault d u. slot_idle _ s fault _ _ _ d _ _ _ u c.requires.0 _ c.release_packets.ensures c.if-run-eq0.true _ (search rules)

pub busy_slot-requires : goal.busy_slot-requires
busy_slot-requires c =
    let p = c.requires in
    let u = p.1.run_so_far in
    let r = slot_order _ _ _ _ _ _ _ _ _ _ u p.0 _ c.release_packets.ensures in
    record {
      t_le_last_slot = (omega (arith, p.0), r.few);
      flows_to = r.low;
      by_index = sent_le _ _ _ _ _ _ _ r;
      links_there = ready_short _ _ _ _ _ _ _ r _ u.set_links;
    }

pub returns : goal.returns
returns c = λ s fault d u.
    rw c.busy_slot.ensures.run (slot_placed _ s fault _ _ _ d _ _ _ u c.requires.0 _ c.release_packets.ensures _ _ _ _ _ _ c.busy_slot.ensures.slot)
