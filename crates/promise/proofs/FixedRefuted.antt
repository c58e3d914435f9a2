-- Request 4's promise says something, and it is not the other machine's nor another test's. X2 meets its premises; on X1 the machine with fixed
-- priority breaks the promise of document 01's tightened test; X4 and X5 refute the test without the bound of l, and rounded down. The checker
-- computes the slots.
use Rattle.std.specs.Prelude.{◌≡◌, refl, true, false, List, ℕ, zero, suc, ◌<◌, get_or}
use Rattle.std.proofs.Common.{sym, ap, ◌∙◌, le_refl, arith}
use Rattle.std.specs.Int.Count.{ones, ones_in}
use Rattle.model.specs.declared.kinds.FlowSet.{FlowSet}
use Rattle.model.specs.declared.answers.FixedVerdict.{FixedVerdict}
use Rattle.model.specs.{Limits.{last_slot}, Refusals.{good}, Sums.{sum_to, any_to, all_to}, Sets.{flow_at, used, any_of, meet, list_to, filter_to}}
use Rattle.document.specs.Text.{same, lines, ended, fields, all_digits, value_from, is_number, all_numbers, values_of, well_formed, numbers_of}
use Rattle.document.specs.Reader.{repeat_at, flow_fault, flows_fault, record_fault, flow_of, with_flow, first_line_fault, flow_line_fault, read_flows, set_of, read_lines, read_text}
use Rattle.document.specs.Delay.{work_at, conflict_work, share, over_others, bound_with, basic_bound, value_at, deadlines, lowered, round_to, rounds_in, reached, tight_bound, admits, verdict_of, bounds_fault}
use Rattle.document.specs.Machine.{release, ready, next_count, insert, ordered, place, channels_to, radio_channel, send_of, sends_from, deliveries_of, bad_state, step_fault, count_with, delivered_with, dropped_with, next_with, placed_with, step_with}
use Rattle.document.specs.Fixed.{fixed_step, packets_first, bound_after, some_over, judge_next, fixed_to, fixed_bound, judged, fixed_verdict_of, fixed_bounds_of}
use Rattle.document.specs.Table.{bytes}
use Rattle.promise.specs.Promise.{report, send, Kept, PromiseOf, tightened, fixed}
use Rattle.promise.specs.Named.{set_from, Verdicts}
use Rattle.promise.specs.Flows.{FlowKept}
use Rattle.promise.proofs.Demand.{text_promise}
use Rattle.promise.specs.Refuted.{one_less}
use Rattle.promise.proofs.Refuted.{unmade, sole}
use Rattle.promise.proofs.FixedPromise.{fixed_verdict_good, fixed_bound_is, fixed_text_law}
use Rattle.promise.specs.FixedRefuted.{x1, x2, x4, x5, bounds_by, counting, without_bound, rounded_down}

-- with the request's own n it is the request's test
bounds_own : (s : FlowSet) (k : ℕ) → bounds_by packets_first s k ≡ fixed_to s k
unfolding bounds_by fixed_to judge_next bound_after
bounds_own s zero = refl
bounds_own s (suc k) = rw (bounds_own s k)

pub counting_own : (s : FlowSet) → good (record_fault s).refusal ≡ true
    → ((counting packets_first).admits s ≡ fixed.admits s) × ((k : ℕ) → k < s.count → (counting packets_first).bound s k ≡ fixed.bound s k)
unfolding counting fixed_bound
counting_own s g =
    let e = bounds_own s s.count in (
      ap (λ (bs : List ℕ). admits s (λ k. get_or bs k 0)) e ∙ sym (ap (λ (v : FixedVerdict). v.admitted) (fixed_verdict_good s g)),
      λ k l. ap (λ (bs : List ℕ). get_or bs k 0) e ∙ sym (fixed_bound_is s g k l),
    )

-- what is computed of the sets and of slots of the machine
record OfX5 (s : FlowSet) : Type 0 where
  flows : s.count ≡ 2
  one : (work_at s 1 ≡ 1) × (release (flow_at s 1) 2 ≡ 7)
  own : (fixed.admits s ≡ true) × (fixed.bound s 1 ≡ 2)
  down : ((counting rounded_down).admits s ≡ true) × ((counting rounded_down).bound s 1 ≡ 1)
  slot_7 : ((report fixed_step s 7).sends ≡ 1) × ((send (report fixed_step s 7) 0).flow ≡ 0)

record Computed : Type 0 where
  of_x1 : Verdicts x1 false true
  over_x1 : (fixed.admits (set_from x1) ≡ false) × ((fixed_bounds_of (set_from x1) 1).judged ≡ true)
  lost_x1 : ((report fixed_step (set_from x1) 1).drops ≡ 1) × (get_or (report fixed_step (set_from x1) 1).dropped 0 0 ≡ 1)
  read_x2 : good (read_text (bytes x2)).fault.refusal ≡ true
  of_x2 : fixed.admits (set_from x2) ≡ true
  read_x4 : good (read_text (bytes x4)).fault.refusal ≡ true
  of_x4 : (fixed.admits (set_from x4) ≡ false) × ((counting without_bound).admits (set_from x4) ≡ true)
  lost_x4 : (report fixed_step (set_from x4) 5).drops ≡ 1
  read_x5 : good (read_text (bytes x5)).fault.refusal ≡ true
  of_x5 : OfX5 (set_from x5)

computed : Computed
unfolding bounds_by counting report bytes same lines ended fields all_digits value_from is_number all_numbers values_of well_formed numbers_of repeat_at flow_fault flows_fault record_fault flow_of with_flow first_line_fault flow_line_fault read_flows set_of read_lines read_text conflict_work share over_others bound_with basic_bound value_at deadlines lowered round_to rounds_in reached tight_bound admits verdict_of bounds_fault bound_after some_over judge_next fixed_to fixed_bound judged fixed_verdict_of fixed_bounds_of ready next_count insert ordered place placed_with channels_to radio_channel send_of sends_from count_with delivered_with deliveries_of dropped_with next_with bad_state step_fault step_with sum_to any_to all_to used any_of meet list_to filter_to ones ones_in
computed =
    record {
      of_x1 = record { read = refl; by_basic = refl; by_tightened = refl };
      over_x1 = (refl, refl);
      lost_x1 = (refl, refl);
      read_x2 = refl;
      of_x2 = refl;
      read_x4 = refl;
      of_x4 = (refl, refl);
      lost_x4 = refl;
      read_x5 = refl;
      of_x5 = record { flows = refl; one = (refl, refl); own = (refl, refl); down = (refl, refl); slot_7 = (refl, refl) };
    }

-- X2 is admitted, and keeps its bounds to the last slot there is.
pub x2_kept : Kept fixed_step (set_from x2) (fixed.bound (set_from x2)) last_slot
x2_kept = fixed_text_law (bytes x2) computed.read_x2 computed.of_x2 last_slot (le_refl last_slot)

-- The machine with fixed priority does not keep the promise of document 01's tightened test, which admits X1: slot 1 drops a packet,
pub other_test_refuted : PromiseOf tightened fixed_step → ⊥
other_test_refuted f =
    let j = computed.of_x1 in
    let k = text_promise tightened fixed_step f (bytes x1) j.read j.by_tightened 2 (omega arith) in
    omega (arith, k.undropped 1 (omega arith), computed.lost_x1.0)

-- and it is of flow 1, the first one over its deadline: that a flow is judged is not enough.
pub over_refuted : (b : ℕ) → FlowKept fixed_step (set_from x1) 1 b 2 → ⊥
over_refuted b k = let c = computed.lost_x1 in k.undropped 1 0 (omega arith) (omega arith) c.1

-- Without the bound of l the test admits X4, and slot 5 drops a packet.
pub without_bound_refuted : PromiseOf (counting without_bound) fixed_step → ⊥
without_bound_refuted f =
    let k = text_promise (counting without_bound) fixed_step f (bytes x4) computed.read_x4 computed.of_x4.1 6 (omega arith) in
    omega (arith, k.undropped 5 (omega arith), computed.lost_x4)

-- 1 is no bound of X5's flow 1: its packet of slot 7 is not sent there, since flow 0 is.
x5_refuted : (bound : ℕ → ℕ) → bound 1 ≡ 1 → Kept fixed_step (set_from x5) bound 8 → ⊥
x5_refuted bound b k =
    let c = computed.of_x5 in
    unmade fixed_step (set_from x5) 1 2 (bound 1) c.one.0 (λ t p h l i e. slot t p (omega (arith, c.one.1)) i e)
    (k.made 1 2 (omega (arith, c.flows)) (omega (arith, c.one.1)))
  where
    slot : (t p : ℕ) → t ≡ 7 → p < (report fixed_step (set_from x5) t).sends → (send (report fixed_step (set_from x5) t) p).flow ≡ 1 → ⊥
    slot t p h = rw h (sole fixed_step (set_from x5) 7 p computed.of_x5.slot_7)

-- So n is not rounded down,
pub rounded_down_refuted : PromiseOf (counting rounded_down) fixed_step → ⊥
rounded_down_refuted f =
    let c = computed.of_x5.down in
    x5_refuted _ c.1 (text_promise (counting rounded_down) fixed_step f (bytes x5) computed.read_x5 c.0 8 (omega arith))

-- and the request's bounds cannot all be one less.
pub fixed_exact : PromiseOf (one_less fixed) fixed_step → ⊥
fixed_exact f =
    let c = computed.of_x5.own in
    x5_refuted _ (omega arith) (text_promise (one_less fixed) fixed_step f (bytes x5) computed.read_x5 c.0 8 (omega arith))
