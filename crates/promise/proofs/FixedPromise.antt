-- Request 4: demand 3 holds of the machine with fixed priority and its test. Flow by flow, and beyond what was asked: in any accepted set every flow
-- before the first one over its deadline keeps its bound and loses no packet, whatever the later ones do.
use Rattle.std.specs.Prelude.{◌≡◌, refl, true, ℕ, ◌+◌, ◌≤◌, ◌<◌, ◌^◌}
use Rattle.std.proofs.Common.{sym, ap, ◌∙◌, le_of_eq, arith}
use Rattle.std.proofs.Math.Decide.{dec_le}
use borrow.Author.Tests.{ltb-true, leb-true, lt-leb}
use Rattle.model.specs.declared.kinds.FlowSet.{FlowSet}
use Rattle.model.specs.declared.answers.{FixedVerdict.{FixedVerdict}, FixedBounds.{FixedBounds}}
use Rattle.model.specs.{Limits.{most_channels, last_slot}, Refusals.{good}, Sets.{flow_at, used}}
use Rattle.document.specs.Reader.{record_fault}
use Rattle.document.specs.Delay.{ways, period, deadline, work_at, conflict_work, admits, bounds_fault}
use Rattle.document.specs.Machine.{lower, release, run_with}
use Rattle.document.specs.Fixed.{fixed_step, bound_after, fixed_list, fixed_bound, judged, fixed_verdict_if, fixed_verdict_of, fixed_bounds_if, fixed_bounds_of}
use Rattle.document.specs.ForC.{fixed_verdict_of_reading, fixed_bounds_of_reading, fixed_verdict_for_c, fixed_bounds_for_c}
use Rattle.laws.specs.SumLaws.{count}
use Rattle.laws.specs.Accepted.{accepted}
use Rattle.laws.specs.FixedBounds.{judged_bound, judged_below, all_keep, in_time_judged}
use Rattle.promise.specs.Promise.{Held, fixed, PromiseOf, TextPromiseOf, FixedPromise, FixedPromiseForC}
use Rattle.promise.specs.NumberOrder.{number_order}
use Rattle.promise.specs.Schedule.{numbered}
use Rattle.promise.specs.ByNumber.{Lower, number_value}
use Rattle.promise.proofs.ByNumber.{done_by_number}
use Rattle.promise.specs.RunStates.{state_at}
use Rattle.promise.specs.Timetable.{placed_in, timetable}
use Rattle.promise.specs.Facts.{OwnFacts}
use Rattle.promise.specs.Flows.{FlowKept}
use Rattle.promise.proofs.Flows.{complete_kept}
use Rattle.promise.proofs.Demand.{all_each, flows_promise, flows_run, own_facts, only_good, text_promise}
use Rattle.promise.specs.Demand.{FlowsKeep}
use Rattle.promise.proofs.Calls.{calls_promise}

-- the request's value is the argument's
value_is : (s : FlowSet) (k : ℕ)
    → number_value (ways s) (period s) (deadline s) (work_at s) (λ k l. conflict_work (flow_at s k) (flow_at s l)) (fixed_bound s) k
    ≡ bound_after s (fixed_list s) k
unfolding number_value bound_after fixed_bound
value_is s k = refl

-- From here on: an accepted set.
module _ (s : FlowSet) (g : good (record_fault s).refusal ≡ true) where
  -- its answers, which nothing refuses
  pub fixed_verdict_good : fixed_verdict_of s ≡ fixed_verdict_if s true
  unfolding fixed_verdict_of
  fixed_verdict_good = rw g

  bounds_good : (k : ℕ) → k < s.count → fixed_bounds_of s k ≡ fixed_bounds_if s k true
  unfolding fixed_bounds_of bounds_fault
  bounds_good k l = rw (g, lt-leb s.count k l)

  pub fixed_bound_is : (k : ℕ) → k < s.count → (fixed_bounds_of s k).bound ≡ fixed_bound s k
  fixed_bound_is k l = ap (λ (b : FixedBounds). b.bound) (bounds_good k l)

  pub judged_is : (k : ℕ) → k < s.count → (fixed_bounds_of s k).judged ≡ judged s k
  judged_is k l = ap (λ (b : FixedBounds). b.judged) (bounds_good k l)

  -- where the test admits, every bound is at most its deadline
  fixed_admits : (fixed_verdict_of s).admitted ≡ true → (k : ℕ) → k < s.count → fixed_bound s k ≤ deadline s k
  unfolding admits
  fixed_admits e k l = leb-true _ _ (all_each _ s.count (sym (ap (λ (v : FixedVerdict). v.admitted) fixed_verdict_good) ∙ e) k l)

  -- only a lower flow goes before k
  lowers : Lower s.count last_slot (λ t k l. lower s (state_at lower s t) l k)
  lowers k l t i j h e = ltb-true l k e

  -- every packet of a flow that is judged and not over its deadline is complete within its bound
  complete : (k j : ℕ) → k < s.count → judged s k ≡ true → fixed_bound s k ≤ deadline s k → release (flow_at s k) j + fixed_bound s k ≤ last_slot
      → count (placed_in lower s k) (release (flow_at s k) j) (fixed_bound s k) ≡ work_at s k
  complete k j l e d h =
      omega (
        arith,
        done_by_number (timetable number_order s g) lowers (fixed_bound s) k l (λ c i. (in_time c i, value_le c i)) j h,
        numbered (timetable number_order s g) (λ i. true) k j (fixed_bound s k) l (omega (arith, ((accepted s g).flow k l).deadline_le)) (omega arith),
      )
    where
      in_time : (c : ℕ) → c ≤ k → fixed_bound s c ≤ deadline s c
      in_time c i = elim (dec_le k c) [ yes q ↦ let z : c ≡ k = omega arith in rw z d | no q ↦ all_keep s k e c (omega arith) ]

      value_le : (c : ℕ) → c ≤ k
          → number_value (ways s) (period s) (deadline s) (work_at s) (λ k l. conflict_work (flow_at s k) (flow_at s l)) (fixed_bound s) c ≤ fixed_bound s c
      value_le c i = le_of_eq (value_is s c ∙ sym (judged_bound s c (omega arith) (judged_below s c k i e)))

  -- Flow by flow: it keeps its bound and loses no packet.
  pub fixed_flow : s.map.0 < 2 ^ most_channels → (k n : ℕ) → k < s.count → n ≤ last_slot → judged s k ≡ true → fixed_bound s k ≤ deadline s k
      → FlowKept fixed_step s k (fixed_bounds_of s k).bound n
  fixed_flow bits k n l h e d =
      rw (fixed_bound_is k l) (complete_kept number_order s g k (fixed_bound s k) l d (λ j. complete k j l e d) n bits h)

-- in an admitted set every flow is judged, and none is over its deadline
fixed_flows : FlowsKeep fixed fixed_step
fixed_flows s g bits e k n l h =
    let d = fixed_admits s g e in
    fixed_flow s g bits k n l h (in_time_judged s k (λ c i. d c (omega arith))) (d k l)

-- Demand 3 for the pair, of accepted sets,
pub fixed_promise : PromiseOf fixed fixed_step
fixed_promise = flows_promise number_order fixed fixed_flows

-- of accepted texts,
pub fixed_text_law : TextPromiseOf fixed fixed_step
fixed_text_law = text_promise fixed fixed_step fixed_promise

pub fixed_demand_3 : FixedPromise
fixed_demand_3 = (fixed_promise, fixed_text_law)

-- and of what C calls, which is told the test's own verdict and bounds.
pub fixed_calls : FixedPromiseForC
unfolding fixed_verdict_for_c fixed_bounds_for_c fixed_verdict_of_reading fixed_bounds_of_reading
fixed_calls = calls_promise number_order fixed fixed_text_law _ _ (λ text read. rw read) (λ text k read. rw read)

-- A run of an admitted set drops nothing: the test admits accepted sets only.
pub fixed_good : (s : FlowSet) → (fixed_verdict_of s).admitted ≡ true → good (record_fault s).refusal ≡ true
unfolding fixed_verdict_of
fixed_good s e = only_good (λ b. (fixed_verdict_if s b).admitted) _ refl e

pub fixed_run_keeps : (s : FlowSet) → s.map.0 < 2 ^ most_channels → (fixed_verdict_of (used s)).admitted ≡ true → (n : ℕ) → n ≤ last_slot
    → (run_with lower (used s) n).dropped ≡ 0
fixed_run_keeps s w e = flows_run number_order fixed fixed_flows s w (fixed_good (used s) e) e

-- In every accepted set, admitted or not: no slot uses a node or a channel twice, and a packet's transmissions come in order, each at most once.
pub fixed_facts : (s : FlowSet) → Held s → good (record_fault (used s)).refusal ≡ true → OwnFacts fixed_step (used s)
fixed_facts = own_facts number_order
