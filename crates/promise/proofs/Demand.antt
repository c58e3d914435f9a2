-- Demand 3 holds of document 01's machine. The basic test is the list of deadlines, at which the equation's value is the basic bound; the
-- tightened test is the rounds' list, which every round keeps above the smaller of deadline and value.
use Rattle.std.specs.Prelude.{◌≡◌, Bool, true, false, List, length, get_or}
use Rattle.std.proofs.Math.Path.{refl, sym, ap, ap₂}
use Rattle.std.proofs.Common.{◌∙◌, inl, inr, le_refl, arith, length-take}
use Prim.Native.Nat.{ℕ, zero, suc, ◌+◌, ◌≤◌, ◌<◌, ◌^◌}
use Rattle.std.proofs.Math.Decide.{dec_le}
use borrow.Author.Tests.{leb-true, lt-leb}
use Rattle.model.specs.declared.kinds.FlowSet.{FlowSet}
use Rattle.model.specs.declared.answers.Stepped.{Stepped}
use Rattle.model.specs.declared.answers.Verdict.{Verdict}
use Rattle.model.specs.declared.answers.Bounds.{Bounds}
use Rattle.model.specs.Limits.{most_channels, last_slot}
use Rattle.model.specs.Refusals.{good}
use Rattle.model.specs.Sums.{all_to}
use Rattle.model.specs.Sets.{flow_at, used, filter_to}
use Rattle.document.specs.Reader.{record_fault, read_text}
use Rattle.document.specs.Delay.{deadline, basic_bound, value_at, deadlines, reached, tight_bound, admits, verdict_if, verdict_of, bounds_fault, bounds_if, bounds_of}
use Rattle.document.specs.Machine.{Priority, dropped_with, step_with, run_with, step_of, run_of}
use Rattle.laws.specs.SumLaws.{and_l, and_r}
use Rattle.laws.specs.Used.{used_count, used_flow, used_map}
use Rattle.laws.specs.Accepted.{accepted}
use Rattle.laws.specs.Values.{value_at_deadlines}
use Rattle.laws.specs.Rounds.{Between, between_deadlines, reached_between, accepted_fits}
use Rattle.promise.specs.Promise.{SlotMachine, report, Apart, Kept, Held, Test, PromiseOf, TextPromiseOf, basic, tightened, Promise, TextPromise, Admitted}
use Rattle.promise.specs.SlotChoice.{Ordering}
use Rattle.promise.specs.DeadlineOrder.{deadline_order}
use Rattle.promise.specs.RunStates.{state_at, report_step}
use Rattle.promise.specs.Reports.{drops_eq, dropped_eq, filter_at}
use Rattle.promise.specs.Flows.{FlowKept}
use Rattle.promise.proofs.Flows.{flow_kept}
use Rattle.promise.proofs.SlotsApart.{slot_apart}
use Rattle.promise.specs.Facts.{OwnFacts}
use Rattle.promise.proofs.Facts.{sent_next, flow_once, numbers_rise}
use Rattle.promise.specs.TextHeld.{text_held, text_passes}
use Rattle.promise.specs.Demand.{FlowsKeep}

-- every one passes
pub all_each : (p : ℕ → Bool) (n : ℕ) → all_to p n ≡ true → (i : ℕ) → i < n → p i ≡ true
unfolding all_to
all_each p zero h i l = absurd (omega arith)
all_each p (suc n) h i l =
    elim (dec_le n i) [
      | yes k ↦ let e : i ≡ n = omega arith in rw e (and_r (all_to p n) (p n) h)
      | no k ↦ all_each p n (and_l (all_to p n) (p n) h) i (omega arith)
    ]

-- Where every flow keeps its bound, no slot drops a packet, and the set keeps the promise: of the machine with any order of priority.
module _ {first : Priority} (o : Ordering first) where
  module _ (s : FlowSet) (g : good (record_fault s).refusal ≡ true) (bound : ℕ → ℕ) (n : ℕ) (h : n ≤ last_slot)
      (f : (k : ℕ) → k < s.count → FlowKept (step_with first) s k (bound k) n) where
    none_dropped : (t : ℕ) → t < n → (report (step_with first) s t).drops ≡ 0
    none_dropped t l = none (dec_le 1 (report (step_with first) s t).drops)
      where
        none : Dec (1 ≤ (report (step_with first) s t).drops) → (report (step_with first) s t).drops ≡ 0
        none (no x) = omega arith
        none (yes x) =
            let e = dropped_eq o s g t 0 (omega arith) x in
            let y = filter_at (dropped_with first s (state_at first s t)) s.count 0 (omega (arith, drops_eq o s g t (omega arith))) in
            absurd ((f (get_or (filter_to (dropped_with first s (state_at first s t)) s.count) 0 0) y.0).undropped t 0 l x e)

    pub flows_kept : s.map.0 < 2 ^ most_channels → ((k : ℕ) → k < s.count → length (flow_at s k).route ≡ (flow_at s k).nodes) → Kept (step_with first) s bound n
    flows_kept bits w =
        record {
          apart = λ t l. slot_apart o s g bits w t (omega arith);
          undropped = none_dropped;
          made = λ k j l. (f k l).made j;
        }

    pub run_undropped : (t : ℕ) → t ≤ n → (run_with first s t).dropped ≡ 0
    unfolding run_with
    run_undropped zero l = refl
    run_undropped (suc t) l =
        let e = ap (λ (r : Stepped). r.drops) (sym (report_step o s t)) ∙ none_dropped t (omega arith) in
        ap₂ ◌+◌ (run_undropped t (omega arith)) e

-- a record as the code holds it has all the nodes of its routes
used_whole : (s : FlowSet) → Held s → good (record_fault (used s)).refusal ≡ true
    → (k : ℕ) → k < (used s).count → length (flow_at (used s) k).route ≡ (flow_at (used s) k).nodes
used_whole s w g k l =
    let i : k < s.count = rw (used_count s) at l in
    let e = used_flow s k i in
    let n = rw e at ((accepted (used s) g).flow k l).nodes_le in
    rw (e, length-take) (omega (arith, w.1 k i))

pub used_bits : (s : FlowSet) → Held s → (used s).map.0 < 2 ^ most_channels
used_bits s w = rw (used_map s) w.0

-- So the machine with any order of priority keeps the promise of such a test, and its runs of admitted sets drop nothing. And in every accepted set,
-- admitted or not, it has its own facts.
module _ {first : Priority} (o : Ordering first) where
  pub flows_promise : (test : Test) → FlowsKeep test (step_with first) → PromiseOf test (step_with first)
  flows_promise test f s w g e n h =
      let u = used s in
      let bits = used_bits s w in
      flows_kept o u g (test.bound u) n h (λ k l. f u g bits e k n l h) bits (used_whole s w g)

  pub flows_run : (test : Test) → FlowsKeep test (step_with first) → (s : FlowSet) → s.map.0 < 2 ^ most_channels
      → good (record_fault (used s)).refusal ≡ true → test.admits (used s) ≡ true → (n : ℕ) → n ≤ last_slot → (run_with first (used s) n).dropped ≡ 0
  flows_run test f s w g e n h =
      let u = used s in
      run_undropped o u g (test.bound u) n h (λ k l. f u g (rw (used_map s) w) e k n l h) n (le_refl n)

  pub own_facts : (s : FlowSet) → Held s → good (record_fault (used s)).refusal ≡ true → OwnFacts (step_with first) (used s)
  own_facts s w g =
      let u = used s in
      let bits = used_bits s w in
      record {
        apart = slot_apart o u g bits (used_whole s w g);
        next = sent_next o u g bits;
        once = flow_once o u g bits;
        rising = numbers_rise o u g bits;
      }

-- a test that admits nothing where the set is refused admits accepted sets only
pub only_good : (admits : Bool → Bool) (b : Bool) → admits false ≡ false → admits b ≡ true → b ≡ true
only_good admits true z e = refl
only_good admits false z e = sym z ∙ e

-- the verdicts and the bounds of an accepted set, which nothing refuses
module _ (s : FlowSet) (g : good (record_fault s).refusal ≡ true) where
  verdict_good : verdict_of s ≡ verdict_if s true
  unfolding verdict_of
  verdict_good = rw g

  bounds_good : (k : ℕ) → k < s.count → bounds_of s k ≡ bounds_if s k true
  unfolding bounds_of bounds_fault
  bounds_good k l = rw (g, lt-leb s.count k l)

  pub basic_bound_law : (k : ℕ) → k < s.count → (bounds_of s k).basic ≡ basic_bound s k
  basic_bound_law k l = ap (λ (b : Bounds). b.basic) (bounds_good k l)

  pub tight_bound_law : (k : ℕ) → k < s.count → (bounds_of s k).tightened ≡ tight_bound s k
  tight_bound_law k l = ap (λ (b : Bounds). b.tightened) (bounds_good k l)

  -- a test admits when every bound is at most its deadline
  pub basic_admits : (verdict_of s).basic ≡ true → (k : ℕ) → k < s.count → (bounds_of s k).basic ≤ deadline s k
  unfolding admits
  basic_admits e k l =
      let a = all_each _ s.count (sym (ap (λ (v : Verdict). v.basic) verdict_good) ∙ e) k l in
      rw (basic_bound_law k l) (leb-true _ _ a)

  pub tight_admits : (verdict_of s).tightened ≡ true → (k : ℕ) → k < s.count → (bounds_of s k).tightened ≤ deadline s k
  unfolding admits
  tight_admits e k l =
      let a = all_each _ s.count (sym (ap (λ (v : Verdict). v.tightened) verdict_good) ∙ e) k l in
      rw (tight_bound_law k l) (leb-true _ _ a)

  -- Flow by flow, in any accepted set: a flow whose own bound, of either test, is at most its deadline.
  module _ (bits : s.map.0 < 2 ^ most_channels) where
    between_kept : (v : List ℕ) → Between s v → (k n : ℕ) → k < s.count → n ≤ last_slot → value_at s v k ≤ deadline s k
        → FlowKept step_of s k (value_at s v k) n
    between_kept v b k n l h = flow_kept s g v b.le_deadline b.ge_value k n l bits h

    pub basic_flow : (k n : ℕ) → k < s.count → n ≤ last_slot → (bounds_of s k).basic ≤ deadline s k → FlowKept step_of s k (bounds_of s k).basic n
    basic_flow k n l h d =
        let e = value_at_deadlines s k ∙ sym (basic_bound_law k l) in
        rw e at (between_kept (deadlines s) (between_deadlines s) k n l h (rw e d))

    pub tight_flow : (k n : ℕ) → k < s.count → n ≤ last_slot → (bounds_of s k).tightened ≤ deadline s k
        → FlowKept step_of s k (bounds_of s k).tightened n
    unfolding tight_bound
    tight_flow k n l h d =
        let e : value_at s (reached s).list k ≡ (bounds_of s k).tightened = sym (tight_bound_law k l) in
        rw e at (between_kept (reached s).list (reached_between s (accepted_fits s (accepted s g))) k n l h (rw e d))

-- In every accepted set, admitted or not, no slot uses a node or a channel twice.
pub apart_always : (s : FlowSet) → Held s → good (record_fault (used s)).refusal ≡ true
    → (t : ℕ) → t < last_slot → Apart (used s) (report step_of (used s) t)
apart_always s w g = (own_facts deadline_order s w g).apart

-- each test flow by flow, where it admits
basic_flows : FlowsKeep basic step_of
basic_flows s g bits e k n l h = basic_flow s g bits k n l h (basic_admits s g e k l)

tight_flows : FlowsKeep tightened step_of
tight_flows s g bits e k n l h = tight_flow s g bits k n l h (tight_admits s g e k l)

-- Demand 3, of the machine in the step's contract, with the verdicts and the bounds of theirs.
pub promise : Promise step_of
promise = (flows_promise deadline_order basic basic_flows, flows_promise deadline_order tightened tight_flows)

-- A run of an admitted set drops nothing: either test admits accepted sets only.
pub admitted_good : (s : FlowSet) → Admitted s → good (record_fault s).refusal ≡ true
unfolding verdict_of
admitted_good s (inl e) = only_good (λ b. (verdict_if s b).basic) _ refl e
admitted_good s (inr e) = only_good (λ b. (verdict_if s b).tightened) _ refl e

pub run_keeps : (s : FlowSet) → s.map.0 < 2 ^ most_channels → Admitted (used s) → (n : ℕ) → n ≤ last_slot → (run_of (used s) n).dropped ≡ 0
run_keeps s w (inl e) = flows_run deadline_order basic basic_flows s w (admitted_good (used s) (inl e)) e
run_keeps s w (inr e) = flows_run deadline_order tightened tight_flows s w (admitted_good (used s) (inr e)) e

-- What a test promises of accepted sets it promises of accepted texts: the reader's record is one as the code holds it.
pub text_promise : (test : Test) (M : SlotMachine) → PromiseOf test M → TextPromiseOf test M
text_promise test M f text h = f (read_text text).set (text_held text h) (text_passes text h)

-- Demand 3 in its own words: of a text that the reader accepts.
pub demand_3 : TextPromise step_of
demand_3 = (text_promise basic step_of promise.0, text_promise tightened step_of promise.1)
