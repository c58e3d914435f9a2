-- Good states: 12 finds no fault in them, a step leads from one to the next, and a run of n slots from the fresh state ends in a good one
-- at slot n, as far as the last slot, where a step changes nothing.
use Rattle.std.specs.Prelude.{◌≡◌, Bool, IsTrue, ◌↔◌, ◌||◌, leb, ltb, eqb, get_or, length}
use Rattle.std.proofs.Math.Path.{refl, ap}
use Rattle.std.proofs.Common.{sym, ap₂, ◌∙◌, le_refl, add-zero}
use Rattle.std.proofs.Math.Bool.{true, false, cond}
use Rattle.std.proofs.lemmas.Bool.{false≢true}
use mathlib.Core.List.{List, []}
use Prim.Native.Nat.{ℕ, zero, suc, ◌+◌, ◌-◌, ◌≤◌, ◌<◌, zero-le, min}
use Rattle.std.proofs.Math.Numerals.{add-one}
use Rattle.std.proofs.Math.Decide.{dec_le}
use native.Mathlib.Omega.{arith}
use borrow.Author.Tests.{ltb-false, ltb-true, le-ltb, lt-ltb, lt-leb, le-leb, leb-false}
use Rattle.std.proofs.lemmas.List.{length-replicate}
use Rattle.std.proofs.Math.ListN.{get_or-eq_default}
use Rattle.model.specs.declared.kinds.FlowSet.{FlowSet}
use Rattle.model.specs.declared.kinds.State.{State}
use Rattle.model.specs.declared.answers.Fault.{Fault}
use Rattle.model.specs.declared.answers.Stepped.{Stepped}
use Rattle.model.specs.declared.answers.Ran.{Ran}
use Rattle.model.specs.declared.answers.Refusal.TheVariants.{AtLastSlot, BadState}
use Rattle.model.specs.Limits.{most_flows, last_slot}
use Rattle.model.specs.Refusals.{good, fault_at, no_fault}
use Rattle.model.specs.Sums.{bit, any_to}
use Rattle.model.specs.Sets.{flow_at, fresh_state, memb}
use Rattle.document.specs.Reader.{record_fault}
use Rattle.document.specs.Delay.{work_at}
use Rattle.document.specs.Machine.{release_at, count_at, had_at, bad_state, step_fault, stepped, run_more, count_with, next_with, run_with, step_with, step_if_with, Priority, placed_with}
use Rattle.laws.specs.SumLaws.{any_in, any_none, neither}
use Rattle.machine.specs.ArrayLists.{length_list_to, get_or_list_to, get_or_zeros}
use Rattle.machine.specs.PacketNumbers.{next_is, ready_if}
use Rattle.machine.specs.PlacedChoice.{placed_ready}

-- the most that a good state's count may be
abbrev pub most_count : FlowSet → ℕ → ℕ
most_count s k = cond (ltb k s.count) (work_at s k) 0

-- 12 by arrays: a slot above the last, or a count above its flow's C
abbrev pub bad_by : ℕ → List ℕ → List ℕ → Bool
bad_by t sent work = ltb last_slot t || any_to (λ k. ltb (get_or work k 0) (get_or sent k 0)) most_flows

-- a state in which 12 finds no fault
pub record GoodState (s : FlowSet) (st : State) : Type 0 where
  pub slot_le : st.slot.0 ≤ last_slot
  pub long : length st.sent ≡ most_flows
  pub counts : (k : ℕ) → count_at st k ≤ most_count s k

pub any_all : (p : ℕ → Bool) (n : ℕ) → ((k : ℕ) → k < n → p k ≡ false) → any_to p n ≡ false
unfolding any_to
any_all p zero h = refl
any_all p (suc n) h = rw (any_all p n (λ k l. h k (omega arith)), h n (le_refl (suc n)))

-- that some entry is above another array's says what the search for one says
pub any_above_is : (b : Bool) (work sent : List ℕ) (n : ℕ) → IsTrue b ↔ ((k : ℕ) × (k < n) × (get_or work k 0 < get_or sent k 0))
    → b ≡ any_to (λ k. ltb (get_or work k 0) (get_or sent k 0)) n
any_above_is true work sent n h =
    let w = h.0 refl in
    sym (any_in (λ k. ltb (get_or work k 0) (get_or sent k 0)) n w.0 w.1 (lt-ltb _ _ w.2))
any_above_is false work sent n h =
    sym (any_all (λ k. ltb (get_or work k 0) (get_or sent k 0)) n (λ k l. elim (dec_le (get_or sent k 0) (get_or work k 0)) [
      | yes d ↦ le-ltb _ _ d
      | no d ↦ absurd (false≢true (h.1 (k, l, omega arith)))
    ]))

pub good_state : (s : FlowSet) (st : State) → length st.sent ≡ most_flows → bad_state s st ≡ false → GoodState s st
unfolding bad_state
good_state s st e h =
    let w = neither (ltb last_slot st.slot.0) (any_to (λ k. ltb (most_count s k) (count_at st k)) most_flows) h in
    record {
      slot_le = ltb-false _ _ w.0;
      long = e;
      counts = λ k. elim (dec_le most_flows k) [
        | yes d ↦ rw (get_or-eq_default st.sent 0 {n = k} (rw e d)) zero-le
        | no d ↦ ltb-false (most_count s k) (count_at st k) (any_none (λ j. ltb (most_count s j) (count_at st j)) most_flows w.1 k (omega arith))
      ];
    }

pub good_not_bad : (s : FlowSet) (st : State) → GoodState s st → bad_state s st ≡ false
unfolding bad_state
good_not_bad s st g =
    rw (le-ltb last_slot st.slot.0 g.slot_le)
    (any_all (λ k. ltb (most_count s k) (count_at st k)) most_flows (λ k h. le-ltb (most_count s k) (count_at st k) (g.counts k)))

pub fresh_good : (s : FlowSet) → GoodState s fresh_state
fresh_good s =
    record {
      slot_le = zero-le;
      long = length-replicate {A = ℕ} most_flows 0;
      counts = λ k. rw (get_or_zeros most_flows k) zero-le;
    }

-- what a packet has had is no more than the count
pub had_le : (b : Bool) (n : ℕ) → cond b 0 n ≤ n
had_le true n = zero-le
had_le false n = le_refl n

-- the laws of this part hold for any order of priority
module _ (first : Priority) where
  -- the next count is at most C: a packet that is placed was short of it
  pub count_after_le : (s : FlowSet) (st : State) → GoodState s st → (k : ℕ) → k < s.count → count_with first s st k ≤ work_at s k
  unfolding count_with
  count_after_le s st g k h =
      rw (next_is (flow_at s k) st.slot.0 (count_at st k) (memb k (placed_with first s st)) (λ e. (placed_ready first s st k e).1))
      (go (memb k (placed_with first s st)) refl)
    where
      go : (b : Bool) → memb k (placed_with first s st) ≡ b → had_at s st k + bit b ≤ work_at s k
      go true e = let w = ready_if (flow_at s k) st.slot.0 (count_at st k) (placed_ready first s st k e).1 in omega arith
      go false e =
          let l = had_le (eqb st.slot.0 (release_at (flow_at s k) st.slot.0)) (count_at st k) in
          omega (arith, l, rw (lt-ltb k s.count h) at (g.counts k))

  pub next_good : (s : FlowSet) (st : State) → GoodState s st → st.slot.0 < last_slot → GoodState s (next_with first s st)
  unfolding next_with
  next_good s st g h =
      record {
        slot_le = omega (arith, h);
        long = length_list_to _ most_flows;
        counts = λ k. elim (dec_le most_flows k) [
          | yes d ↦ rw (get_or-eq_default (next_with first s st).sent 0 {n = k} (rw (length_list_to next most_flows) d)) zero-le
          | no d ↦ rw (get_or_list_to next most_flows k (omega arith)) (go k (ltb k s.count) refl)
        ];
      }
    where
      next : ℕ → ℕ
      next j = cond (ltb j s.count) (count_with first s st j) 0

      go : (k : ℕ) (b : Bool) → ltb k s.count ≡ b → cond b (count_with first s st k) 0 ≤ cond b (work_at s k) 0
      go k true e = count_after_le s st g k (ltb-true _ _ e)
      go k false e = zero-le

-- what is wrong with a state of an accepted set
abbrev pub state_fault : FlowSet → State → Fault
state_fault s st = cond (bad_state s st) (fault_at BadState 0) (cond (leb last_slot st.slot.0) (fault_at AtLastSlot 0) no_fault)

pub state_good : (s : FlowSet) (st : State) (f : Fault) → f ≡ state_fault s st → good f.refusal ≡ true → (bad_state s st ≡ false) × (st.slot.0 < last_slot)
state_good s st f e g = go (bad_state s st) (leb last_slot st.slot.0) refl refl (rw e at g)
  where
    go : (b l : Bool) → bad_state s st ≡ b → leb last_slot st.slot.0 ≡ l
        → good (cond b (fault_at BadState 0) (cond l (fault_at AtLastSlot 0) no_fault)).refusal ≡ true
        → (bad_state s st ≡ false) × (st.slot.0 < last_slot)
    go true l i j h = absurd (false≢true h)
    go false true i j h = absurd (false≢true h)
    go false false i j h = (i, leb-false _ _ j)

-- a good state below the last slot has no fault
pub step_no_fault : (s : FlowSet) (st : State) → good (record_fault s).refusal ≡ true → bad_state s st ≡ false → st.slot.0 < last_slot
    → step_fault s st ≡ no_fault
unfolding step_fault
step_no_fault s st h b l = rw (h, b, lt-leb last_slot st.slot.0 l)

-- an idle step changes nothing of a run
more_idle : (r : Ran) (f : Fault) → run_more r (stepped f r.last [] [] []) ≡ r
more_idle r f = ap₂ (λ (x y : ℕ). record { fault = r.fault; last = r.last; delivered = x; dropped = y }) (add-zero r.delivered) (add-zero r.dropped)

-- at slot n of a run the state is good, and its slot is n
pub record RunAtWith (first : Priority) (s : FlowSet) (n : ℕ) : Type 0 where
  pub good_last : GoodState s (run_with first s n).last
  pub slot_is : (run_with first s n).last.slot.0 ≡ n

-- steps and runs by any order of priority
module _ (first : Priority) where
  -- the answer to a step, by what is wrong
  refused_by : (s : FlowSet) (st : State) (f : Fault) → step_fault s st ≡ f → good f.refusal ≡ false → step_with first s st ≡ stepped f st [] [] []
  unfolding step_with
  refused_by s st f e h =
      let b : good (step_fault s st).refusal ≡ false = rw e h in
      ap (step_if_with first s st) b ∙ ap (λ (g : Fault). stepped g st [] [] []) e

  pub step_refused : (s : FlowSet) (st : State) → good (record_fault s).refusal ≡ false → step_with first s st ≡ stepped (record_fault s) st [] [] []
  unfolding step_fault
  step_refused s st h = refused_by s st (record_fault s) (rw h) h

  pub step_faulty : (s : FlowSet) (st : State) (f : Fault) → good (record_fault s).refusal ≡ true → f ≡ state_fault s st → good f.refusal ≡ false
      → step_with first s st ≡ stepped f st [] [] []
  unfolding step_fault
  step_faulty s st f h e = refused_by s st f (rw h (sym e))

  pub step_last : (s : FlowSet) (st : State) → good (record_fault s).refusal ≡ true → bad_state s st ≡ false → last_slot ≤ st.slot.0
      → step_with first s st ≡ stepped (fault_at AtLastSlot 0) st [] [] []
  unfolding step_fault
  step_last s st h b l = refused_by s st (fault_at AtLastSlot 0) (rw (h, b, le-leb last_slot st.slot.0 l)) refl

  pub step_with_good : (s : FlowSet) (st : State) → good (record_fault s).refusal ≡ true → bad_state s st ≡ false → st.slot.0 < last_slot
      → step_with first s st ≡ step_if_with first s st true
  unfolding step_with
  step_with_good s st h b l =
      let e : good (step_fault s st).refusal ≡ true = rw (step_no_fault s st h b l) in ap (step_if_with first s st) e

  pub next_slot : (s : FlowSet) (st : State) → (next_with first s st).slot.0 ≡ st.slot.0 + 1
  unfolding next_with
  next_slot s st = refl

  -- a run with one slot more
  pub run_with_next : (s : FlowSet) (n : ℕ) → run_with first s (n + 1) ≡ run_more (run_with first s n) (step_with first s (run_with first s n).last)
  unfolding run_with
  run_with_next s n = rw add-one

  pub run_none : (s : FlowSet) → run_with first s 0 ≡ record { fault = record_fault s; last = fresh_state; delivered = 0; dropped = 0 }
  unfolding run_with
  run_none s = refl

  -- a refused set's run stays where it began
  pub run_refused : (s : FlowSet) → good (record_fault s).refusal ≡ false → (n : ℕ) → run_with first s n ≡ run_with first s 0
  run_refused s h zero = refl
  run_refused s h (suc n) =
      let i = run_refused s h n in
      let r : Ran = run_with first s n in
      rw (← add-one n)
      (run_with_next s n ∙ ap (λ (a : Stepped). run_more r a) (step_refused s r.last h) ∙ more_idle r (record_fault s) ∙ i)

  pub run_with_good : (s : FlowSet) → good (record_fault s).refusal ≡ true → (n : ℕ) → n ≤ last_slot → RunAtWith first s n
  run_with_good s h zero l = record { good_last = rw (run_none s) (fresh_good s); slot_is = rw (run_none s) }
  run_with_good s h (suc n) l =
      let i = run_with_good s h n (omega arith) in
      let st : State = (run_with first s n).last in
      let b : st.slot.0 < last_slot = rw i.slot_is l in
      let g = step_with_good s st h (good_not_bad s st i.good_last) b in
      let e : (run_with first s (suc n)).last ≡ next_with first s st =
      rw (← add-one n) (ap (λ (r : Ran). r.last) (run_with_next s n) ∙ ap (λ (a : Stepped). a.next) g) in
      record {
        good_last = rw e (next_good first s st i.good_last b);
        slot_is = rw e (next_slot s st ∙ rw i.slot_is (add-one n));
      }

  -- from the last slot on a run stays
  pub run_stays : (s : FlowSet) → good (record_fault s).refusal ≡ true → (d : ℕ) → run_with first s (last_slot + d) ≡ run_with first s last_slot
  run_stays s h zero = rw add-zero
  run_stays s h (suc d) =
      let i = run_stays s h d in
      let r : Ran = run_with first s last_slot in
      let w = run_with_good s h last_slot (le_refl last_slot) in
      let l : last_slot + suc d ≡ last_slot + d + 1 = omega arith in
      let g = step_last s r.last h (good_not_bad s _ w.good_last) (rw w.slot_is (le_refl last_slot)) in
      rw l (run_with_next s (last_slot + d) ∙ rw i (ap (λ (a : Stepped). run_more r a) g ∙ more_idle r (fault_at AtLastSlot 0)))

  -- so a run goes no further than the last slot
  pub run_cut : (s : FlowSet) → good (record_fault s).refusal ≡ true → (n : ℕ) → run_with first s n ≡ run_with first s (min n last_slot)
  run_cut s h n = elim (dec_le n last_slot) [
    | yes d ↦ let e : min n last_slot ≡ n = omega arith in rw e
    | no d ↦
        let e : min n last_slot ≡ last_slot = omega arith in
        let f : n ≡ last_slot + (n - last_slot) = omega arith in
        ap (run_with first s) f ∙ run_stays s h (n - last_slot) ∙ ap (run_with first s) (sym e)
  ]
