-- The run of the machine from the fresh state, with any order of priority: in slot t its state is at t, every count is at most C and 0 beyond
-- the last flow, so no step before the last slot is refused; there the run stands still.
use Rattle.std.specs.Prelude.{◌≡◌, Bool, length, replicate}
use Rattle.std.proofs.Math.Path.{refl, ap}
use Rattle.std.proofs.Common.{◌∙◌, arith}
use Rattle.std.proofs.Math.Bool.{true, false, cond}
use Prim.Native.Nat.{ℕ, zero, suc, ◌+◌, ◌≤◌, ◌<◌, zero-le, min}
use Rattle.std.proofs.Math.Decide.{dec_le}
use Rattle.std.proofs.Math.Numerals.{add-one}
use Rattle.std.proofs.Math.Dec.{ltb, eqb}
use Rattle.std.proofs.lemmas.List.{get_or-replicate, length-replicate}
use Rattle.std.proofs.Math.ListN.{get_or-eq_default}
use borrow.Author.Tests.{ltb-true, leb-true, eqb-true, lt-ltb, le-ltb, le-leb, lt-leb}
use Rattle.model.specs.declared.kinds.FlowSet.{FlowSet}
use Rattle.model.specs.declared.kinds.State.{State}
use Rattle.model.specs.declared.answers.Stepped.{Stepped}
use Rattle.model.specs.Limits.{most_flows, last_slot}
use Rattle.model.specs.declared.answers.Refusal.TheVariants.{AtLastSlot, BadState}
use Rattle.model.specs.Refusals.{good, fault_at, no_fault}
use Rattle.model.specs.Sums.{bit, any_to}
use Rattle.model.specs.Sets.{flow_at, fresh_state, memb, list_to}
use Rattle.document.specs.Reader.{record_fault}
use Rattle.document.specs.Delay.{ways, work_at}
use Rattle.document.specs.Machine.{Priority, ready, next_count, released, release_at, count_at, had_at, ready_at, due_at, clash_at, bad_state, step_fault, step_if_with, count_with, dropped_with, next_with, placed_with, run_with, step_with}
use Rattle.laws.specs.SumLaws.{any_find, and_l, and_r}
use Rattle.laws.specs.Accepted.{accepted}
use Rattle.laws.specs.Values.{list_length, list_entry}
use Rattle.promise.specs.SlotChoice.{Ordering, SlotChoice, slot_choice}
use Rattle.promise.specs.Promise.{report}

-- the state in which slot t of the run begins
abbrev pub state_at : Priority → FlowSet → ℕ → State
state_at first s t = (run_with first s t).last

-- a ready packet is released, before its absolute deadline, and short
pub ready_case : (s : FlowSet) (st : State) (k : ℕ) → ready_at s st k ≡ true
    → ((flow_at s k).start ≤ st.slot.0) × (st.slot.0 < due_at s st k) × (had_at s st k < work_at s k)
unfolding ready
ready_case s st k h =
    let r : released (flow_at s k) st.slot.0 ≡ true = search (and_l, and_r) in
    let d : ltb st.slot.0 (due_at s st k) ≡ true = search (and_l, and_r) in
    let c : ltb (had_at s st k) (work_at s k) ≡ true = search (and_l, and_r) in
    (leb-true _ _ r, ltb-true _ _ d, ltb-true _ _ c)

pub ready_when : (s : FlowSet) (st : State) (k : ℕ)
    → ((flow_at s k).start ≤ st.slot.0) × (st.slot.0 < due_at s st k) × (had_at s st k < work_at s k) → ready_at s st k ≡ true
unfolding ready
ready_when s st k h = rw (le-leb _ _ h.0, lt-ltb _ _ h.1, lt-ltb _ _ h.2)

-- What the run's state has in slot t.
pub record Sound (s : FlowSet) (t : ℕ) (st : State) : Type 0 where
  pub slot : st.slot.0 ≡ t
  pub count_le : (k : ℕ) → k < s.count → count_at st k ≤ work_at s k
  pub beyond : (k : ℕ) → s.count ≤ k → count_at st k ≡ 0

-- the fresh state has it
fresh_zero : (k : ℕ) → count_at fresh_state k ≡ 0
fresh_zero k =
    elim (dec_le most_flows k) [
      | yes h ↦ get_or-eq_default (replicate most_flows 0) 0 {n = k} (omega (arith, length-replicate {A = ℕ} most_flows 0))
      | no h ↦ get_or-replicate most_flows k 0 0 (omega arith)
    ]

sound_fresh : (s : FlowSet) → Sound s 0 fresh_state
sound_fresh s = record { slot = refl; count_le = λ k h. omega (arith, fresh_zero k); beyond = λ k h. fresh_zero k }

-- a sound state is good, and before the last slot its step is not refused
sound_good : (s : FlowSet) (t : ℕ) (st : State) → t ≤ last_slot → Sound s t st → bad_state s st ≡ false
unfolding bad_state
sound_good s t st h i = rw (le-ltb last_slot st.slot.0 (omega (arith, i.slot))) (none (any_to over most_flows) refl)
  where
    most : ℕ → ℕ
    most k = cond (ltb k s.count) (work_at s k) 0

    over : ℕ → Bool
    over k = ltb (most k) (count_at st k)

    fits : (k : ℕ) → count_at st k ≤ most k
    fits k =
        elim (dec_le s.count k) [
          | yes l ↦ rw (le-ltb k s.count l) (omega (arith, i.beyond k l))
          | no l ↦ let g : k < s.count = omega arith in rw (lt-ltb k s.count g) (i.count_le k g)
        ]

    none : (b : Bool) → any_to over most_flows ≡ b → b ≡ false
    none false e = refl
    none true e = let w = any_find over most_flows e in absurd (omega (arith, ltb-true (most w.0) (count_at st w.0) w.2, fits w.0))

sound_fault : (s : FlowSet) (t : ℕ) (st : State) → good (record_fault s).refusal ≡ true → t < last_slot → Sound s t st
    → good (step_fault s st).refusal ≡ true
unfolding step_fault
sound_fault s t st g h i = rw (g, sound_good s t st (omega arith) i, lt-leb last_slot st.slot.0 (omega (arith, i.slot)))

-- at the last slot every step is
last_fault : (s : FlowSet) (st : State) → good (record_fault s).refusal ≡ true → last_slot ≤ st.slot.0 → good (step_fault s st).refusal ≡ false
unfolding step_fault
last_fault s st g h = rw (g, le-leb last_slot st.slot.0 h) (go (bad_state s st))
  where
    go : (b : Bool) → good (cond b (fault_at BadState 0) (fault_at AtLastSlot 0)).refusal ≡ false
    go true = refl
    go false = refl

-- From here on: the machine with any order of priority.
module _ {first : Priority} (o : Ordering first) where
  -- a slot's choice guarantees what any order's does
  pub choice : (s : FlowSet) (st : State)
      → SlotChoice s.count (ways s) (first s st) (clash_at s st) (ready_at s st) (placed_with first s st)
  unfolding placed_with
  choice s st = slot_choice (o s st) (ways s) (clash_at s st) (ready_at s st)

  -- a packet is dropped after the last slot before its absolute deadline, if it is still short
  pub dropped_case : (s : FlowSet) (st : State) (k : ℕ) → dropped_with first s st k ≡ true
      → ((flow_at s k).start ≤ st.slot.0) × (st.slot.0 + 1 ≡ due_at s st k) × (count_with first s st k < work_at s k)
  unfolding dropped_with
  dropped_case s st k h =
      let r : released (flow_at s k) st.slot.0 ≡ true = search (and_l, and_r) in
      let d : eqb (st.slot.0 + 1) (due_at s st k) ≡ true = search (and_l, and_r) in
      let c : ltb (count_with first s st k) (work_at s k) ≡ true = search (and_l, and_r) in
      (leb-true _ _ r, eqb-true _ _ d, ltb-true _ _ c)

  -- slot t reports the step from that state
  pub report_step : (s : FlowSet) (t : ℕ) → report (step_with first) s t ≡ step_with first s (state_at first s t)
  unfolding report run_with
  report_step s zero = refl
  report_step s (suc t) = ap (λ (r : Stepped). step_with first s r.next) (report_step s t)

  -- the next counts
  pub next_count_law : (s : FlowSet) (st : State) (k : ℕ) → k < s.count → s.count ≤ most_flows → count_at (next_with first s st) k ≡ count_with first s st k
  unfolding next_with
  next_count_law s st k h l =
      list_entry (λ k. cond (ltb k s.count) (count_with first s st k) 0) most_flows k (omega arith) ∙ rw (lt-ltb k s.count h)

  next_beyond : (s : FlowSet) (st : State) (k : ℕ) → s.count ≤ k → count_at (next_with first s st) k ≡ 0
  unfolding next_with
  next_beyond s st k h =
      elim (dec_le most_flows k) [
        | yes l ↦ get_or-eq_default (list_to next most_flows) 0 {n = k} (omega (arith, list_length next most_flows))
        | no l ↦ list_entry next most_flows k (omega arith) ∙ rw (le-ltb k s.count h)
      ]
    where
      next : ℕ → ℕ
      next k = cond (ltb k s.count) (count_with first s st k) 0

  -- a placed packet was short, so no count passes C
  after_le : (s : FlowSet) (st : State) (k : ℕ) → count_at st k ≤ work_at s k → count_with first s st k ≤ work_at s k
  unfolding count_with next_count
  after_le s st k h = go (released (flow_at s k) st.slot.0) (memb k (placed_with first s st)) refl
    where
      had_le : (b : Bool) → cond b 0 (count_at st k) ≤ work_at s k
      had_le true = zero-le
      had_le false = h

      go : (r b : Bool) → memb k (placed_with first s st) ≡ b → cond r (had_at s st k + bit b) (count_at st k) ≤ work_at s k
      go false b e = h
      go true false e = omega (arith, had_le (eqb st.slot.0 (release_at (flow_at s k) st.slot.0)))
      go true true e = omega (arith, ready_case s st k ((choice s st).only k e).1)

  sound_next : (s : FlowSet) (t : ℕ) (st : State) → s.count ≤ most_flows → Sound s t st → Sound s (suc t) (next_with first s st)
  unfolding next_with
  sound_next s t st c i =
      record {
        slot = omega (arith, i.slot);
        count_le = λ k h. omega (arith, next_count_law s st k h c, after_le s st k (i.count_le k h));
        beyond = λ k h. next_beyond s st k h;
      }

  sound_step : (s : FlowSet) (t : ℕ) (st : State) → good (record_fault s).refusal ≡ true → t < last_slot → Sound s t st
      → step_with first s st ≡ step_if_with first s st true
  unfolding step_with
  sound_step s t st g h i = rw (sound_fault s t st g h i)

  -- the next state has a count for each of 64 flows
  next_length : (s : FlowSet) (st : State) → length (next_with first s st).sent ≡ most_flows
  unfolding next_with
  next_length s st = list_length (λ k. cond (ltb k s.count) (count_with first s st k) 0) most_flows

  -- so it is in every slot of the run
  fresh_state_law : (s : FlowSet) → state_at first s 0 ≡ fresh_state
  unfolding run_with
  fresh_state_law s = refl

  sound_state : (s : FlowSet) (t : ℕ) → good (record_fault s).refusal ≡ true → t < last_slot → Sound s t (state_at first s t)
      → state_at first s (suc t) ≡ next_with first s (state_at first s t)
  unfolding run_with
  sound_state s t g h i = ap (λ (r : Stepped). r.next) (sound_step s t (state_at first s t) g h i)

  run_sound : (s : FlowSet) → good (record_fault s).refusal ≡ true → s.count ≤ most_flows → (t : ℕ) → t ≤ last_slot → Sound s t (state_at first s t)
  run_sound s g c zero h = rw (fresh_state_law s) (sound_fresh s)
  run_sound s g c (suc t) h =
      let i = run_sound s g c t (omega arith) in
      rw (sound_state s t g h i) (sound_next s t (state_at first s t) c i)

  module _ (s : FlowSet) (g : good (record_fault s).refusal ≡ true) where
    few : s.count ≤ most_flows
    few = (accepted s g).count_le

    -- slot t begins at t,
    pub state_slot : (t : ℕ) → t ≤ last_slot → (state_at first s t).slot.0 ≡ t
    state_slot t h = (run_sound s g few t h).slot

    -- as far as the last slot, where the run stands still,
    last_state : (t : ℕ) → last_slot ≤ (state_at first s t).slot.0 → state_at first s (suc t) ≡ state_at first s t
    unfolding run_with step_with
    last_state t h = ap (λ (b : Bool). (step_if_with first s (state_at first s t) b).next) (last_fault s (state_at first s t) g h)

    pub every_slot : (t : ℕ) → (state_at first s t).slot.0 ≡ min t last_slot
    every_slot zero = omega (arith, state_slot 0 (omega arith))
    every_slot (suc t) =
        elim (dec_le (suc t) last_slot) [
          | yes h ↦ omega (arith, state_slot (suc t) h)
          | no h ↦
              let i = every_slot t in
              ap (λ (st : State). st.slot.0) (last_state t (omega arith)) ∙ omega arith
        ]

    -- and the next state is rule 2's
    pub state_next : (t : ℕ) → t < last_slot → state_at first s (t + 1) ≡ next_with first s (state_at first s t)
    state_next t h = rw add-one (sound_state s t g h (run_sound s g few t (omega arith)))

    pub state_length_law : (t : ℕ) → t ≤ last_slot → length (state_at first s t).sent ≡ most_flows
    state_length_law zero h = rw (fresh_state_law s) (length-replicate {A = ℕ} most_flows 0)
    state_length_law (suc t) h =
        ap (λ (st : State). length st.sent) (sound_state s t g h (run_sound s g few t (omega arith))) ∙ next_length s (state_at first s t)

    step_slot : (t : ℕ) → t < last_slot → (step_with first s (state_at first s t)).next.slot.0 ≡ t + 1
    unfolding run_with
    step_slot t h = rw add-one (state_slot (suc t) h)

    -- its step is not refused, and its report is that of the step
    pub state_good : (t : ℕ) → t < last_slot → good (step_fault s (state_at first s t)).refusal ≡ true
    state_good t h = sound_fault s t (state_at first s t) g h (run_sound s g few t (omega arith))

    pub report_good : (t : ℕ) → t < last_slot → report (step_with first) s t ≡ step_if_with first s (state_at first s t) true
    report_good t h = report_step s t ∙ sound_step s t (state_at first s t) g h (run_sound s g few t (omega arith))

    pub report_fault : (t : ℕ) → t < last_slot → (report (step_with first) s t).fault ≡ no_fault
    report_fault t h = ap (λ (r : Stepped). r.fault) (report_good t h)

    pub report_slot : (t : ℕ) → t < last_slot → (report (step_with first) s t).next.slot.0 ≡ t + 1
    report_slot t h = ap (λ (r : Stepped). r.next.slot.0) (report_step s t) ∙ step_slot t h

    -- so the count after slot t is the count at t + 1
    pub count_next : (k t : ℕ) → k < s.count → t < last_slot → count_at (state_at first s (t + 1)) k ≡ count_with first s (state_at first s t) k
    count_next k t i h = ap (λ (st : State). count_at st k) (state_next t h) ∙ next_count_law s (state_at first s t) k i few
