-- The run repeats: with an order of priority that shifts, the state of slot t + h is that of slot t shifted by h, where h is a number of whole
-- periods of every flow. It starts in slot h, in which every flow has a release, so that what was sent before no longer counts.
use Rattle.std.specs.Prelude.{◌≡◌, ℕ, zero, suc, ◌+◌, ◌*◌, ◌/◌, ◌%◌, ◌≤◌, ◌<◌}
use Rattle.std.proofs.Common.{sym, ap, ◌∙◌, zero-add, add-one, arith, eq-eqb}
use Rattle.std.proofs.Math.Nat.{zero-mod, mod-add-div'}
use Rattle.model.specs.declared.kinds.FlowSet.{FlowSet}
use Rattle.model.specs.declared.kinds.State.{State}
use Rattle.model.specs.Limits.{last_slot}
use Rattle.model.specs.Sets.{flow_at}
use Rattle.document.specs.Delay.{period}
use Rattle.document.specs.Machine.{Priority, release_at, had_at}
use Rattle.promise.specs.Load.{latest_le}
use Rattle.promise.specs.SlotChoice.{Ordering}
use Rattle.promise.specs.RunStates.{state_at, state_slot, state_next}
use Rattle.promise.specs.Shifts.{Whole, Shifted, Shifts, release_later, whole_times}
use Rattle.promise.specs.ShiftedSlots.{next_shifted}

-- in a slot that whole periods lead to, every flow has a release, and its packet has had nothing
none_had : {s : FlowSet} {h : ℕ} → Whole s h → (st : State) → st.slot.0 ≡ h → (k : ℕ) → k < s.count → had_at s st k ≡ 0
none_had {s} {h} w st e k i =
    let z : release_at (flow_at s k) 0 ≡ 0 = omega (arith, latest_le (flow_at s k).start (period s k) 0 (omega (arith, w.zero_starts.1 k i))) in
    let r : release_at (flow_at s k) h ≡ h = omega (arith, ap (release_at (flow_at s k)) (zero-add h), release_later w k 0 i) in
    rw (e, eq-eqb h (release_at (flow_at s k) h) (sym r))

module _ {first : Priority} (o : Ordering first) (shifts : Shifts first) {s : FlowSet} where
  -- slot h begins like slot 0
  first_shifted : {h : ℕ} → Whole s h → h ≤ last_slot → Shifted s h (state_at first s 0) (state_at first s h)
  first_shifted {h} w l =
      let start : Whole s 0 = record { zero_starts = w.zero_starts; divided = λ k i. zero-mod (period s k) } in
      let a = state_slot o s w.zero_starts.0 0 (omega arith) in
      let b = state_slot o s w.zero_starts.0 h l in
      record { slot = omega arith; had = λ k i. none_had w (state_at first s h) b k i ∙ sym (none_had start (state_at first s 0) a k i) }

  -- and so on
  pub run_shifted : {h : ℕ} → Whole s h → (t : ℕ) → t + h ≤ last_slot → Shifted s h (state_at first s t) (state_at first s (t + h))
  run_shifted {h} w zero l = rw (zero-add h) (first_shifted w (omega arith))
  run_shifted {h} w (suc t) l =
      let a = state_next o s w.zero_starts.0 t (omega arith) in
      let b = state_next o s w.zero_starts.0 (t + h) (omega arith) in
      let e : suc t + h ≡ t + h + 1 = omega arith in
      rw (e, b, ← add-one, a) (next_shifted w (state_at first s t) (state_at first s (t + h)) (run_shifted w t (omega arith)) shifts o)

  -- so slot t is that of t mod h
  pub slot_shifted : {h : ℕ} → Whole s h → (t : ℕ) → t ≤ last_slot → Shifted s (t / h * h) (state_at first s (t % h)) (state_at first s t)
  slot_shifted {h} w t l =
      let e = mod-add-div' t h in
      rw e at (run_shifted (whole_times w (t / h)) (t % h) (omega arith))
