-- Two states that are whole periods apart and in which the packets have had as many transmissions: the same packets are ready, go over the same
-- links and are placed, with any order of priority that shifts. So the next two states are such a pair again.
use Rattle.std.specs.Prelude.{◌≡◌, Bool, true, ◌&&◌, cond, ℕ, ◌+◌, ◌≤◌, ◌<◌, eqb}
use Rattle.std.proofs.Common.{sym, ap, ◌∙◌, arith, le-leb}
use Rattle.std.proofs.Math.Path.{ap₂}
use mathlib.Core.List.{List}
use Rattle.std.proofs.Math.Dec.{ltb}
use Rattle.model.specs.declared.kinds.FlowSet.{FlowSet}
use Rattle.model.specs.declared.kinds.State.{State}
use Rattle.model.specs.Limits.{most_flows}
use Rattle.model.specs.Sums.{bit}
use Rattle.model.specs.Sets.{flow_at, memb, meet}
use Rattle.document.specs.Delay.{ways, work_at}
use Rattle.document.specs.Machine.{Priority, ready, released, release_at, next_count, had_at, ready_at, count_at, due_at, link_of, link_at, clash_at, placed_with, count_with, next_with}
use Rattle.laws.specs.Accepted.{accepted}
use Rattle.promise.specs.SameChoice.{choice_same}
use Rattle.promise.specs.SlotChoice.{Ordering}
use Rattle.promise.specs.RunStates.{next_count_law}
use Rattle.promise.specs.Shifts.{Whole, Shifted, Shifts, release_later, due_shifted, ltb_more, eqb_more}

module _ {s : FlowSet} {h : ℕ} (w : Whole s h) where
  -- every flow is released from slot 0 on
  started : (k t : ℕ) → k < s.count → released (flow_at s k) t ≡ true
  started k t i = le-leb (flow_at s k).start t (omega (arith, w.zero_starts.1 k i))

  -- t + h is a release slot when t is one
  pub release_test : (k t : ℕ) → k < s.count → eqb (t + h) (release_at (flow_at s k) (t + h)) ≡ eqb t (release_at (flow_at s k) t)
  release_test k t i = ap (eqb (t + h)) (release_later w k t i) ∙ eqb_more t (release_at (flow_at s k) t) h

  module _ (st later : State) (d : Shifted s h st later) where
    -- the same packets are ready
    ready_same : (k : ℕ) → k < s.count → ready_at s later k ≡ ready_at s st k
    unfolding ready
    ready_same k i =
        let a : ltb later.slot.0 (due_at s later k) ≡ ltb st.slot.0 (due_at s st k) =
        ap₂ ltb d.slot (due_shifted w st later d k i) ∙ ltb_more st.slot.0 (due_at s st k) h in
        rw (started k later.slot.0 i, started k st.slot.0 i) (ap₂ (λ (x : Bool) (n : ℕ). x && ltb n (work_at s k)) a (d.had k i))

    -- over the same links
    pub link_same : (k : ℕ) → k < s.count → link_at s later k ≡ link_at s st k
    link_same k i = ap (link_of (flow_at s k)) (d.had k i)

    clash_same : (k l : ℕ) → k < s.count → l < s.count → clash_at s later k l ≡ clash_at s st k l
    clash_same k l i j = ap₂ meet (link_same k i) (link_same l j)

    module _ {first : Priority} (shifts : Shifts first) where
      -- and the same are placed
      pub placed_same : placed_with first s later ≡ placed_with first s st
      unfolding placed_with
      placed_same =
          choice_same s.count (ways s) (first s later) (first s st) (clash_at s later) (clash_at s st) (ready_at s later) (ready_at s st)
          (shifts s h st later w d) clash_same ready_same

      count_same : (k : ℕ) → k < s.count → count_with first s later k ≡ count_with first s st k
      unfolding count_with next_count
      count_same k i =
          rw (started k later.slot.0 i, started k st.slot.0 i)
          (ap₂ (λ (n : ℕ) (ls : List ℕ). n + bit (memb k ls)) (d.had k i) placed_same)

      -- and the next states are shifted
      pub next_shifted : Ordering first → Shifted s h (next_with first s st) (next_with first s later)
      unfolding next_with
      next_shifted o = record { slot = omega (arith, d.slot); had = λ k i. had k i }
        where
          few : s.count ≤ most_flows
          few = (accepted s w.zero_starts.0).count_le

          count : (k : ℕ) → k < s.count → count_at (next_with first s later) k ≡ count_at (next_with first s st) k
          count k i = next_count_law o s later k i few ∙ count_same k i ∙ sym (next_count_law o s st k i few)

          had : (k : ℕ) → k < s.count → had_at s (next_with first s later) k ≡ had_at s (next_with first s st) k
          had k i =
              let t : ℕ = st.slot.0 + 1 in
              let e : later.slot.0 + 1 ≡ t + h = omega (arith, d.slot) in
              let b : eqb (later.slot.0 + 1) (release_at (flow_at s k) (later.slot.0 + 1)) ≡ eqb t (release_at (flow_at s k) t) =
              ap (λ (x : ℕ). eqb x (release_at (flow_at s k) x)) e ∙ release_test k t i in
              ap₂ (λ (x : Bool) (n : ℕ). cond x 0 n) b (count k i)
