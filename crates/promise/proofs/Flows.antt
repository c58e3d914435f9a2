-- Flow by flow: with any order of priority, a flow whose packets are all complete in b slots, b at most its deadline, keeps the bound b and loses
-- no packet; with document 01's order that is each flow of an accepted set whose own value is at most its deadline, whatever the others do.
use Rattle.std.specs.Prelude.{◌≡◌, refl, Bool, true, false, cond, List, ℕ, zero, suc, ◌+◌, ◌-◌, ◌≤◌, ◌<◌, ◌^◌, min, eqb, get_or}
use Rattle.std.proofs.Common.{sym, ap, ◌∙◌, le_refl, arith, eq-eqb, ne_eqb}
use Rattle.std.proofs.Math.Decide.{dec_le}
use Rattle.model.specs.declared.kinds.FlowSet.{FlowSet}
use Rattle.model.specs.Limits.{most_channels, last_slot}
use Rattle.model.specs.Refusals.{good}
use Rattle.model.specs.Sums.{bit, sum_to}
use Rattle.model.specs.Sets.{flow_at}
use Rattle.document.specs.Reader.{record_fault}
use Rattle.document.specs.Delay.{period, deadline, work_at, value_at}
use Rattle.document.specs.Machine.{Priority, release, packet_at, release_at, deadline_at, dropped_with, step_with, step_of}
use Rattle.laws.specs.SumLaws.{count, sum_more, sum_next}
use Rattle.laws.specs.Accepted.{Accepted, accepted}
use Rattle.promise.specs.Load as load
use Rattle.promise.specs.Promise.{report, send, Is, Made}
use Rattle.promise.specs.SlotChoice.{Ordering}
use Rattle.promise.specs.DeadlineOrder.{deadline_order}
use Rattle.promise.specs.RunStates.{state_at, dropped_case, state_slot}
use Rattle.promise.specs.Timetable.{placed_in, after_eq, number_counts, number_count}
use Rattle.promise.proofs.Reports.{placed_sent}
use Rattle.promise.specs.Reports.{drops_eq, dropped_eq, filter_at}
use Rattle.promise.specs.Flows.{FlowKept}
use Rattle.promise.proofs.Complete.{complete}

-- the places below n that pass, by their number
record Places (p : ℕ → Bool) (n c : ℕ) : Type 0 where
  at : ℕ → ℕ
  below : (i : ℕ) → i < c → at i < n
  passes : (i : ℕ) → i < c → p (at i) ≡ true
  before : (i : ℕ) → i < c → sum_to (λ i. bit (p i)) (at i) ≡ i

places : (p : ℕ → Bool) (n : ℕ) → Places p n (sum_to (λ i. bit (p i)) n)
unfolding sum_to
places p zero = record { at = λ i. i; below = λ i h. h; passes = λ i h. absurd (omega arith); before = λ i h. absurd (omega arith) }
places p (suc n) = go (p n) refl (places p n)
  where
    c : ℕ
    c = sum_to (λ i. bit (p i)) n

    go : (b : Bool) → p n ≡ b → Places p n c → Places p (suc n) (c + bit b)
    go false e w =
        record {
          at = w.at;
          below = λ i h. omega (arith, w.below i (omega arith));
          passes = λ i h. w.passes i (omega arith);
          before = λ i h. w.before i (omega arith);
        }
    go true e w = record { at = at; below = λ i h. (all i h).0; passes = λ i h. (all i h).1; before = λ i h. (all i h).2 }
      where
        at : ℕ → ℕ
        at i = cond (eqb i c) n (w.at i)

        all : (i : ℕ) → i < c + 1 → (at i < suc n) × (p (at i) ≡ true) × (sum_to (λ i. bit (p i)) (at i) ≡ i)
        all i h =
            elim (dec_le c i) [
              | yes l ↦ let q : i ≡ c = omega arith in rw (eq-eqb i c q) (le_refl (suc n), e, sym q)
              | no l ↦
                  let q = ne_eqb i c (λ q. omega arith) in
                  let z : i < c = omega arith in
                  let x = w.below i z in
                  rw q (omega arith, w.passes i z, w.before i z)
            ]

-- From here on: the machine with any order of priority.
module _ {first : Priority} (o : Ordering first) where
  module _ (s : FlowSet) (g : good (record_fault s).refusal ≡ true) where
    rules : Accepted s
    rules = accepted s g

    -- a packet that is complete b slots after its release is made in these slots: transmission i in the slot before which i were placed
    pub complete_made : (k j b : ℕ) → k < s.count → s.map.0 < 2 ^ most_channels → b ≤ deadline s k → release (flow_at s k) j + b ≤ last_slot
        → count (placed_in first s k) (release (flow_at s k) j) b ≡ work_at s k → Made (step_with first) s k j b
    complete_made k j b l m d h e =
        record { at = λ i. r + w.at i; sent = sent; within = λ i q. (omega arith, omega (arith, w.below i q)); rising = rising }
      where
        r : ℕ
        r = release (flow_at s k) j

        w : Places (λ i. placed_in first s k (r + i)) b (work_at s k)
        w = rw e at (places (λ i. placed_in first s k (r + i)) b)

        sent : (i : ℕ) → i < work_at s k
            → (p : ℕ) × (p < (report (step_with first) s (r + w.at i)).sends) × Is s (r + w.at i) k i (send (report (step_with first) s (r + w.at i)) p)
        sent i q =
            let x = w.below i q in
            let y = (rules.flow k l).deadline_le in
            let n = number_counts o s g k j (w.at i) l (omega arith) (omega arith) ∙ w.before i q in
            rw n at (placed_sent o s g k (r + w.at i) (omega arith) m (w.passes i q))

        rising : (i c : ℕ) → i < c → c < work_at s k → r + w.at i < r + w.at c
        rising i c q z =
            elim (dec_le (w.at c) (w.at i)) [
              | no y ↦ omega arith
              | yes y ↦
                  omega (arith, sum_more (λ i. bit (placed_in first s k (r + i))) (w.at c) (w.at i) y, w.before i (omega arith), w.before c z)
            ]

    -- a dropped packet had fewer than C transmissions in its deadline
    dropped_short : (k t : ℕ) → k < s.count → t < last_slot → dropped_with first s (state_at first s t) k ≡ true
        → (t + 1 ≡ deadline_at (flow_at s k) t) × (count (placed_in first s k) (release_at (flow_at s k) t) (deadline s k) < work_at s k)
    dropped_short k t l h e =
        let w = rw (state_slot o s g t (omega arith)) at (dropped_case o s (state_at first s t) k e) in
        let r = load.latest_le (flow_at s k).start (period s k) t w.0 in
        let d : deadline s k ≡ t - release_at (flow_at s k) t + 1 = omega arith in
        let u : release_at (flow_at s k) t + (t - release_at (flow_at s k) t) ≡ t = omega arith in
        let c = sum_next (λ i. bit (placed_in first s k (release_at (flow_at s k) t + i))) (t - release_at (flow_at s k) t) in
        let n = number_count o s g k t l h w.0 in
        let a = after_eq o s g k t (omega arith) w.0 in
        (w.1, rw d (omega (arith, ap (λ (x : ℕ). bit (placed_in first s k x)) u)))

    -- From here on: a flow k whose packets are all complete b slots after their release, b being at most its deadline.
    module _ (k b : ℕ) (l : k < s.count) (d : b ≤ deadline s k)
        (c : (j : ℕ) → release (flow_at s k) j + b ≤ last_slot → count (placed_in first s k) (release (flow_at s k) j) b ≡ work_at s k) where
      -- none of its packets is dropped
      kept_undropped : (t : ℕ) → t < last_slot → dropped_with first s (state_at first s t) k ≡ true → ⊥
      kept_undropped t h e =
          let w = dropped_short k t l h e in
          let x = c (packet_at (flow_at s k) t) (omega arith) in
          omega (arith, sum_more (λ i. bit (placed_in first s k (release_at (flow_at s k) t + i))) b (deadline s k) d)

      -- and it keeps the bound b
      pub complete_kept : (n : ℕ) → s.map.0 < 2 ^ most_channels → n ≤ last_slot → FlowKept (step_with first) s k b n
      complete_kept n m h =
          record {
            undropped = λ t p i q e.
                let z = drops_eq o s g t (omega arith) in
                let x = (filter_at (dropped_with first s (state_at first s t)) s.count p (omega arith)).1 in
                let y = sym (dropped_eq o s g t p (omega arith) q) ∙ e in
                kept_undropped t (omega arith) (rw y at x);
            made = λ j i. complete_made k j b l m d (omega arith) (c j (omega arith));
          }

-- With document 01's order, and a list v as in `complete`:
module _ (s : FlowSet) (g : good (record_fault s).refusal ≡ true) (v : List ℕ)
    (fit : (l : ℕ) → l < s.count → get_or v l 0 ≤ deadline s l)
    (holds : (l : ℕ) → l < s.count → min (deadline s l) (value_at s v l) ≤ get_or v l 0) where
  -- the flow keeps its value.
  pub flow_kept : (k n : ℕ) → k < s.count → s.map.0 < 2 ^ most_channels → n ≤ last_slot → value_at s v k ≤ deadline s k
      → FlowKept step_of s k (value_at s v k) n
  flow_kept k n l m h d = complete_kept deadline_order s g k (value_at s v k) l d (λ j. complete s g v fit holds k j l d) n m h
