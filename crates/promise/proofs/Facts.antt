-- The machine's own facts, with any order of priority, in every accepted set, whether a test admits it or not: a slot sends a flow at most once,
-- and what it sends is the transmission whose number is how often the packet was sent before. So each number comes at most once in a packet, in
-- order.
use Rattle.std.specs.Prelude.{◌≡◌, refl, ◌≢◌, Bool, true, false, ℕ, ◌+◌, ◌-◌, ◌≤◌, ◌<◌, ◌^◌, eqb, get_or}
use Rattle.std.proofs.Common.{sym, ◌∙◌, arith, eqb-true, eq-eqb}
use Rattle.std.proofs.Math.Path.{ap}
use Rattle.model.specs.declared.kinds.FlowSet.{FlowSet}
use Rattle.model.specs.declared.answers.Send.{Send}
use Rattle.model.specs.Limits.{most_channels, last_slot}
use Rattle.model.specs.Refusals.{good}
use Rattle.model.specs.Sums.{bit}
use Rattle.model.specs.Sets.{flow_at}
use Rattle.document.specs.Reader.{record_fault}
use Rattle.document.specs.Delay.{period}
use Rattle.document.specs.Machine.{Priority, release_at, placed_with, send_of, step_with}
use Rattle.laws.specs.SumLaws.{sum_ext, sum_more, sum_next, any_in, any_find}
use Rattle.promise.specs.Load.{latest_le}
use Rattle.promise.specs.Promise.{report, send}
use Rattle.promise.specs.SlotChoice.{Ordering}
use Rattle.promise.specs.RunStates.{state_at, choice}
use Rattle.promise.specs.Timetable.{placed_in, number_in, placed_ready, number_count}
use Rattle.promise.specs.Reports.{sends_eq, send_eq, sent_placed}
use Rattle.promise.proofs.Reports.{send_is, placed_sent}
use Rattle.promise.specs.Facts.{has_flow, sent_before, Next}

-- tests that imply each other are the same
same_test : (a b : Bool) → (a ≡ true → b ≡ true) → (b ≡ true → a ≡ true) → a ≡ b
same_test true b f h = sym (f refl)
same_test false true f h = h refl
same_test false false f h = refl

-- From here on: the machine with any order of priority.
module _ {first : Priority} (o : Ordering first) where
  module _ (s : FlowSet) (g : good (record_fault s).refusal ≡ true) (bits : s.map.0 < 2 ^ most_channels) where
    -- transmission p is of the flow placed at p
    flow_eq : (t p : ℕ) → t < last_slot → p < (report (step_with first) s t).sends
        → (send (report (step_with first) s t) p).flow ≡ get_or (placed_with first s (state_at first s t)) p 0
    unfolding send_of
    flow_eq t p h l = ap (λ (x : Send). x.flow) (send_eq o s g t p h bits l)

    has_placed : (k t : ℕ) → t < last_slot → has_flow (report (step_with first) s t) k ≡ placed_in first s k t
    has_placed k t h = same_test _ _ to from
      where
        to : has_flow (report (step_with first) s t) k ≡ true → placed_in first s k t ≡ true
        to e =
            let w = any_find (λ p. eqb (send (report (step_with first) s t) p).flow k) (report (step_with first) s t).sends e in
            let q = sym (flow_eq t w.0 h w.1) ∙ eqb-true _ k w.2 in
            rw q at (sent_placed o s g t w.0 h w.1)

        from : placed_in first s k t ≡ true → has_flow (report (step_with first) s t) k ≡ true
        from e =
            let w = placed_sent o s g k t h bits e in
            any_in (λ p. eqb (send (report (step_with first) s t) p).flow k) (report (step_with first) s t).sends w.0 w.1 (eq-eqb _ k w.2.which.1)

    -- the number of a transmission is how often its packet was sent before
    number_sent : (k t : ℕ) → k < s.count → t < last_slot → (flow_at s k).start ≤ t → number_in first s k t ≡ sent_before (step_with first) s k t
    number_sent k t l h a =
        number_count o s g k t l h a ∙ sum_ext _ _ (t - release_at (flow_at s k) t)
        (λ i d. ap bit (sym (has_placed k (release_at (flow_at s k) t + i) (omega arith))))

    placed_next : (k t p : ℕ) → t < last_slot → placed_in first s k t ≡ true → Next (step_with first) s t (send_of s (state_at first s t) k p)
    unfolding send_of
    placed_next k t p h e =
        let l = ((choice o s (state_at first s t)).only k e).0 in
        let r = placed_ready o s g k t (omega arith) e in
        let n = number_sent k t l h r.0 in
        record {
          flow = l;
          released = latest_le (flow_at s k).start (period s k) t r.0;
          due = r.1;
          short = rw (← n) r.2;
          is = rw n at (send_is o s g k t p h);
        }

    -- What a slot sends.
    pub sent_next : (t p : ℕ) → t < last_slot → p < (report (step_with first) s t).sends → Next (step_with first) s t (send (report (step_with first) s t) p)
    sent_next t p h l = rw (send_eq o s g t p h bits l) (placed_next (get_or (placed_with first s (state_at first s t)) p 0) t p h (sent_placed o s g t p h l))

    -- no flow twice in a slot
    pub flow_once : (t p q : ℕ) → t < last_slot → p < q → q < (report (step_with first) s t).sends
        → (send (report (step_with first) s t) p).flow ≢ (send (report (step_with first) s t) q).flow
    flow_once t p q h k l e =
        (choice o s (state_at first s t)).once p q k (omega (arith, sends_eq o s g t h)) (sym (flow_eq t p h (omega arith)) ∙ e ∙ flow_eq t q h l)

    -- and of two slots of one packet the later has the higher number
    pub numbers_rise : (k t u : ℕ) → t < u → release_at (flow_at s k) t ≡ release_at (flow_at s k) u → release_at (flow_at s k) t ≤ t
        → has_flow (report (step_with first) s t) k ≡ true → sent_before (step_with first) s k t < sent_before (step_with first) s k u
    numbers_rise k t u h e d b =
        let r = release_at (flow_at s k) t in
        let f : ℕ → ℕ = λ i. bit (has_flow (report (step_with first) s (r + i)) k) in
        let q : r + (t - r) ≡ t = omega arith in
        let z : f (t - r) ≡ 1 = rw (q, b) in
        rw (← e) (omega (arith, sum_next f (t - r), sum_more f (t - r + 1) (u - r) (omega arith)))
