-- A placed packet's transmission is reported, as rule 3 has it: with any order of priority.
use Rattle.std.specs.Prelude.{◌≡◌, true, ℕ, ◌+◌, ◌/◌, ◌%◌, ◌^◌, ◌<◌}
use Rattle.std.proofs.Math.Path.{refl, ap}
use Rattle.std.proofs.Common.{◌∙◌}
use native.Mathlib.Omega.{arith}
use Rattle.std.proofs.Math.ListN.{get_or}
use Rattle.model.specs.declared.kinds.FlowSet.{FlowSet}
use Rattle.model.specs.Limits.{most_channels, last_slot}
use Rattle.model.specs.Refusals.{good}
use Rattle.model.specs.Sets.{flow_at}
use Rattle.document.specs.Reader.{record_fault}
use Rattle.document.specs.Machine.{Priority, had_at, placed_with, send_of, step_with}
use Rattle.promise.specs.Promise.{report, send, Is}
use Rattle.promise.specs.SlotChoice.{Ordering}
use Rattle.promise.specs.RunStates.{state_at, state_slot}
use Rattle.promise.specs.Timetable.{placed_in, number_in, number_eq}
use Rattle.promise.specs.Reports.{memb_place, sends_eq, send_eq, link_from, link_to}

module _ {first : Priority} (o : Ordering first) where
  module _ (s : FlowSet) (g : good (record_fault s).refusal ≡ true) where
    pub send_is : (k t p : ℕ) → t < last_slot → Is s t k (number_in first s k t) (send_of s (state_at first s t) k p)
    unfolding send_of
    send_is k t p h =
        let n = number_eq o s g k t (omega arith) in
        record {
          which = (omega (arith, state_slot o s g t (omega arith)), refl, ap (λ (i : ℕ). i % (flow_at s k).tries) n);
          from = link_from (flow_at s k).route (had_at s (state_at first s t) k / (flow_at s k).tries)
              ∙ ap (λ (i : ℕ). get_or (flow_at s k).route (i / (flow_at s k).tries) 0) n;
          to = omega (
            arith,
            link_to (flow_at s k).route (had_at s (state_at first s t) k / (flow_at s k).tries),
            ap (λ (i : ℕ). get_or (flow_at s k).route (i / (flow_at s k).tries + 1) 0) n,
          );
        }

    -- a placed packet's transmission is reported, as rule 3 has it
    pub placed_sent : (k t : ℕ) → t < last_slot → s.map.0 < 2 ^ most_channels → placed_in first s k t ≡ true
        → (p : ℕ) × (p < (report (step_with first) s t).sends) × Is s t k (number_in first s k t) (send (report (step_with first) s t) p)
    placed_sent k t h b e =
        let st = state_at first s t in
        let w = memb_place k (placed_with first s st) e in
        let l : w.0 < (report (step_with first) s t).sends = omega (arith, sends_eq o s g t h) in
        (w.0, l, rw (send_eq o s g t w.0 h b l, w.2) (send_is k t w.0 h))
