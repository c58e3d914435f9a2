-- In every accepted set, admitted or not, a flow that keeps its bound and loses no packet, whatever the others do.
use Rattle.std.specs.Prelude.{◌≡◌, true, ℕ, ◌≤◌, ◌<◌}
use Rattle.std.proofs.Common.{sym, ◌∙◌}
use Rattle.model.specs.declared.kinds.FlowSet.{FlowSet}
use Rattle.model.specs.{Limits.{last_slot}, Refusals.{good}, Sets.{used}}
use Rattle.document.specs.Reader.{record_fault}
use Rattle.document.specs.Delay.{deadline, bounds_of}
use Rattle.document.specs.Machine.{step_of}
use Rattle.document.specs.Fixed.{fixed_step, fixed_bounds_of}
use Rattle.promise.specs.{Promise.{Held}, Flows.{FlowKept}}
use Rattle.promise.proofs.Demand.{used_bits, basic_flow, tight_flow}
use Rattle.promise.proofs.FixedPromise.{fixed_bound_is, judged_is, fixed_flow}

-- Document 01's machine: each flow whose own bound, of either test, is at most its deadline keeps it and loses no packet.
pub safe_flow : (s : FlowSet) → Held s → good (record_fault (used s)).refusal ≡ true → (k n : ℕ) → k < (used s).count → n ≤ last_slot
    → ((bounds_of (used s) k).basic ≤ deadline (used s) k → FlowKept step_of (used s) k (bounds_of (used s) k).basic n)
    × ((bounds_of (used s) k).tightened ≤ deadline (used s) k → FlowKept step_of (used s) k (bounds_of (used s) k).tightened n)
safe_flow s w g k n l h = (basic_flow (used s) g (used_bits s w) k n l h, tight_flow (used s) g (used_bits s w) k n l h)

-- The machine with fixed priority, of the answer for one flow: every flow before the first one over its deadline, in any accepted set
pub fixed_safe_flow : (s : FlowSet) → Held s → good (record_fault (used s)).refusal ≡ true → (k n : ℕ) → k < (used s).count → n ≤ last_slot
    → (fixed_bounds_of (used s) k).judged ≡ true → (fixed_bounds_of (used s) k).bound ≤ deadline (used s) k
    → FlowKept fixed_step (used s) k (fixed_bounds_of (used s) k).bound n
fixed_safe_flow s w g k n l h e d =
    let u = used s in
    fixed_flow u g (used_bits s w) k n l h (sym (judged_is u g k l) ∙ e) (rw (fixed_bound_is u g k l) at d)
