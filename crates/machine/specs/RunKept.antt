-- The promise, as the contract of a run has it, by either order: no budget makes an admitted set drop a packet.
use Rattle.std.specs.Prelude.{◌≡◌, true, ℕ, ◌≤◌, min}
use Rattle.std.proofs.Common.{refl, ap, ◌∙◌, arith}
use Rattle.model.specs.declared.kinds.FlowSet.{FlowSet}
use Rattle.model.specs.declared.answers.Ran.{Ran}
use Rattle.model.specs.Limits.{last_slot}
use Rattle.model.specs.Refusals.{good}
use Rattle.model.specs.Sets.{used}
use Rattle.document.specs.Reader.{record_fault}
use Rattle.document.specs.Machine.{Priority, ahead, lower, run_with, run_of}
use Rattle.document.specs.Fixed.{fixed_run, fixed_verdict_of}
use Rattle.machine.specs.States.{run_cut}
use Rattle.promise.specs.Promise.{Admitted}
use Rattle.promise.proofs.Demand.{admitted_good, run_keeps}
use Rattle.promise.proofs.FixedPromise.{fixed_good, fixed_run_keeps}

-- a run beyond the last slot changes nothing more, so what drops nothing up to there drops nothing
dropped_cut : (first : Priority) (s : FlowSet) → good (record_fault s).refusal ≡ true → (budget : ℕ)
    → ((n : ℕ) → n ≤ last_slot → (run_with first s n).dropped ≡ 0) → (run_with first s budget).dropped ≡ 0
dropped_cut first s g budget f = ap (λ (r : Ran). r.dropped) (run_cut first s g budget) ∙ f (min budget last_slot) (omega arith)

pub never_drops_in : (s : FlowSet) → s.map.0 ≤ 65535 → (budget : ℕ) (r : Ran) → r ≡ run_of (used s) budget → Admitted (used s) → r.dropped ≡ 0
never_drops_in s w budget r e a = rw e (dropped_cut ahead (used s) (admitted_good (used s) a) budget (run_keeps s (omega (arith, w)) a))

pub fixed_never_drops_in : (s : FlowSet) → s.map.0 ≤ 65535 → (budget : ℕ) (r : Ran) → r ≡ fixed_run (used s) budget
    → (fixed_verdict_of (used s)).admitted ≡ true → r.dropped ≡ 0
fixed_never_drops_in s w budget r e a = rw e (dropped_cut lower (used s) (fixed_good (used s) a) budget (fixed_run_keeps s (omega (arith, w)) a))

-- the same of the run itself
pub never_drops : (s : FlowSet) → s.map.0 ≤ 65535 → (budget : ℕ) → Admitted (used s) → (run_of (used s) budget).dropped ≡ 0
never_drops s w budget a = never_drops_in s w budget (run_of (used s) budget) refl a

pub fixed_never_drops : (s : FlowSet) → s.map.0 ≤ 65535 → (budget : ℕ) → (fixed_verdict_of (used s)).admitted ≡ true
    → (fixed_run (used s) budget).dropped ≡ 0
fixed_never_drops s w budget a = fixed_never_drops_in s w budget (fixed_run (used s) budget) refl a
