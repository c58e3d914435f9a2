-- What is said of one flow.
use Rattle.std.specs.Prelude.{◌≢◌, ℕ, ◌+◌, ◌≤◌, ◌<◌, get_or}
use Rattle.model.specs.declared.kinds.FlowSet.{FlowSet}
use Rattle.model.specs.Sets.{flow_at}
use Rattle.document.specs.Machine.{release}
use Rattle.promise.specs.Promise.{SlotMachine, report, Made}

-- flow k loses no packet in the first n slots, and keeps the bound b
pub record FlowKept (M : SlotMachine) (s : FlowSet) (k b n : ℕ) : Type 0 where
  pub undropped : (t p : ℕ) → t < n → p < (report M s t).drops → get_or (report M s t).dropped p 0 ≢ k
  pub made : (j : ℕ) → release (flow_at s k) j + b ≤ n → Made M s k j b
