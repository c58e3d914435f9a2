-- The first fault among the flows from a number on: the flow there has it, or it is the first of those after.
use Rattle.std.specs.Prelude.{◌≡◌, true, false, ℕ, suc, ◌+◌, ◌-◌, ◌≤◌, ◌<◌}
use Rattle.std.proofs.Common.{sym, ap, arith}
use borrow.Author.Tests.{le-leb}
use Rattle.model.specs.declared.kinds.FlowSet.{FlowSet}
use Rattle.model.specs.declared.answers.Refusal.{Refusal}
use Rattle.model.specs.declared.answers.Refusal.TheVariants.{TooManyFlows}
use Rattle.model.specs.Limits.{most_flows}
use Rattle.model.specs.Refusals.{good, fault_at, no_fault}
use Rattle.model.specs.Sets.{flow_at, exact, used}
use Rattle.document.specs.Reader.{map_fault, flow_fault, record_flow_fault, flows_fault, record_fault}
use Rattle.laws.specs.Used.{used_flow}

module _ (s : FlowSet) (k : ℕ) (below : k < s.count) where
  left : s.count - k ≡ suc (s.count - (k + 1))
  left = omega arith

  -- the flow at k, with what the code found of it
  pub flows_here : (r : Refusal) → r ≡ record_flow_fault k (flow_at (used s) k) → good r ≡ false
      → fault_at r (k + 2) ≡ flows_fault (used s) k (s.count - k)
  unfolding flows_fault
  flows_here r e b = rw (left, ← e, b)

  pub flows_on : good (record_flow_fault k (exact (flow_at s k))) ≡ true
      → flows_fault (used s) k (s.count - k) ≡ flows_fault (used s) (k + 1) (s.count - (k + 1))
  unfolding flows_fault
  flows_on b = rw (left, used_flow s k below, b)

  pub flow_fault_at : record_flow_fault k (exact (flow_at s k)) ≡ record_flow_fault k (flow_at (used s) k)
  flow_fault_at = ap (record_flow_fault k) (sym (used_flow s k below))

  pub too_many : most_flows ≤ k → TooManyFlows ≡ record_flow_fault k (flow_at (used s) k)
  unfolding flow_fault
  too_many h = rw (le-leb _ _ h)

pub flows_end : (s : FlowSet) (k : ℕ) → s.count ≤ k → no_fault ≡ flows_fault (used s) k (s.count - k)
unfolding flows_fault
flows_end s k h = let e : s.count - k ≡ 0 = omega arith in rw e

-- the map's fault, or the flows'
pub record_first : (s : FlowSet) (r : Refusal) → r ≡ map_fault s.map.0 → good r ≡ false → fault_at r 1 ≡ record_fault (used s)
unfolding record_fault used
record_first s r e b = rw (← e, b)

pub record_on : (s : FlowSet) → good (map_fault s.map.0) ≡ true → flows_fault (used s) 0 s.count ≡ record_fault (used s)
unfolding record_fault used
record_on s b = rw b
