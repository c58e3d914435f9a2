-- A test whose bounds are kept flow by flow.
use Rattle.std.specs.Prelude.{◌≡◌, true}
use Prim.Native.Nat.{ℕ, ◌≤◌, ◌<◌, ◌^◌}
use Rattle.model.specs.declared.kinds.FlowSet.{FlowSet}
use Rattle.model.specs.Limits.{most_channels, last_slot}
use Rattle.model.specs.Refusals.{good}
use Rattle.document.specs.Reader.{record_fault}
use Rattle.promise.specs.Promise.{SlotMachine, Test}
use Rattle.promise.specs.Flows.{FlowKept}

-- a test whose bounds are kept flow by flow, in every accepted set that it admits
abbrev pub FlowsKeep : Test → SlotMachine → Type 0
FlowsKeep test M = (s : FlowSet) → good (record_fault s).refusal ≡ true → s.map.0 < 2 ^ most_channels → test.admits s ≡ true
    → (k n : ℕ) → k < s.count → n ≤ last_slot → FlowKept M s k (test.bound s k) n
